-- The theorems.
use Rattle.std.proofs.Common.{sym, ap, ◌∙◌, subst}
use Rattle.aka.specs.Setup.{Setup, Alike}
use Rattle.aka.specs.declared.sizes.Sizes.{Sizes}
use Rattle.session.specs.Log.{Pair, Fresh}
use Rattle.session.specs.Laws.{EverySessionShows, TokensTellTheirNumbers}
use Rattle.session.proofs.Steps.{Stands, PendingStands}
use Rattle.session.proofs.Asked
use Rattle.session.proofs.Agreeing.{one_setup}
use Rattle.session.proofs.Telling
use Rattle.session.proofs.Rising
use Rattle.session.proofs.Restoring

-- the ends of a fresh pair stand
pub fresh_stands : (s t : Setup) (p : Pair) → Alike s t → Fresh s t p → Stands s p
fresh_stands s t p a f =
    record {
      number = record { long = f.number_long; bytes = f.number_bytes };
      pending = subst (PendingStands s) (sym f.pending) tt;
      card = record { long = f.card_long ∙ ap (λ (z : Sizes). z.sqn) (sym a.sizes); bytes = f.card_bytes };
    }

pub every_session_shows : EverySessionShows
every_session_shows s t back p log undo ok alike fresh h =
    let w = fresh_stands s t p alike fresh in
    let blocks = undo.forth_block in
    let k = one_setup s t ok blocks alike p log w h in
    record {
      equal_blocks_same_question = Telling.equal_blocks_same_question s ok back undo p log k;
      challenge_numbers_rise = Rising.challenge_numbers_rise s ok blocks p w log k;
      accepted_numbers_rise = Rising.accepted_numbers_rise s ok blocks p w log k;
      resync_restores = Restoring.resync_restores s ok blocks p log w k;
    }

pub tokens_tell : TokensTellTheirNumbers
tokens_tell = record {
  auts_tells_the_cards_number = λ s ok rand sqn h. Asked.auts_number_is s ok rand sqn h;
  autn_tells_the_number = λ s ok rand amf sqn h. Asked.autn_number_is s ok rand sqn h amf;
}
