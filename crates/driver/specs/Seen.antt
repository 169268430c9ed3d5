-- Steps, answers and the log of the code, in the words of the log.
use Rattle.std.specs.Prelude.{◌≡◌, ℕ, List, map, Some, None, vec_items, Vec, Option}
use Rattle.std.specs.declared.alloc.Global.{Global}
use Rattle.aka.specs.declared.ticket.Ticket.{Ticket}
use Rattle.aka.specs.declared.network.NetworkEnd.{NetworkEnd}
use Rattle.aka.specs.declared.card.CardEnd.{CardEnd}
use Rattle.aka.specs.States.{Network, Done}
use Rattle.aka.specs.Views.{network_of, card_number}
use Rattle.session.specs.Log.{Pair, Call, challenge, confirm, resync, lapse, receive, trace, Entry}
use Rattle.session.specs.Log as log
use Rattle.driver.specs.declared.types.End.{End}
use Rattle.driver.specs.declared.types.End.TheVariants as end
use Rattle.driver.specs.declared.types.Step.{Step}
use Rattle.driver.specs.declared.types.Step.TheVariants as step
use Rattle.driver.specs.declared.types.Answer.{Answer}
use Rattle.driver.specs.declared.types.Noted.{Noted}
use Rattle.driver.specs.Yields.{yield_of}

abbrev pub end_of : End → log.End
end_of end.Network = log.network
end_of end.Card = log.card

abbrev pub call_of : Step (Vec ℕ Global) → Call
call_of (step.Challenge rand amf room scratch) = challenge (vec_items rand) (vec_items amf) room scratch
call_of (step.Confirm serial res) = confirm serial (vec_items res)
call_of (step.Resync serial auts scratch) = resync serial (vec_items auts) scratch
call_of (step.Lapse serial) = lapse serial
call_of (step.Receive rand autn room auts_room scratch) = receive (vec_items rand) (vec_items autn) room auts_room scratch
call_of (step.Trace e index rand size carried room scratch) = trace (end_of e) index (vec_items rand) size (vec_items carried) room scratch

-- what a technician answers: the next call, or the end
abbrev pub choice_of : Option (Step (Vec ℕ Global)) → Option Call
choice_of None = None
choice_of (Some s) = Some (call_of s)

abbrev pub entry_of : Noted → Entry
entry_of n =
    record {
      call = call_of n.call;
      yielded = yield_of n.answer.yielded;
      wrote = vec_items n.answer.wrote;
      wrote_auts = vec_items n.answer.wrote_auts;
    }

abbrev pub logged : List Noted → List Entry
logged ns = map entry_of ns

abbrev pub serials : List Ticket → List ℕ
serials ts = map (λ (t : Ticket). t.serial) ts

-- a pair by its parts
abbrev pub pair_at : Network → List ℕ → Pair
pair_at n k = record { net = n; card = k }

-- what moves at the two ends
abbrev pub pair_of : {K L : Type 0} → NetworkEnd K → CardEnd L → Pair
pair_of n c = record { net = network_of n; card = card_number c }

-- What a call answered is what is done, and so is what it left.
pub record Made {S : Type 0} (done : Done S) (a : Answer) (end : S) : Type 0 where
  pub told : yield_of a.yielded ≡ done.yields
  pub wrote : vec_items a.wrote ≡ done.writes
  pub wrote_auts : vec_items a.wrote_auts ≡ done.writes_auts
  pub left : end ≡ done.after
