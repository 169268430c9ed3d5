-- Numbers rise along a log.
use Rattle.std.proofs.Common.{◌≡◌, ℕ, ◌+◌, ◌<◌, ◌≤◌, ◌⊎◌, List, [], ◌∷◌, ◌++◌, length, drop, None, sym, refl, ap, ◌∙◌, inl, inr, ⊎_elim, arith, drop_at}
use Rattle.block.specs.Bytes.{IsBlock}
use Rattle.block.specs.Numbers.{value}
use Rattle.aka.specs.Numbers.{next_number}
use Rattle.aka.specs.Setup.{Setup, SoundSetup}
use Rattle.aka.specs.Tokens.{autn, answers, vector, autn_place, autn_number}
use Rattle.aka.specs.States.{Network, Done, pending_rand}
use Rattle.aka.specs.Calls.{does_challenge}
use Rattle.session.specs.Log.{Pair, Entry, at_network, does, Notes, Session, after}
use Rattle.session.specs.Laws.{Gives, Accepts, Holds, NoneAccepted, number_in, ChallengeNumbersRise, AcceptedNumbersRise}
use Rattle.session.proofs.Counting.{length_next, value_next}
use Rattle.session.proofs.Asked
use Rattle.session.proofs.Steps
use Rattle.session.proofs.Steps.{Stands, Issued}
use Rattle.session.proofs.Sessions.{then, two}

later : {e f : Entry} {es : List Entry} → Holds es f → Holds (e ∷ es) f
later {e = e} x = (e ∷ x.0, x.1, ap (λ (l : List Entry). e ∷ l) x.2)

module _ (s : Setup) (ok : SoundSetup s) (blocks : (x : List ℕ) → IsBlock x → IsBlock (s.forth x)) where
  pub stands : (p : Pair) (log : List Entry) → Stands s p → Session s s p log → Stands s (after s s p log)
  unfolding after
  stands p [] w h = w
  stands p (e ∷ es) w h = stands (then s s p e) es (Steps.moves s ok blocks p w e.call h.0.handed).stands h.1

  pub number_up : (p : Pair) (log : List Entry) → Stands s p → Session s s p log → value p.net.number ≤ value (after s s p log).net.number
  unfolding after
  number_up p [] w h = omega arith
  number_up p (e ∷ es) w h =
      let m = Steps.moves s ok blocks p w e.call h.0.handed in omega (arith, m.number_up, number_up (then s s p e) es m.stands h.1)

  pub card_up : (p : Pair) (log : List Entry) → Stands s p → Session s s p log → value p.card ≤ value (after s s p log).card
  unfolding after
  card_up p [] w h = omega arith
  card_up p (e ∷ es) w h =
      let m = Steps.moves s ok blocks p w e.call h.0.handed in omega (arith, m.card_up, card_up (then s s p e) es m.stands h.1)

  pub card_kept : (p : Pair) (log : List Entry) → Stands s p → Session s s p log → NoneAccepted log → (after s s p log).card ≡ p.card
  unfolding after
  card_kept p [] w h no_more = refl
  card_kept p (e ∷ es) w h no_more =
      let m = Steps.moves s ok blocks p w e.call h.0.handed in
      card_kept (then s s p e) es m.stands h.1 (λ f rand autn x. no_more f rand autn (later x))
      ∙ m.card_kept
      (λ rand autn room auts_room scratch c y.
      no_more e rand autn ([], es, refl) (record { room = room; auts_room = auts_room; scratch = scratch; call = c; yielded = h.0.yielded ∙ y }))

  pub pending_kept : (p : Pair) (log : List Entry) → Stands s p → Session s s p log
      → ((e : Entry) (rand autn : List ℕ) → Holds log e → Gives s e rand autn → ⊥)
      → ((after s s p log).net.pending ≡ p.net.pending) ⊎ ((after s s p log).net.pending ≡ None)
  unfolding after
  pending_kept p [] w h no_more = inl refl
  pending_kept p (e ∷ es) w h no_more =
      let m = Steps.moves s ok blocks p w e.call h.0.handed in
      ⊎_elim
      (λ same. ⊎_elim (λ k. inl (same ∙ k)) (λ k. inr (same ∙ k))
      (m.pending
      (λ rand amf room scratch serial c y. no_more e rand (drop (autn_place s.sizes) e.wrote) ([], es, refl)
      (record { amf = amf; room = room; scratch = scratch; serial = serial; call = c; yielded = h.0.yielded ∙ y; wrote = refl }))))
      inr
      (pending_kept (then s s p e) es m.stands h.1 (λ f rand autn x. no_more f rand autn (later x)))

  -- what an entry that gives a challenge tells
  module _ (p : Pair) (w : Stands s p) (e : Entry) (rand a : List ℕ) (n : Notes s s p e) (g : Gives s e rand a) where
    abbrev next : List ℕ
    next = next_number p.net.number

    pub given_by : Done Network
    given_by = does_challenge s p.net rand g.amf g.room g.scratch

    gives_call : does s s p e.call ≡ at_network p given_by
    unfolding given_by
    gives_call = ap (does s s p) g.call

    pub gives_is : Issued s p.net rand g.amf given_by
    unfolding given_by
    gives_is =
        Steps.issued_is s p.net rand g.amf g.room g.scratch g.serial
        (ap (λ (d : Done Pair). d.yields) (sym gives_call) ∙ sym n.yielded ∙ g.yielded)

    pub next_is : value next ≡ value p.net.number + 1
    next_is = value_next p.net.number w.number.bytes gives_is.not_last

    pub next_long : length next ≡ s.sizes.sqn
    next_long = length_next p.net.number ∙ w.number.long

    pub gives_autn : a ≡ autn s rand g.amf next
    unfolding vector
    gives_autn =
        sym g.wrote
        ∙ ap (λ (l : List ℕ). drop (autn_place s.sizes) l) (n.wrote ∙ ap (λ (d : Done Pair). d.writes) gives_call ∙ gives_is.writes)
        ∙ drop_at (rand ++ answers s rand) (autn s rand g.amf next) (autn_place s.sizes) (Asked.length_front s ok rand gives_is.rand_size)

    pub gives_number : number_in s rand a ≡ value p.net.number + 1
    unfolding autn_number
    gives_number =
        ap (λ (l : List ℕ). value (autn_number s rand l)) gives_autn ∙ ap value (Asked.autn_number_is s ok rand next next_long g.amf) ∙ next_is

    pub gives_after : value (then s s p e).net.number ≡ value p.net.number + 1
    gives_after = ap (λ (d : Done Pair). value d.after.net.number) gives_call ∙ ap value gives_is.number ∙ next_is

    pub gives_pending : pending_rand (then s s p e).net.pending ≡ rand
    gives_pending = ap (λ (d : Done Pair). pending_rand d.after.net.pending) gives_call ∙ gives_is.pending

  -- what an entry at which the card accepts tells
  pub accepts_is : (p : Pair) (e : Entry) (rand autn : List ℕ) → Notes s s p e → Accepts e rand autn
      → (value p.card < value (autn_number s rand autn)) × ((then s s p e).card ≡ autn_number s rand autn)
  accepts_is p e rand autn n g =
      let c = ap (does s s p) g.call in
      let i = Steps.accepted_is s p.card rand autn g.room g.auts_room g.scratch (ap (λ (d : Done Pair). d.yields) (sym c) ∙ sym n.yielded ∙ g.yielded) in
      (i.0, ap (λ (d : Done Pair). d.after.card) c ∙ i.1)

  module _ (p : Pair) (w : Stands s p) (log : List Entry) (h : Session s s p log) where
    pub challenge_numbers_rise : ChallengeNumbersRise s log
    challenge_numbers_rise before between behind e f rand a rand' a' is g g' =
        let t = two s s p log before between behind e f h is in
        let at = after s s p before in let q = after s s (then s s at e) between in
        let w₁ = stands p before w t.earlier in
        let w₂ = (Steps.moves s ok blocks at w₁ e.call t.first.handed).stands in
        omega (
          arith,
          gives_number at w₁ e rand a t.first g,
          gives_after at w₁ e rand a t.first g,
          number_up (then s s at e) between w₂ t.meanwhile,
          gives_number q (stands (then s s at e) between w₂ t.meanwhile) f rand' a' t.second g',
        )

    pub accepted_numbers_rise : AcceptedNumbersRise s log
    unfolding autn_number
    accepted_numbers_rise before between behind e f rand a rand' a' is g g' =
        let t = two s s p log before between behind e f h is in
        let at = after s s p before in let q = after s s (then s s at e) between in
        let w₁ = stands p before w t.earlier in
        let w₂ = (Steps.moves s ok blocks at w₁ e.call t.first.handed).stands in
        omega
        (arith, ap value (accepts_is at e rand a t.first g).1, card_up (then s s at e) between w₂ t.meanwhile, (accepts_is q f rand' a' t.second g').0)
