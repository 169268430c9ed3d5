-- After a resync the card accepts.
use Rattle.std.proofs.Common.{◌≡◌, ℕ, ◌<◌, ◌≤◌, false, ◌⊎◌, List, ◌∷◌, ◌++◌, None, sym, ap, ◌∙◌, subst, inl, inr, ⊎_elim, append_assoc, arith}
use Rattle.std.proofs.lemmas.Bool.{true≢false}
use Rattle.block.specs.Bytes.{IsBlock}
use Rattle.block.specs.Numbers.{value}
use Rattle.aka.specs.Numbers.{next_number}
use Rattle.aka.specs.Setup.{Setup, SoundSetup}
use Rattle.aka.specs.Tokens.{auts, auts_number}
use Rattle.aka.specs.States.{Done, stale, pending_rand, raised, kept}
use Rattle.aka.specs.Calls.{does_receive, does_resync}
use Rattle.session.specs.Log.{Pair, Call, Entry, does, Notes, Session, after}
use Rattle.session.specs.Laws.{Takes, WritesAuts, OpenRand, ResyncRestores}
use Rattle.session.proofs.Asked
use Rattle.session.proofs.Steps
use Rattle.session.proofs.Steps.{Stands}
use Rattle.session.proofs.Sessions.{then, two, session_front, session_rest, after_append, after_cons}
use Rattle.session.proofs.Rising

module _ (s : Setup) (ok : SoundSetup s) (blocks : (x : List ℕ) → IsBlock x → IsBlock (s.forth x)) where
  writes_is : (p : Pair) (e : Entry) (rand a : List ℕ) → Notes s s p e → WritesAuts e rand a → (a ≡ auts s rand p.card) × ((then s s p e).card ≡ p.card)
  writes_is p e rand a n g =
      let c = ap (does s s p) g.call in
      let i = Steps.behind_is s p.card rand g.autn g.room g.auts_room g.scratch (ap (λ (d : Done Pair). d.yields) (sym c) ∙ sym n.yielded ∙ g.yielded) in
      (sym g.wrote_auts ∙ n.wrote_auts ∙ ap (λ (d : Done Pair). d.writes_auts) c ∙ i.0, ap (λ (d : Done Pair). d.after.card) c ∙ i.1)

  takes_is : (p : Pair) (e : Entry) (a : List ℕ) → Notes s s p e → (g : Takes e a)
      → (stale g.serial p.net.pending ≡ false) × (value (auts_number s (pending_rand p.net.pending) a) ≤ value (then s s p e).net.number)
  takes_is p e a n g =
      let c = ap (does s s p) g.call in
      let y = ap (λ (d : Done Pair). d.yields) (sym c) ∙ sym n.yielded in
      let i : (stale g.serial p.net.pending ≡ false)
      × (value (auts_number s (pending_rand p.net.pending) a) ≤ value (does_resync s p.net g.serial a g.scratch).after.number) =
      ⊎_elim (λ h. Steps.resynced_is s p.net g.serial a g.scratch raised (y ∙ h) tt) (λ h. Steps.resynced_is s p.net g.serial a g.scratch kept (y ∙ h) tt)
      g.yielded in
      (i.0, omega (arith, i.1, ap (λ (d : Done Pair). value d.after.net.number) c))

  -- The RAND that the network end keeps is the open one of the log, unless the challenge ended.
  kept_rand : (p : Pair) (log : List Entry) (rand : List ℕ) → Stands s p → Session s s p log → OpenRand s log rand
      → (pending_rand (after s s p log).net.pending ≡ rand) ⊎ ((after s s p log).net.pending ≡ None)
  kept_rand p log rand w h o =
      let P : List Entry → Type 0 = λ l. Session s s p l in
      let k = subst P o.stands h in
      let a = session_rest s s p o.earlier (o.last ∷ o.later) k in
      let q = after s s p o.earlier in
      let v = Rising.stands s ok blocks p o.earlier w (session_front s s p o.earlier (o.last ∷ o.later) k) in
      let at = ap (λ (l : List Entry). after s s p l) o.stands ∙ after_append s s p o.earlier (o.last ∷ o.later) ∙ after_cons s s q o.last o.later in
      ⊎_elim
      (λ e. inl (ap (λ (x : Pair). pending_rand x.net.pending) at ∙ ap pending_rand e ∙ Rising.gives_pending s ok blocks q v o.last rand o.autn a.0 o.gives))
      (λ e. inr (ap (λ (x : Pair). x.net.pending) at ∙ e))
      (Rising.pending_kept s ok blocks (then s s q o.last) o.later (Steps.moves s ok blocks q v o.last.call a.0.handed).stands a.1 o.none_later)

  pub resync_restores : (p : Pair) (log : List Entry) → Stands s p → Session s s p log → ResyncRestores s log
  resync_restores p log w h l₀ l₁ l₂ l₃ l₄ writes takes gives arrives r a rand autn' is wr o t g v none_accepted =
      let mid = l₁ ++ takes ∷ l₂ ++ gives ∷ l₃ in
      let A = two s s p log l₀ mid l₄ writes arrives h (is ∙ simp append_assoc) in
      let B = two s s p log (l₀ ++ writes ∷ l₁) l₂ (l₃ ++ arrives ∷ l₄) takes gives h (is ∙ append_assoc _ (gives ∷ l₃) (arrives ∷ l₄)) in
      let p₁ = after s s p l₀ in
      let p₃ = after s s p (l₀ ++ writes ∷ l₁) in
      let p₅ = after s s (then s s p₃ takes) l₂ in
      let p₇ = after s s (then s s p₁ writes) mid in
      let w₁ = Rising.stands s ok blocks p l₀ w A.earlier in
      let w₂ = (Steps.moves s ok blocks p₁ w₁ writes.call A.first.handed).stands in
      let w₃ = Rising.stands s ok blocks p (l₀ ++ writes ∷ l₁) w B.earlier in
      let w₄ = (Steps.moves s ok blocks p₃ w₃ takes.call B.first.handed).stands in
      let w₅ = Rising.stands s ok blocks (then s s p₃ takes) l₂ w₄ B.meanwhile in
      let sqn = next_number p₅.net.number in
      let wi = writes_is p₁ writes r a A.first wr in
      let ti = takes_is p₃ takes a B.first t in
      let gi = Rising.gives_is s ok blocks p₅ w₅ gives rand autn' B.second g in
      let kept : p₇.card ≡ p₁.card = Rising.card_kept s ok blocks (then s s p₁ writes) mid w₂ A.meanwhile none_accepted ∙ wi.1 in
      let open_is : pending_rand p₃.net.pending ≡ r =
      ⊎_elim (λ e. e) (λ e. absurd (true≢false (sym (Steps.stale_none t.serial) ∙ ap (stale t.serial) (sym e) ∙ ti.0)))
      (kept_rand p (l₀ ++ writes ∷ l₁) r w B.earlier o) in
      let tells : auts_number s (pending_rand p₃.net.pending) a ≡ p₁.card =
      ap (λ (x : List ℕ). auts_number s x a) open_is ∙ ap (auts_number s r) wi.0 ∙ Asked.auts_number_is s ok r p₁.card w₁.card.long in
      let above : value p₇.card < value sqn =
      omega (
        arith,
        ap value kept,
        ap value tells,
        ti.1,
        Rising.number_up s ok blocks (then s s p₃ takes) l₂ w₄ B.meanwhile,
        Rising.next_is s ok blocks p₅ w₅ gives rand autn' B.second g,
      ) in
      record {
        room = v.room;
        auts_room = v.auts_room;
        scratch = v.scratch;
        call = v.call;
        yielded = A.second.yielded ∙ ap (λ (x : Call). (does s s p₇ x).yields) v.call
            ∙ ap (λ (x : List ℕ). (does_receive s p₇.card rand x v.room v.auts_room v.scratch).yields)
            (Rising.gives_autn s ok blocks p₅ w₅ gives rand autn' B.second g)
            ∙ Steps.accepts_when s ok p₇.card rand g.amf sqn v.room v.auts_room v.scratch gi.rand_size gi.amf_size
            (Rising.next_long s ok blocks p₅ w₅ gives rand autn' B.second g) v.answers_fit v.auts_fits v.scratch_fits above;
      }
