-- Tickets held, by their serials.
use Rattle.std.proofs.Common.{◌≡◌, ◌≢◌, ℕ, zero, suc, ◌<◌, Bool, true, false, cond, ◌||◌, eqb, List, [], ◌∷◌, length, sym, refl, ap, ◌∙◌, arith}
use Rattle.std.specs.List.{AllWithin, HoldsAt, remove}
use Rattle.std.proofs.lemmas.Bool.{eq-eqb, ne_eqb}
use Rattle.aka.specs.declared.ticket.Ticket.{Ticket}
use Rattle.driver.specs.Seen.{serials}
use Rattle.driver.specs.Driven.{among, without}

-- ── the first ticket of a serial ──

among_here : (n x : ℕ) (xs : List ℕ) → x ≡ n → (among n (x ∷ xs) ≡ true) × (without n (x ∷ xs) ≡ xs)
unfolding among without
among_here n x xs h =
    let e : eqb x n ≡ true = eq-eqb x n h in
    (ap (λ (b : Bool). b || among n xs) e, ap (λ (b : Bool). cond b xs (x ∷ without n xs)) e)

among_later : (n x : ℕ) (xs : List ℕ) → x ≢ n → (among n (x ∷ xs) ≡ among n xs) × (without n (x ∷ xs) ≡ x ∷ without n xs)
unfolding among without
among_later n x xs h =
    let e : eqb x n ≡ false = ne_eqb x n h in
    (ap (λ (b : Bool). b || among n xs) e, ap (λ (b : Bool). cond b xs (x ∷ without n xs)) e)

among_none : (n : ℕ) → among n [] ≡ false
unfolding among
among_none n = refl

module _ (n : ℕ) where
  abbrev pub Of : Ticket → Type 0
  Of t = t.serial ≡ n

  abbrev pub Other : Ticket → Type 0
  Other t = t.serial ≢ n

  pub first_out : (ts : List Ticket) (i : ℕ) → i < length ts → HoldsAt Of ts i → AllWithin Other ts 0 i
      → (among n (serials ts) ≡ true) × (serials (remove ts i) ≡ without n (serials ts))
  first_out [] i h here before = absurd (omega arith)
  first_out (t ∷ ts) zero h here before =
      let a = among_here n t.serial (serials ts) (here t) in
      (a.0, sym a.1)
  first_out (t ∷ ts) (suc i) h here before =
      let a = among_later n t.serial (serials ts) (before 0 t (omega arith) (omega arith)) in
      let rest = first_out ts i (omega arith) here (λ k d _ l. before (suc k) d (omega arith) (omega arith)) in
      (a.0 ∙ rest.0, ap (λ (l : List ℕ). t.serial ∷ l) rest.1 ∙ sym a.1)

  pub nowhere : (ts : List Ticket) → AllWithin Other ts 0 (length ts) → among n (serials ts) ≡ false
  nowhere [] none = among_none n
  nowhere (t ∷ ts) none =
      (among_later n t.serial (serials ts) (none 0 t (omega arith) (omega arith))).0
      ∙ nowhere ts (λ k d _ l. none (suc k) d (omega arith) (omega arith))
