-- Of grounds listed by rising number, the first that holds is the smallest.
use Rattle.std.proofs.Common.{◌≡◌, ℕ, ◌<◌, ◌≤◌, true, false, List, [], ◌∷◌, sym, refl, ap, ◌∙◌, inl, inr, ⊎_elim, arith}
use Rattle.std.proofs.lemmas.Bool.{cases_Bool, true≢false}
use Rattle.block.specs.Refusals.{Ground, first}
use Rattle.block.specs.Laws.{Among, Rising}

above : (n : ℕ) (gs : List Ground) → Rising n gs → (g : Ground) → Among g gs → n < g.number
above n [] r g a = absurd a
above n (h ∷ gs) r g a =
    ⊎_elim
    (λ e. let j : n < h.number = r.0 in let f = ap (λ (x : Ground). x.number) e in omega arith)
    (λ b. let j : n < h.number = r.0 in let i = above h.number gs r.1 g b in omega arith) a

-- the first of a list whose head holds, or does not
head_holds : (g : Ground) (gs : List Ground) → g.holds ≡ true → first (g ∷ gs) ≡ g.number
head_holds g gs h = rw h

head_fails : (g : Ground) (gs : List Ground) → g.holds ≡ false → first (g ∷ gs) ≡ first gs
head_fails g gs h = rw h

pub smallest : (n : ℕ) (gs : List Ground) → Rising n gs → (g : Ground) → Among g gs → g.holds ≡ true → (0 < first gs) × (first gs ≤ g.number)
smallest n [] r g a h = absurd a
smallest n (k ∷ gs) r g a h =
    let j : n < k.number = r.0 in
    ⊎_elim
    (λ t.
    let e = head_holds k gs t in
    let u : k.number ≤ g.number =
    ⊎_elim (λ p. let f = ap (λ (x : Ground). x.number) p in omega arith) (λ b. let i = above k.number gs r.1 g b in omega arith) a in
    (omega arith, omega arith))
    (λ f.
    let e = head_fails k gs f in
    let b : Among g gs =
    ⊎_elim (λ p. let q : true ≡ false = sym h ∙ sym (ap (λ (x : Ground). x.holds) p) ∙ f in absurd (true≢false q)) (λ b. b) a in
    let i = smallest k.number gs r.1 g b h in
    (omega (arith, i.0), omega (arith, i.1)))
    (cases_Bool k.holds)

pub one_that_holds : (n : ℕ) (gs : List Ground) → Rising n gs → 0 < first gs → (g : Ground) × Among g gs × (g.holds ≡ true) × (g.number ≡ first gs)
one_that_holds n [] r h = absurd (omega arith)
one_that_holds n (k ∷ gs) r h =
    ⊎_elim
    (λ t. let e = head_holds k gs t in (k, inl refl, t, omega arith))
    (λ f. let e = head_fails k gs f in let i = one_that_holds k.number gs r.1 (omega arith) in (i.0, inr i.1, i.2, omega (arith, i.3)))
    (cases_Bool k.holds)
