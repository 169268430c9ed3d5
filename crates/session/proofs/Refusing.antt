-- Refused or done.
use Rattle.std.proofs.Common.{◌≡◌, ℕ, ◌<◌, ◌≤◌, Bool, true, false, cond, not, ◌&&◌, eqb, ltb, ◌⊎◌, List, [], ◌∷◌, length, sym, refl, ap, ◌∙◌, subst, inl, inr, ⊎_elim, arith}
use Rattle.std.proofs.lemmas.Bool.{and_parts, ltb-true, cond-true, cond-false, eq-eqb, ne_eqb, eqb-true, not-false}
use Rattle.block.specs.Refusals.{Ground, first}
use Rattle.aka.specs.States.{Yield, issued, confirmed, raised, kept, lapsed, accepted, traced, refused, Done, silent, unless}
use Rattle.aka.specs.Calls.{differs}

-- none of the grounds holds
abbrev pub Pass : List Ground → Type 0
Pass [] = Unit {0}
Pass (g ∷ gs) = (g.holds ≡ false) × Pass gs

-- their numbers are among 1 to 16
abbrev pub listed : List Ground → Bool
listed [] = true
listed (g ∷ gs) = ltb 0 g.number && (ltb g.number 17 && listed gs)

head_cases : (b : Bool) (n : ℕ) (gs : List Ground) → 0 < n → n < 17
    → ((first gs ≡ 0) × Pass gs) ⊎ ((0 < first gs) × (first gs < 17))
    → ((cond b n (first gs) ≡ 0) × ((b ≡ false) × Pass gs)) ⊎ ((0 < cond b n (first gs)) × (cond b n (first gs) < 17))
head_cases true n gs l h i = inr (l, h)
head_cases false n gs l h i = ⊎_elim (λ u. inl (u.0, (refl, u.1))) inr i

first_cases : (gs : List Ground) → listed gs ≡ true → ((first gs ≡ 0) × Pass gs) ⊎ ((0 < first gs) × (first gs < 17))
first_cases [] h = inl (refl, tt)
first_cases (g ∷ gs) h =
    let u = and_parts (ltb 0 g.number) (ltb g.number 17 && listed gs) h in
    let v = and_parts (ltb g.number 17) (listed gs) u.1 in
    head_cases g.holds g.number gs (ltb-true 0 g.number u.0) (ltb-true g.number 17 v.0) (first_cases gs v.1)

first_pass : (gs : List Ground) → Pass gs → first gs ≡ 0
first_pass [] h = refl
first_pass (g ∷ gs) h = cond-false g.holds g.number (first gs) h.0 ∙ first_pass gs h.1

module _ {S : Type 0} (gs : List Ground) (p : S) (d : Done S) where
  unless_done : first gs ≡ 0 → unless gs p d ≡ d
  unless_done e = cond-true (eqb (first gs) 0) d (silent (refused (first gs)) p) (eq-eqb (first gs) 0 e)

  unless_refused : 0 < first gs → unless gs p d ≡ silent (refused (first gs)) p
  unless_refused h = cond-false (eqb (first gs) 0) d (silent (refused (first gs)) p) (ne_eqb (first gs) 0 (λ e. omega arith))

  pub unless_pass : Pass gs → unless gs p d ≡ d
  unless_pass h = unless_done (first_pass gs h)

  pub unless_cases : listed gs ≡ true → ((unless gs p d ≡ d) × Pass gs) ⊎ ((n : ℕ) × (n < 17) × (unless gs p d ≡ silent (refused n) p))
  unless_cases l = ⊎_elim (λ u. inl (unless_done u.0, u.1)) (λ u. inr (first gs, u.1, unless_refused u.0)) (first_cases gs l)

  -- what holds of a refusal and of the other way holds of both
  pub unless_both : (P : Done S → Type 0) → listed gs ≡ true → (Pass gs → P d) → ((n : ℕ) → n < 17 → P (silent (refused n) p)) → P (unless gs p d)
  unless_both P l f g =
      ⊎_elim (λ h. subst P (sym h.0) (f h.1)) (λ r. subst P (sym r.2) (g r.0 r.1)) (unless_cases l)

  -- what is done matters only where no ground holds
  pub unless_agree : (d' : Done S) → listed gs ≡ true → (Pass gs → d ≡ d') → unless gs p d ≡ unless gs p d'
  unless_agree d' l f =
      ⊎_elim (λ u. ap (λ (x : Done S). unless gs p x) (f u.1))
      (λ u. unless_refused u.0 ∙ sym (cond-false (eqb (first gs) 0) d' (silent (refused (first gs)) p) (ne_eqb (first gs) 0 (λ e. omega (arith, u.0)))))
      (first_cases gs l)

-- not a refusal by one of those grounds
abbrev pub Apart : Yield → Type 0
Apart (issued n) = Unit {0}
Apart (confirmed b) = Unit {0}
Apart raised = Unit {0}
Apart kept = Unit {0}
Apart lapsed = Unit {0}
Apart accepted = Unit {0}
Apart traced = Unit {0}
Apart (refused n) = 17 ≤ n

-- a call that yields no such refusal had no ground
pub unless_yields : {S : Type 0} (gs : List Ground) (p : S) (d : Done S) → listed gs ≡ true → (y : Yield) → (unless gs p d).yields ≡ y → Apart y
    → (unless gs p d ≡ d) × Pass gs
unless_yields {S} gs p d l y h ok =
    ⊎_elim (λ x. x)
    (λ r. let a : 17 ≤ r.0 = subst Apart (sym h ∙ ap (λ (x : Done S). x.yields) r.2) ok in absurd (omega (arith, r.1)))
    (unless_cases gs p d l)

pub differs_false : (xs : List ℕ) (n : ℕ) → differs xs n ≡ false → length xs ≡ n
differs_false xs n h = eqb-true (length xs) n (not-false (eqb (length xs) n) h)

pub false_differs : (xs : List ℕ) (n : ℕ) → length xs ≡ n → differs xs n ≡ false
false_differs xs n h = ap not (eq-eqb (length xs) n h)
