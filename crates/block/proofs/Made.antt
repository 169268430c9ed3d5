-- An array made by a function of the index, whose calls leave the function as it was.
use Rattle.std.proofs.Common.{◌≡◌, ℕ, zero, suc, ◌+◌, ◌<◌, ◌≤◌, List, length, get_or, sym, refl, ◌∙◌, subst, ⊎_elim, arith}
use Rattle.std.proofs.lemmas.Bool.{cases_lt}
use Rattle.std.proofs.lemmas.List.{same_lists, get_or_default}
use Rattle.std.specs.Fn.{Called}
use Rattle.std.specs.Array.{IsFromFnResult, IsFromFnResultFrom}
use denote.Param.Members.{Mut}

-- what holds of each call's result holds of the element at its index
module _ {F B : Type 0} (g : Mut F (ℕ × Unit {0}) B) (f : F) (P : ℕ → B → Type 0) (n : ℕ) (same : (k : ℕ) (y : B) (q : F) → k < n → Called g f (k, tt) y q → P k y × (q ≡ f)) where
  made_from : (p : F) → p ≡ f → (ys : List B) (i m : ℕ) → i + m ≡ n → IsFromFnResultFrom g p ys i m → (k : ℕ) (d : B) → i ≤ k → k < n → P k (get_or ys k d)
  made_from p is ys i zero w e k d l b = absurd (omega arith)
  made_from p is ys i (suc m) w e k d l b =
      let c = same i e.1 e.0 (omega arith) (subst (λ x. Called g x (i, tt) e.1 e.0) is e.3) in
      ⊎_elim
      (λ a. made_from e.0 c.1 ys (i + 1) m (omega arith) e.4 k d (omega arith) b)
      (λ a. let j : i ≡ k = omega arith in subst (λ x. P x (get_or ys x d)) j (subst (P i) (sym (e.2.1 d)) c.0))
      (cases_lt i k)

  pub made_each : (ys : List B) → IsFromFnResult g f ys n → (k : ℕ) (d : B) → k < n → P k (get_or ys k d)
  made_each ys e k d l = made_from f refl ys 0 n (omega arith) e.each k d (omega arith) l

-- the list that has these elements
pub made : {F B : Type 0} (g : Mut F (ℕ × Unit {0}) B) (f : F) (h : ℕ → B) (n : ℕ) → ((k : ℕ) (y : B) (q : F) → k < n → Called g f (k, tt) y q → (y ≡ h k) × (q ≡ f))
    → (zs ys : List B) → length zs ≡ n → ((k : ℕ) (d : B) → k < n → get_or zs k d ≡ h k) → IsFromFnResult g f ys n → ys ≡ zs
made g f h n same zs ys l z e =
    same_lists ys zs (e.long ∙ sym l)
    (λ k d b. let u : k < n = omega (arith, e.long) in made_each g f (λ k y. y ≡ h k) n same ys e k d u ∙ sym (z k d u))

-- a list of numbers
pub made_bytes : {F : Type 0} (g : Mut F (ℕ × Unit {0}) ℕ) (f : F) (zs : List ℕ) (n : ℕ) → ((k y : ℕ) (q : F) → k < n → Called g f (k, tt) y q → (y ≡ get_or zs k 0) × (q ≡ f))
    → (ys : List ℕ) → length zs ≡ n → IsFromFnResult g f ys n → ys ≡ zs
made_bytes g f zs n same ys l e =
    made g f (λ k. get_or zs k 0) n same zs ys l (λ k d b. get_or_default zs k d 0 (omega arith)) e
