-- From what a call did to what it shows.
use Rattle.std.proofs.Common.{◌≡◌, ℕ, ◌<◌, Bool, true, false, cond, eqb, List, sym, refl, ap, ◌∙◌, subst, arith}
use Rattle.std.proofs.lemmas.Bool.Decides.{nat_tests}
use Rattle.block.specs.declared.refusal.Refusal.{Refusal}
use Rattle.block.specs.Refusals.{number, Ground, first}
use Rattle.milenage.proofs.Refused.{number_above_0}
use Rattle.aka.specs.States.{Yield, refused, Done, silent, unless, Shows}

pub no_ground : {S : Type 0} (gs : List Ground) (p : S) (d : Done S) → first gs ≡ 0 → unless gs p d ≡ d
no_ground gs p d h = ap (λ (n : ℕ). cond (eqb n 0) d (silent (refused n) p)) h

pub by_ground : {S : Type 0} (gs : List Ground) (p : S) (d : Done S) (e : Refusal) → number e ≡ first gs → unless gs p d ≡ silent (refused (number e)) p
by_ground gs p d e h =
    let k = number_above_0 e in
    let t : eqb (number e) 0 ≡ false = grind (arith, nat_tests) in
    ap (λ (n : ℕ). cond (eqb n 0) d (silent (refused n) p)) (sym h)
    ∙ ap (λ (b : Bool). cond b d (silent (refused (number e)) p)) t

-- what is shown of what is equal
pub shows_as : {S : Type 0} {d f : Done S} {y : Yield} {b a c e : List ℕ} {p : S} → d ≡ f → Shows f y b a c e p → Shows d y b a c e p
shows_as {y = y} {b = b} {a = a} {c = c} {e = e} {p = p} q h = subst (λ d. Shows d y b a c e p) (sym q) h

-- a refusal that leaves all as it was
pub shows_refused : {S : Type 0} (p q : S) (e : Refusal) (b c : List ℕ) → q ≡ p → Shows (silent (refused (number e)) p) (refused (number e)) b b c c q
shows_refused p q e b c h = record { told = refl; wrote = refl; wrote_auts = refl; left = h }

-- one more ground behind three
pub refused_still : (a b c d : Bool) (x y z w n : ℕ) → 0 < n → n ≡ cond a x (cond b y (cond c z 0)) → n ≡ cond a x (cond b y (cond c z (cond d w 0)))
refused_still true b c d x y z w n p h = h
refused_still false true c d x y z w n p h = h
refused_still false false true d x y z w n p h = h
refused_still false false false d x y z w n p h = absurd (omega arith)

pub passed : (a b c : Bool) (x y z t : ℕ) → 0 < x → 0 < y → 0 < z → cond a x (cond b y (cond c z 0)) ≡ 0 → cond a x (cond b y (cond c z t)) ≡ t
passed true b c x y z t i j k h = absurd (omega arith)
passed false true c x y z t i j k h = absurd (omega arith)
passed false false true x y z t i j k h = absurd (omega arith)
passed false false false x y z t i j k h = refl
