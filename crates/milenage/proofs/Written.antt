-- What is written at the front of a block.
use Rattle.std.proofs.Common.{◌≡◌, ℕ, min, List, length, take, sym, ◌∙◌, ⊎_elim, arith}
use Rattle.std.proofs.lemmas.List.{take_all}
use Rattle.std.proofs.lemmas.Bool.{cases_lt}

-- a front that is cut where the bytes end
pub take_min : (m : ℕ) (x : List ℕ) → take (min (length x) m) x ≡ take m x
take_min m x =
    ⊎_elim
    (λ h. let e : min (length x) m ≡ length x = omega arith in rw e (take_all (length x) x (omega arith) ∙ sym (take_all m x (omega arith))))
    (λ h. let e : min (length x) m ≡ m = omega arith in rw e)
    (cases_lt (length x) m)
