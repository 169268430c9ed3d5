-- The blocks at the front of scratch bytes.
use Rattle.std.proofs.Common.{◌≡◌, ℕ, zero, suc, ◌≤◌, List, [], ◌∷◌, take, drop, get_or, ap, sym, ◌∙◌, arith}
use Rattle.std.specs.Simd.{first_chunks}
use Rattle.std.proofs.lemmas.List.{drop-drop}

-- of three blocks or more, the first, and the two behind it
pub front_blocks : (k : ℕ) (xs t : List ℕ) (rest work : List (List ℕ)) → 3 ≤ k → first_chunks 32 k xs ≡ t ∷ rest → work ≡ take 2 rest → (t ≡ take 32 xs) × (work ≡ take 32 (drop 32 xs) ∷ take 32 (drop 64 xs) ∷ [])
front_blocks zero xs t rest work h e f = absurd (omega arith)
front_blocks (suc zero) xs t rest work h e f = absurd (omega arith)
front_blocks (suc (suc zero)) xs t rest work h e f = absurd (omega arith)
front_blocks (suc (suc (suc k))) xs t rest work h e f =
    let first : take 32 xs ≡ t = ap (λ l. get_or l 0 []) e in
    let others : first_chunks 32 (suc (suc k)) (drop 32 xs) ≡ rest = ap (λ l. drop 1 l) e in
    let third : drop 32 (drop 32 xs) ≡ drop 64 xs = drop-drop 32 32 xs in
    (sym first, f ∙ sym (ap (λ l. take 2 l) others) ∙ ap (λ l. take 32 (drop 32 xs) ∷ take 32 l ∷ []) third)
