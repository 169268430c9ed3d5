-- The round keys as chunks of four rows.
use Rattle.std.proofs.Common.{◌≡◌, ℕ, zero, suc, ◌+◌, ◌*◌, ◌≤◌, List, [], ◌∷◌, length, get_or, take, drop, refl, ◌∙◌, ap, ap₂, arith}
use Rattle.std.proofs.lemmas.List.{get_or-drop, drop-drop, length-drop}
use Rattle.std.specs.List.{push}
use Rattle.std.specs.Simd.{first_chunks}
use Rattle.rijndael.specs.State.{table}
use Rattle.rijndael.specs.Cipher.{key}
use Rattle.rijndael.specs.StateLaws.{table_same}

front : (n : ℕ) (xs : List (List ℕ)) → n ≤ length xs → take n xs ≡ table n (λ r. get_or xs r [])
front zero xs h = refl
front (suc n) [] h = absurd (omega arith)
front (suc n) (x ∷ xs) h = ap (λ (t : List (List ℕ)). x ∷ t) (front n xs (omega arith))

chunks : (k d : ℕ) (xs : List (List ℕ)) → d + 4 * k ≤ length xs → first_chunks 4 k (drop d xs) ≡ table k (λ i. table 4 (λ r. get_or xs (4 * i + d + r) []))
chunks zero d xs h = refl
chunks (suc k) d xs h =
    ap₂ ◌∷◌
    (front 4 (drop d xs) (omega (arith, length-drop d xs)) ∙ table_same 4 (λ r. get_or (drop d xs) r []) (λ r. get_or xs (4 * 0 + d + r) []) (λ r l. get_or-drop d xs r [] ∙ ap (λ (j : ℕ). get_or xs j []) (omega arith)))
    (ap (first_chunks 4 k) (drop-drop 4 d xs) ∙ chunks k (d + 4) xs (omega arith)
    ∙ table_same k (λ i. table 4 (λ r. get_or xs (4 * i + (d + 4) + r) [])) (λ i. table 4 (λ r. get_or xs (4 * suc i + d + r) []))
    (λ i l. table_same 4 (λ r. get_or xs (4 * i + (d + 4) + r) []) (λ r. get_or xs (4 * suc i + d + r) [])
    (λ r m. ap (λ (j : ℕ). get_or xs j []) (omega arith))))

pub keys_are : (ks : List (List ℕ)) → length ks ≡ 60 → first_chunks 4 15 ks ≡ table 15 (key ks)
unfolding key
keys_are ks h =
    chunks 15 0 ks (omega arith)
    ∙ table_same 15 (λ i. table 4 (λ r. get_or ks (4 * i + 0 + r) [])) (λ i. table 4 (λ r. get_or ks (4 * i + r) []))
    (λ i l. table_same 4 (λ r. get_or ks (4 * i + 0 + r) []) (λ r. get_or ks (4 * i + r) []) (λ r m. ap (λ (j : ℕ). get_or ks j []) (omega arith)))

-- the keys of the thirteen rounds that are alike
pub inner : (ks : List (List ℕ)) (zs : List (List (List ℕ))) → zs ≡ table 15 (key ks) → take 13 (drop 1 zs) ≡ table 13 (λ i. key ks (suc i))
inner ks zs e = ap (λ (t : List (List (List ℕ))). take 13 (drop 1 t)) e

-- what is left of a table whose last entry is taken
pub last : (f : ℕ → List (List ℕ)) (ks : List (List (List ℕ))) (k : List (List ℕ)) → push ks k ≡ table (length (push ks k)) f → (ks ≡ table (length ks) f) × (k ≡ f (length ks))
last f [] k e = (refl, ap (λ (t : List (List (List ℕ))). get_or t 0 []) e)
last f (j ∷ ks) k e =
    let h = ap (λ (t : List (List (List ℕ))). get_or t 0 []) e in
    let r = last (λ i. f (suc i)) ks k (ap (λ (t : List (List (List ℕ))). drop 1 t) e) in
    (ap₂ ◌∷◌ h r.0, r.1)
