-- The number after a number, and the larger of two.
use Rattle.std.proofs.Common.{◌≡◌, ℕ, zero, suc, ◌+◌, ◌*◌, ◌^◌, ◌<◌, ◌≤◌, true, false, eqb, List, [], ◌∷◌, length, replicate, sym, refl, ap, ◌∙◌, ap₂, ⊎_elim, mul_assoc, arith, lit<}
use native.Mathlib.Nat.{pow-succ', pow-zero}
use lib.ListN.{length-replicate}
use Rattle.std.specs.Str.{bytes_eq}
use Rattle.std.specs.Int.Digits.{number_from_digits_after}
use Rattle.std.proofs.lemmas.Bool.{eq-eqb, and_from, both_ways, cases_lt, ltb-true, ltb-false, cond_both}
use Rattle.block.specs.Bytes.{AreBytes}
use Rattle.block.specs.Numbers.{value, bytes_of}
use Rattle.block.proofs.NumberLaws.{length_bytes_of, bytes_bytes_of, value_bytes_of, value_below, bytes_of_value}
use Rattle.aka.specs.Numbers.{next_number, all_ff, exceeds, larger}

pub same_refl : (xs : List ℕ) → bytes_eq xs xs ≡ true
same_refl [] = refl
same_refl (x ∷ xs) = and_from (eqb x x) (bytes_eq xs xs) (eq-eqb x x refl) (same_refl xs)

ffs_after : (k n : ℕ) → number_from_digits_after 256 n (replicate k 255) + 1 ≡ (n + 1) * 256 ^ k
ffs_after zero n = omega (arith, pow-zero 256)
ffs_after (suc k) n =
    let e : n * 256 + 255 + 1 ≡ (n + 1) * 256 = omega arith in
    ffs_after k (n * 256 + 255) ∙ ap (λ m. m * 256 ^ k) e ∙ mul_assoc (n + 1) 256 (256 ^ k) ∙ ap (λ m. (n + 1) * m) (sym (pow-succ' 256 k))

bytes_ffs : (k : ℕ) → AreBytes (replicate k 255)
bytes_ffs zero i = lit< tt
bytes_ffs (suc k) zero = lit< tt
bytes_ffs (suc k) (suc i) = bytes_ffs k i

is_all_ff : (n : List ℕ) → AreBytes n → value n + 1 ≡ 256 ^ length n → all_ff n ≡ true
unfolding all_ff
is_all_ff n b e =
    let k = length n in
    let ffs : List ℕ = replicate k 255 in
    let f : value ffs + 1 ≡ (0 + 1) * 256 ^ k = ffs_after k 0 in
    let v : value n ≡ value ffs = omega arith in
    let is : n ≡ ffs =
    sym (bytes_of_value n b) ∙ ap₂ bytes_of (sym (length-replicate k 255)) v ∙ bytes_of_value ffs (bytes_ffs k) in
    ap (bytes_eq n) (sym is) ∙ same_refl n

pub not_last : (n : List ℕ) → AreBytes n → all_ff n ≡ false → value n + 1 < 256 ^ length n
not_last n b h =
    ⊎_elim (λ x. x)
    (λ l. let e : value n + 1 ≡ 256 ^ length n = omega (arith, value_below n b) in absurd (both_ways (all_ff n) h (is_all_ff n b e)))
    (cases_lt (value n + 1) (256 ^ length n))

pub length_next : (n : List ℕ) → length (next_number n) ≡ length n
unfolding next_number
length_next n = length_bytes_of (length n) (value n + 1)

pub bytes_next : (n : List ℕ) → AreBytes (next_number n)
unfolding next_number
bytes_next n = bytes_bytes_of (length n) (value n + 1)

pub value_next : (n : List ℕ) → AreBytes n → all_ff n ≡ false → value (next_number n) ≡ value n + 1
unfolding next_number
value_next n b h = value_bytes_of (length n) (value n + 1) (not_last n b h)

pub exceeds_true : (n m : List ℕ) → exceeds n m ≡ true → value m < value n
unfolding exceeds
exceeds_true n m h = ltb-true (value m) (value n) h

pub exceeds_false : (n m : List ℕ) → exceeds n m ≡ false → value n ≤ value m
unfolding exceeds
exceeds_false n m h = ltb-false (value m) (value n) h

pub larger_either : (P : List ℕ → Type 0) (n m : List ℕ) → P n → P m → P (larger n m)
unfolding larger
larger_either P n m a b = cond_both (exceeds m n) m n P (λ _. b) (λ _. a)

pub larger_up : (n m : List ℕ) → (value n ≤ value (larger n m)) × (value m ≤ value (larger n m))
unfolding larger
larger_up n m =
    cond_both (exceeds m n) m n (λ x. (value n ≤ value x) × (value m ≤ value x))
    (λ e. let h = exceeds_true m n e in (omega arith, omega arith)) (λ e. let h = exceeds_false m n e in (omega arith, h))
