-- How numbers of one size step and compare.
use Rattle.std.proofs.Common.{◌≡◌, ℕ, zero, suc, ◌+◌, ◌*◌, ◌/◌, ◌%◌, ◌^◌, ◌<◌, ◌≤◌, true, false, eqb, ltb, ◌⊎◌, List, [], ◌∷◌, ◌++◌, length, replicate, Decides, sym, refl, ap, ◌∙◌, subst, ap₂, inl, inr, ⊎_elim, add-one, arith}
use native.Mathlib.Nat.{pow-succ', pow-le-pow_right}
use Rattle.std.specs.Str.{bytes_eq}
use Rattle.std.proofs.lemmas.Int.Digits.{number_push}
use Rattle.std.proofs.lemmas.Slice.Eq.{bytes_eq-Decides}
use Rattle.std.proofs.lemmas.List.{replicate_more}
use Rattle.std.proofs.lemmas.Bool.Decides.{Decides-like, Decides-eqb, same_from_decides, nat_tests}
use Rattle.std.proofs.lemmas.Bool.{lt-ltb, le-ltb, ltb-true, ltb-false, eqb-true, cond-true, cond-false, cases_Bool}
use Rattle.block.specs.Bytes.{AreBytes}
use Rattle.block.specs.Numbers.{value, bytes_of}
use Rattle.block.proofs.NumberLaws.{length_bytes_of, value_bytes_of, bytes_bytes_of, bytes_of_value, value_below}
use Rattle.aka.specs.Numbers.{next_number, all_ff, exceeds, larger}

pub power_more : (i : ℕ) → 256 ^ (i + 1) ≡ 256 * 256 ^ i
power_more i = rw add-one (pow-succ' 256 i)

pub power_below : (i : ℕ) → i ≤ 12 → 256 ^ i ≤ 2 ^ 96
power_below i h = pow-le-pow_right (omega arith) h

-- the bytes of the largest number are all ff
is_all_ff : (k n : ℕ) → n + 1 ≡ 256 ^ k → bytes_of k n ≡ replicate k 255
unfolding bytes_of
is_all_ff zero n h = refl
is_all_ff (suc k) n h =
    let p = pow-succ' 256 k in
    let i = is_all_ff k (n / 256) (omega arith) in
    let r : n % 256 ≡ 255 = omega arith in
    ap (λ t. t ++ (n % 256 ∷ [])) i ∙ ap (λ d. replicate k 255 ++ (d ∷ [])) r ∙ replicate_more k 255 ∙ ap (λ j. replicate j 255) (add-one k)

value_of_ff : (k : ℕ) → value (replicate k 255) + 1 ≡ 256 ^ k
value_of_ff zero = refl
value_of_ff (suc k) =
    let p = pow-succ' 256 k in
    let e : ◌≡◌ {A = List ℕ} (replicate (suc k) 255) (replicate k 255 ++ (255 ∷ [])) = sym (replicate_more k 255 ∙ ap (λ j. replicate j 255) (add-one k)) in
    let v : value (replicate (suc k) 255) ≡ value (replicate k 255) * 256 + 255 = ap value e ∙ number_push 256 (replicate k 255) 255 in
    let i : value (replicate k 255) + 1 ≡ 256 ^ k = value_of_ff k in
    omega arith

pub all_ff_bytes_of : (k n : ℕ) → n < 256 ^ k → all_ff (bytes_of k n) ≡ eqb (n + 1) (256 ^ k)
unfolding all_ff
all_ff_bytes_of k n h =
    let l = length_bytes_of k n in
    let d : Decides (bytes_eq (bytes_of k n) (replicate k 255)) (bytes_of k n ≡ replicate k 255) = bytes_eq-Decides (bytes_of k n) (replicate k 255) in
    let e : Decides (bytes_eq (bytes_of k n) (replicate k 255)) (n + 1 ≡ 256 ^ k) =
    Decides-like _ (λ q. ap (λ m. m + 1) (sym (value_bytes_of k n h) ∙ ap value q) ∙ value_of_ff k) (is_all_ff k n) d in
    ap (λ j. bytes_eq (bytes_of k n) (replicate j 255)) l
    ∙ same_from_decides _ _ e (Decides-eqb (n + 1) (256 ^ k))

pub next_bytes_of : (k n : ℕ) → n < 256 ^ k → next_number (bytes_of k n) ≡ bytes_of k (n + 1)
unfolding next_number
next_bytes_of k n h = ap₂ (λ j m. bytes_of j (m + 1)) (length_bytes_of k n) (value_bytes_of k n h)

pub exceeds_bytes_of : (k n m : ℕ) → n < 256 ^ k → m < 256 ^ k → exceeds (bytes_of k n) (bytes_of k m) ≡ ltb m n
unfolding exceeds
exceeds_bytes_of k n m h j = ap₂ ltb (value_bytes_of k m j) (value_bytes_of k n h)

-- the same of numbers as bytes

pub next_long : (n : List ℕ) → length (next_number n) ≡ length n
unfolding next_number
next_long n = length_bytes_of (length n) (value n + 1)

pub next_bytes : (n : List ℕ) → AreBytes (next_number n)
unfolding next_number
next_bytes n = bytes_bytes_of (length n) (value n + 1)

-- all ff tells the largest number
pub all_ff_value : (n : List ℕ) → AreBytes n → all_ff n ≡ eqb (value n + 1) (256 ^ length n)
all_ff_value n b = ap all_ff (sym (bytes_of_value n b)) ∙ all_ff_bytes_of (length n) (value n) (value_below n b)

pub next_exceeds : (n : List ℕ) → AreBytes n → all_ff n ≡ false → exceeds (next_number n) n ≡ true
unfolding next_number exceeds
next_exceeds n b h =
    let v = value_below n b in
    let e : eqb (value n + 1) (256 ^ length n) ≡ false = sym (all_ff_value n b) ∙ h in
    let l : value n + 1 < 256 ^ length n = grind (arith, nat_tests) in
    let w : value (bytes_of (length n) (value n + 1)) ≡ value n + 1 = value_bytes_of (length n) (value n + 1) l in
    lt-ltb (value n) (value (bytes_of (length n) (value n + 1))) (omega arith)

pub last_number : (n m : List ℕ) → AreBytes n → AreBytes m → length m ≡ length n → all_ff n ≡ true → exceeds m n ≡ false
unfolding exceeds
last_number n m b d l h =
    let e : value n + 1 ≡ 256 ^ length n = eqb-true (value n + 1) (256 ^ length n) (sym (all_ff_value n b) ∙ h) in
    let v : value m < 256 ^ length n = subst (λ (k : ℕ). value m < 256 ^ k) l (value_below m d) in
    le-ltb (value n) (value m) (omega arith)

pub not_itself : (n : List ℕ) → exceeds n n ≡ false
unfolding exceeds
not_itself n = le-ltb (value n) (value n) (omega arith)

pub through : (n m k : List ℕ) → exceeds n m ≡ true → exceeds m k ≡ true → exceeds n k ≡ true
unfolding exceeds
through n m k h j =
    let a = ltb-true (value m) (value n) h in
    let b = ltb-true (value k) (value m) j in
    lt-ltb (value k) (value n) (omega arith)

pub one_way : (n m : List ℕ) → exceeds n m ≡ true → exceeds m n ≡ false
unfolding exceeds
one_way n m h = let a = ltb-true (value m) (value n) h in le-ltb (value n) (value m) (omega arith)

pub equal : (n m : List ℕ) → AreBytes n → AreBytes m → length n ≡ length m → exceeds n m ≡ false → exceeds m n ≡ false → n ≡ m
unfolding exceeds
equal n m b d l h j =
    let p = ltb-false (value m) (value n) h in
    let q = ltb-false (value n) (value m) j in
    let e : value n ≡ value m = omega arith in
    sym (bytes_of_value n b) ∙ ap₂ bytes_of l e ∙ bytes_of_value m d

pub larger_one : (n m : List ℕ) → (larger n m ≡ n) ⊎ (larger n m ≡ m)
unfolding larger
larger_one n m =
    ⊎_elim (λ h. inr (cond-true (exceeds m n) m n h)) (λ h. inl (cond-false (exceeds m n) m n h)) (cases_Bool (exceeds m n))

pub larger_first : (n m : List ℕ) → exceeds n (larger n m) ≡ false
unfolding larger
larger_first n m =
    ⊎_elim (λ h. ap (exceeds n) (cond-true (exceeds m n) m n h) ∙ one_way m n h) (λ h. ap (exceeds n) (cond-false (exceeds m n) m n h) ∙ not_itself n) (cases_Bool (exceeds m n))

pub larger_second : (n m : List ℕ) → exceeds m (larger n m) ≡ false
unfolding larger
larger_second n m =
    ⊎_elim (λ h. ap (exceeds m) (cond-true (exceeds m n) m n h) ∙ not_itself m) (λ h. ap (exceeds m) (cond-false (exceeds m n) m n h) ∙ h) (cases_Bool (exceeds m n))
