-- Laws of numbers as bytes.
use Rattle.std.proofs.Common.{◌≡◌, ℕ, zero, suc, ◌+◌, ◌-◌, ◌*◌, ◌/◌, ◌%◌, ◌^◌, ◌<◌, ◌≤◌, List, [], ◌∷◌, ◌++◌, length, get_or, take, reverse, set, sym, refl, ap, ◌∙◌, ap₂, add-one, arith, lit<, length-append}
use native.Mathlib.Nat.{pow-succ', pow-le-pow_right}
use Rattle.std.specs.Int.Digits.{AllBelowBase}
use Rattle.std.proofs.lemmas.Int.Digits.{number_push, number_more, number_lt}
use Rattle.std.proofs.lemmas.List.{take_all, take_more, take_more_set, reverse-append, append_assoc}
use Rattle.std.proofs.lemmas.Nat.{mod_below}
use Rattle.block.specs.Bytes.{AreBytes}
use Rattle.block.specs.Numbers.{value, bytes_of}
use Rattle.block.proofs.ByteLaws.{bytes_append, bytes_cons}

pub length_bytes_of : (k n : ℕ) → length (bytes_of k n) ≡ k
unfolding bytes_of
length_bytes_of zero n = refl
length_bytes_of (suc k) n = omega (arith, length-append (bytes_of k (n / 256)) (n % 256 ∷ []), length_bytes_of k (n / 256))

pub bytes_bytes_of : (k n : ℕ) → AreBytes (bytes_of k n)
unfolding bytes_of
bytes_bytes_of zero n i = lit< tt
bytes_bytes_of (suc k) n i =
    bytes_append (bytes_of k (n / 256)) (n % 256 ∷ []) (bytes_bytes_of k (n / 256))
    (bytes_cons (n % 256) [] (mod_below n 256 (lit< tt)) (λ j. lit< tt)) i

pub value_bytes_of : (k n : ℕ) → n < 256 ^ k → value (bytes_of k n) ≡ n
unfolding bytes_of
value_bytes_of zero n h = omega arith
value_bytes_of (suc k) n h =
    let p = pow-succ' 256 k in
    let i = value_bytes_of k (n / 256) (omega arith) in
    number_push 256 (bytes_of k (n / 256)) (n % 256) ∙ omega arith

under : (x : List ℕ) → AreBytes x → AllBelowBase 256 x
under [] h = tt
under (b ∷ x) h = (h 0, under x (λ i. h (suc i)))

pub value_below : (x : List ℕ) → AreBytes x → value x < 256 ^ length x
value_below x h = number_lt 256 x (under x h)

-- the bytes of the number that a front of a string tells
front_again : (x : List ℕ) → AreBytes x → (i : ℕ) → i ≤ length x → bytes_of i (value (take i x)) ≡ take i x
unfolding bytes_of
front_again x h zero l = refl
front_again x h (suc i) l =
    let k : i < length x = omega arith in
    let m : value (take (suc i) x) ≡ value (take i x) * 256 + get_or x i 0 = ap (λ j. value (take j x)) (sym (add-one i)) ∙ number_more 256 x i k in
    let b = h i in
    let q : value (take (suc i) x) / 256 ≡ value (take i x) = omega arith in
    let r : value (take (suc i) x) % 256 ≡ get_or x i 0 = omega arith in
    ap₂ (λ n d. bytes_of i n ++ (d ∷ [])) q r
    ∙ ap (λ t. t ++ (get_or x i 0 ∷ [])) (front_again x h i (omega arith))
    ∙ sym (ap (λ j. take j x) (sym (add-one i)) ∙ take_more x i 0 k)

pub bytes_of_value : (x : List ℕ) → AreBytes x → bytes_of (length x) (value x) ≡ x
bytes_of_value x h =
    let t = take_all (length x) x (omega arith) in
    ap (λ y. bytes_of (length x) (value y)) (sym t) ∙ front_again x h (length x) (omega arith) ∙ t

-- one turn of a loop that writes the bytes of a number in reverse
pub bytes_turn : (k i rest : ℕ) (out : List ℕ) → k ≡ length out → i < k
    → bytes_of (k - i) rest ++ reverse (take i out) ≡ bytes_of (k - (i + 1)) (rest / 256) ++ reverse (take (i + 1) (set out i (rest % 256)))
unfolding bytes_of
bytes_turn k i rest out e h =
    let s : k - i ≡ suc (k - (i + 1)) = omega arith in
    let l : i < length out = omega arith in
    rw (s, take_more_set out i (rest % 256), reverse-append (take i out) (rest % 256 ∷ []), append_assoc) refl

-- bounds of a loop that reads a number
power_more : (i : ℕ) → 256 ^ (i + 1) ≡ 256 * 256 ^ i
power_more i = rw add-one (pow-succ' 256 i)

power_below : (i : ℕ) → i ≤ 16 → 256 ^ i ≤ 2 ^ 128
power_below i h = pow-le-pow_right (omega arith) h

pub digit_more : (i n b : ℕ) → n < 256 ^ i → b < 256 → n * 256 + b < 256 ^ (i + 1)
digit_more i n b h k = omega (arith, power_more i)

pub digit_fits : (i n b : ℕ) → i < 16 → n < 256 ^ i → b < 256 → n * 256 + b < 2 ^ 128
digit_fits i n b l h k =
    let p = power_below (i + 1) (omega arith) in
    let d = digit_more i n b h k in omega arith
