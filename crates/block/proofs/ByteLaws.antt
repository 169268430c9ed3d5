-- Laws of byte strings.
use Rattle.std.proofs.Common.{◌≡◌, ℕ, zero, suc, ◌+◌, ◌-◌, ◌<◌, ◌≤◌, min, max, List, [], ◌∷◌, ◌++◌, length, get_or, take, drop, sym, refl, ap, ◌∙◌, ap₂, arith, lit<, length-append}
use lib.Bits.{bit_xor, xor_assoc, xor_self, xor_zero_r, xor_lt, xor_comm}
use Rattle.std.proofs.lemmas.List.{take_at, length-take, get_or-take, take-replicate}
use Rattle.block.specs.Bytes.{AreBytes, IsBlock, ◌⊕◌, zeros, filled}

-- ── bytes ──

pub bytes_zeros : (n : ℕ) → AreBytes (zeros n)
bytes_zeros zero i = lit< tt
bytes_zeros (suc n) zero = lit< tt
bytes_zeros (suc n) (suc i) = bytes_zeros n i

pub bytes_cons : (b : ℕ) (xs : List ℕ) → b < 256 → AreBytes xs → AreBytes (b ∷ xs)
bytes_cons b xs h k zero = h
bytes_cons b xs h k (suc i) = k i

pub bytes_append : (xs ys : List ℕ) → AreBytes xs → AreBytes ys → AreBytes (xs ++ ys)
bytes_append [] ys h k i = k i
bytes_append (x ∷ xs) ys h k zero = h 0
bytes_append (x ∷ xs) ys h k (suc i) = bytes_append xs ys (λ j. h (suc j)) k i

pub bytes_take : (n : ℕ) (xs : List ℕ) → AreBytes xs → AreBytes (take n xs)
bytes_take zero xs h i = lit< tt
bytes_take (suc n) [] h i = lit< tt
bytes_take (suc n) (x ∷ xs) h zero = h 0
bytes_take (suc n) (x ∷ xs) h (suc i) = bytes_take n xs (λ j. h (suc j)) i

pub bytes_drop : (n : ℕ) (xs : List ℕ) → AreBytes xs → AreBytes (drop n xs)
bytes_drop zero xs h i = h i
bytes_drop (suc n) [] h i = lit< tt
bytes_drop (suc n) (x ∷ xs) h i = bytes_drop n xs (λ j. h (suc j)) i

pub bytes_⊕ : (xs ys : List ℕ) → AreBytes xs → AreBytes ys → AreBytes (xs ⊕ ys)
unfolding ◌⊕◌
bytes_⊕ [] ys h k i = k i
bytes_⊕ (x ∷ xs) [] h k i = h i
bytes_⊕ (x ∷ xs) (y ∷ ys) h k zero = xor_lt 8 x y (h 0) (k 0)
bytes_⊕ (x ∷ xs) (y ∷ ys) h k (suc i) = bytes_⊕ xs ys (λ j. h (suc j)) (λ j. k (suc j)) i

-- ── exclusive or ──

pub bit_cancel : (x k : ℕ) → bit_xor (bit_xor x k) k ≡ x
bit_cancel x k = xor_assoc x k k ∙ ap (λ z. bit_xor x z) (xor_self k) ∙ xor_zero_r x

pub ⊕_cancel : (xs ks : List ℕ) → length ks ≤ length xs → (xs ⊕ ks) ⊕ ks ≡ xs
unfolding ◌⊕◌
⊕_cancel [] [] h = refl
⊕_cancel [] (k ∷ ks) h = absurd (omega arith)
⊕_cancel (x ∷ xs) [] h = refl
⊕_cancel (x ∷ xs) (k ∷ ks) h = ap₂ ◌∷◌ (bit_cancel x k) (⊕_cancel xs ks (omega arith))

pub ⊕_undoes_itself : (x k : List ℕ) → length x ≡ length k → (x ⊕ k) ⊕ k ≡ x
⊕_undoes_itself x k e = ⊕_cancel x k (omega arith)

pub length_⊕ : (xs ys : List ℕ) → length (xs ⊕ ys) ≡ max (length xs) (length ys)
unfolding ◌⊕◌
length_⊕ [] ys = omega arith
length_⊕ (x ∷ xs) [] = omega arith
length_⊕ (x ∷ xs) (y ∷ ys) = omega (arith, length_⊕ xs ys)

pub ⊕_comm : (xs ys : List ℕ) → xs ⊕ ys ≡ ys ⊕ xs
unfolding ◌⊕◌
⊕_comm [] [] = refl
⊕_comm [] (y ∷ ys) = refl
⊕_comm (x ∷ xs) [] = refl
⊕_comm (x ∷ xs) (y ∷ ys) = ap₂ ◌∷◌ (xor_comm x y) (⊕_comm xs ys)

-- a mask on the right tells strings of one length apart
pub ⊕_apart : (xs ys ks : List ℕ) → length xs ≡ length ys → xs ⊕ ks ≡ ys ⊕ ks → xs ≡ ys
unfolding ◌⊕◌
⊕_apart [] [] ks l h = refl
⊕_apart [] (y ∷ ys) ks l h = absurd (omega arith)
⊕_apart (x ∷ xs) [] ks l h = absurd (omega arith)
⊕_apart (x ∷ xs) (y ∷ ys) [] l h = h
⊕_apart (x ∷ xs) (y ∷ ys) (k ∷ ks) l h =
    let a : bit_xor x k ≡ bit_xor y k = cc in
    let b : xs ⊕ ks ≡ ys ⊕ ks = cc in
    ap₂ ◌∷◌ (sym (bit_cancel x k) ∙ ap (λ z. bit_xor z k) a ∙ bit_cancel y k) (⊕_apart xs ys ks (omega arith) b)

pub get_or_⊕ : (xs ys : List ℕ) (i : ℕ) → get_or (xs ⊕ ys) i 0 ≡ bit_xor (get_or xs i 0) (get_or ys i 0)
unfolding ◌⊕◌
get_or_⊕ [] ys i = sym (xor_comm 0 (get_or ys i 0) ∙ xor_zero_r (get_or ys i 0))
get_or_⊕ (x ∷ xs) [] i = sym (xor_zero_r (get_or (x ∷ xs) i 0))
get_or_⊕ (x ∷ xs) (y ∷ ys) zero = refl
get_or_⊕ (x ∷ xs) (y ∷ ys) (suc i) = get_or_⊕ xs ys i

pub take_⊕ : (n : ℕ) (xs ys : List ℕ) → take n (xs ⊕ ys) ≡ take n xs ⊕ take n ys
unfolding ◌⊕◌
take_⊕ zero xs ys = refl
take_⊕ (suc n) [] ys = refl
take_⊕ (suc n) (x ∷ xs) [] = refl
take_⊕ (suc n) (x ∷ xs) (y ∷ ys) = ap (λ t. bit_xor x y ∷ t) (take_⊕ n xs ys)

pub block_⊕ : (x y : List ℕ) → IsBlock x → IsBlock y → IsBlock (x ⊕ y)
block_⊕ x y h k = record { long = omega (arith, length_⊕ x y, h.long, k.long); bytes = bytes_⊕ x y h.bytes k.bytes }

-- ── filling ──

zeros_⊕ : (n : ℕ) (ks : List ℕ) → n ≤ length ks → zeros n ⊕ ks ≡ ks
unfolding ◌⊕◌
zeros_⊕ zero ks h = refl
zeros_⊕ (suc n) [] h = absurd (omega arith)
zeros_⊕ (suc n) (k ∷ ks) h = ap (λ (l : List ℕ). k ∷ l) (zeros_⊕ n ks (omega arith))

padded_⊕ : (xs : List ℕ) (n : ℕ) (ks : List ℕ) → length xs + n ≤ length ks → (xs ++ zeros n) ⊕ ks ≡ xs ⊕ ks
unfolding ◌⊕◌
padded_⊕ [] n ks h = zeros_⊕ n ks (omega arith)
padded_⊕ (x ∷ xs) n [] h = absurd (omega arith)
padded_⊕ (x ∷ xs) n (k ∷ ks) h = ap (λ (l : List ℕ). bit_xor x k ∷ l) (padded_⊕ xs n ks (omega arith))

take_padded : (n m : ℕ) (x : List ℕ) → length x ≤ n → n ≤ m → take n (x ++ zeros m) ≡ x ++ zeros (n - length x)
take_padded n m [] h k = let e : n ≡ n - 0 = omega arith in take-replicate n m 0 k ∙ ap zeros e
take_padded zero m (b ∷ x) h k = absurd (omega arith)
take_padded (suc n) m (b ∷ x) h k =
    let e : n - length x ≡ suc n - suc (length x) = omega arith in
    ap (λ (l : List ℕ). b ∷ l) (take_padded n m x (omega arith) (omega arith) ∙ ap (λ j. x ++ zeros j) e)

pub filled_zeros : (x : List ℕ) → length x ≤ 32 → filled x ≡ x ++ zeros (32 - length x)
unfolding filled
filled_zeros x h = take_padded 32 32 x h (omega arith)

-- the front of a string that a block has room for, then zeros
front_zeros : (m k : ℕ) (x : List ℕ) → m ≤ k → take (min (length x) m) x ++ drop (min (length x) m) (zeros m) ≡ take m (x ++ zeros k)
front_zeros m k [] h = let e : min 0 m ≡ 0 = omega arith in rw e (sym (take-replicate m k 0 h))
front_zeros zero k (b ∷ x) h = let e : min (suc (length x)) 0 ≡ 0 = omega arith in rw e
front_zeros (suc m) k (b ∷ x) h =
    let e : min (suc (length x)) (suc m) ≡ suc (min (length x) m) = omega arith in
    rw e (ap (λ (l : List ℕ). b ∷ l) (front_zeros m k x (omega arith)))

pub filled_front : (x : List ℕ) → take (min (length x) 32) x ++ drop (min (length x) 32) (zeros 32) ≡ filled x
unfolding filled
filled_front x = front_zeros 32 32 x (omega arith)

zeros_beyond : (n i : ℕ) → get_or (zeros n) i 0 ≡ 0
zeros_beyond zero i = refl
zeros_beyond (suc n) zero = refl
zeros_beyond (suc n) (suc i) = zeros_beyond n i

get_or_padded : (x : List ℕ) (n i : ℕ) → get_or (x ++ zeros n) i 0 ≡ get_or x i 0
get_or_padded [] n i = zeros_beyond n i
get_or_padded (b ∷ x) n zero = refl
get_or_padded (b ∷ x) n (suc i) = get_or_padded x n i

pub get_or_filled : (x : List ℕ) (i : ℕ) → i < 32 → get_or (filled x) i 0 ≡ get_or x i 0
unfolding filled
get_or_filled x i h = get_or-take 32 (x ++ zeros 32) i 0 h ∙ get_or_padded x 32 i

pub length_filled : (x : List ℕ) → length (filled x) ≡ 32
unfolding filled
length_filled x = omega (arith, length-take 32 (x ++ zeros 32), length-append x (zeros 32))

pub bytes_filled : (x : List ℕ) → AreBytes x → AreBytes (filled x)
unfolding filled
bytes_filled x h = bytes_take 32 (x ++ zeros 32) (bytes_append x (zeros 32) h (bytes_zeros 32))

pub block_filled : (x : List ℕ) → AreBytes x → IsBlock (filled x)
block_filled x h = record { long = length_filled x; bytes = bytes_filled x h }

pub filled_⊕ : (x k : List ℕ) → length x ≤ 32 → length k ≡ 32 → filled x ⊕ k ≡ x ⊕ k
filled_⊕ x k h e = ap (λ (t : List ℕ). t ⊕ k) (filled_zeros x h) ∙ padded_⊕ x (32 - length x) k (omega arith)

pub take_filled : (n : ℕ) (x : List ℕ) → length x ≡ n → n ≤ 32 → take n (filled x) ≡ x
take_filled n x e h = ap (λ (t : List ℕ). take n t) (filled_zeros x (omega arith)) ∙ take_at x _ n e
