-- IN tells its question.
use Rattle.std.proofs.Common.{◌≡◌, ℕ, ◌+◌, ◌-◌, ◌*◌, ◌/◌, ◌%◌, ◌<◌, ◌≤◌, min, Bool, true, false, cond, ltb, List, ◌∷◌, ◌++◌, length, take, drop, sym, refl, ap, ◌∙◌, subst, ap₂, arith, length-append}
use lib.Bits.{bit_xor, xor_zero_r}
use Rattle.std.proofs.lemmas.List.{length-take, length-drop}
use Rattle.std.proofs.lemmas.Bool.{ltb-false, le-ltb}
use Rattle.block.specs.Bytes.{AreBytes, IsBlock, ◌⊕◌, zeros}
use Rattle.block.proofs.ByteLaws.{bytes_zeros, bytes_cons, bytes_append, bytes_take, bytes_drop, length_⊕, ⊕_apart, block_⊕, length_filled, block_filled, filled_⊕}
use Rattle.milenage.specs.declared.question.Question.{Question as Held}
use Rattle.milenage.specs.Functions.{Kind, authentication, response, session_key, anonymity_key, resynchronisation_key, kind_of, bad_rand, bad_size, bad_carried}
use Rattle.milenage.specs.Question.{Question, Admissible, SameQuestion, byte0, byte1, header, constant_of, input}
use Rattle.milenage.specs.Grounds.{question_ground}
use Rattle.milenage.specs.Calls.{asked, Tells, input_of}
use Rattle.milenage.proofs.SizeLaws.{within}

-- the code's IN of a question is the question's
pub told_input : (constants : List ℕ) (h : Held) (q : Question) → Tells h q → input_of constants h ≡ input constants q
unfolding input_of input
told_input constants h q t = ap₂ (λ (x : List ℕ) (i : ℕ). x ⊕ (zeros 16 ++ constant_of constants i)) t.header t.index

-- ── which questions are admissible ──

all_free : (a b r d : Bool) → ◌≡◌ {A = ℕ} (cond a 5 (cond b 6 (cond r 9 (cond d 11 0)))) 0 → (a ≡ false) × (b ≡ false) × (r ≡ false) × (d ≡ false)
all_free true b r d h = absurd (omega arith)
all_free false true r d h = absurd (omega arith)
all_free false false true d h = absurd (omega arith)
all_free false false false true h = absurd (omega arith)
all_free false false false false h = (refl, refl, refl, refl)

-- a question without a ground against it is admissible, and the other way round
pub taken_admissible : (index rand_size size : ℕ) (carried : List ℕ) → question_ground index rand_size size (length carried) ≡ 0 → Admissible (asked index rand_size size carried)
taken_admissible index rand_size size carried h =
    let f = all_free (ltb 7 index) (bad_size (kind_of index) size) (bad_rand rand_size) (bad_carried (kind_of index) (length carried)) h in
    record { index = omega (arith, ltb-false 7 index f.0); rand = f.2; size = f.1; carried = f.3 }

pub admissible_taken : (q : Question) → Admissible q → question_ground q.index q.rand_size q.size (length q.carried) ≡ 0
admissible_taken q a =
    let i : ltb 7 q.index ≡ false = le-ltb 7 q.index (omega (arith, a.index)) in
    rw (i, a.size, a.rand, a.carried)

-- ── lengths and bytes ──

pub length_header : (q : Question) → length (header q) ≡ 32
unfolding header
length_header q = length_filled _

-- sixteen zeros, then a constant
masks : List ℕ → ℕ → List ℕ
masks constants i = zeros 16 ++ constant_of constants i

length_masks : (constants : List ℕ) (i : ℕ) → length constants ≡ 128 → i < 8 → length (masks constants i) ≡ 32
unfolding masks
length_masks constants i l h =
    omega (arith, length-append (zeros 16) (constant_of constants i), length-take 16 (drop (16 * i) constants), length-drop (16 * i) constants)

-- IN is as long as a block
pub length_input : (constants : List ℕ) (q : Question) → length (input constants q) ≡ 32
unfolding input
length_input constants q =
    omega (
      arith,
      length_⊕ (header q) (zeros 16 ++ constant_of constants q.index),
      length_header q,
      length-append (zeros 16) (constant_of constants q.index),
      length-take 16 (drop (16 * q.index) constants),
    )

-- byte 0 and byte 1 are bytes
pub byte0_is_byte : (q : Question) → Admissible q → byte0 q.index q.rand_size < 256
unfolding byte0
byte0_is_byte q a = omega (arith, a.index, within 16 32 q.rand_size a.rand)

pub byte1_is_byte : (k : Kind) (n m : ℕ) → bad_size k n ≡ false → bad_carried k m ≡ false → byte1 k n m < 256
unfolding byte1 bad_size bad_carried
byte1_is_byte authentication n m h g = omega (arith, within 8 32 n h, within 8 14 m g)
byte1_is_byte response n m h g = omega (arith, within 4 32 n h)
byte1_is_byte session_key n m h g = omega (arith, within 16 32 n h)
byte1_is_byte anonymity_key n m h g = omega (arith, within 6 12 n h)
byte1_is_byte resynchronisation_key n m h g = omega (arith, within 6 12 n h, within 8 32 m g)

-- IN of an admissible question is a block
pub block_input : (constants : List ℕ) (q : Question) → length constants ≡ 128 → AreBytes constants → Admissible q → AreBytes q.carried → IsBlock (input constants q)
unfolding input header masks
block_input constants q l b a c =
    let first : ℕ = byte0 q.index q.rand_size in
    let second : ℕ = byte1 (kind_of q.index) q.size (length q.carried) in
    let rest : List ℕ = take 30 q.carried in
    block_⊕ (header q) (masks constants q.index)
    (block_filled (first ∷ second ∷ rest)
    (bytes_cons first (second ∷ rest) (byte0_is_byte q a)
    (bytes_cons second rest (byte1_is_byte (kind_of q.index) q.size (length q.carried) a.size a.carried) (bytes_take 30 q.carried c))))
    (record {
      long = length_masks constants q.index l a.index;
      bytes = bytes_append (zeros 16) (constant_of constants q.index) (bytes_zeros 16) (bytes_take 16 (drop (16 * q.index) constants) (bytes_drop (16 * q.index) constants b));
    })

-- ── what IN tells ──

-- byte 1 tells the sizes
pub byte1_tells : (k : Kind) (n m n' m' : ℕ) → bad_size k n ≡ false → bad_carried k m ≡ false → bad_size k n' ≡ false → bad_carried k m' ≡ false
    → byte1 k n m ≡ byte1 k n' m' → (n ≡ n') × (m ≡ m')
unfolding byte1 bad_size bad_carried
byte1_tells authentication n m n' m' h g h' g' e = omega (arith, within 8 32 n h, within 8 14 m g, within 8 32 n' h', within 8 14 m' g')
byte1_tells response n m n' m' h g h' g' e = omega (arith, within 4 32 n h, ltb-false 0 m g, within 4 32 n' h', ltb-false 0 m' g')
byte1_tells session_key n m n' m' h g h' g' e = omega (arith, within 16 32 n h, ltb-false 0 m g, within 16 32 n' h', ltb-false 0 m' g')
byte1_tells anonymity_key n m n' m' h g h' g' e = omega (arith, within 6 12 n h, ltb-false 0 m g, within 6 12 n' h', ltb-false 0 m' g')
byte1_tells resynchronisation_key n m n' m' h g h' g' e = omega (arith, within 6 12 n h, within 8 32 m g, within 6 12 n' h', within 8 32 m' g')

-- IN without the zeros that fill the header
bare : (constants : List ℕ) (q : Question) → List ℕ
bare constants q =
    (byte0 q.index q.rand_size ∷ byte1 (kind_of q.index) q.size (length q.carried) ∷ take 30 q.carried)
    ⊕ (zeros 16 ++ constant_of constants q.index)

input_bare : (constants : List ℕ) (q : Question) → length constants ≡ 128 → q.index < 8 → input constants q ≡ bare constants q
unfolding input header bare masks
input_bare constants q l h =
    filled_⊕ (byte0 q.index q.rand_size ∷ byte1 (kind_of q.index) q.size (length q.carried) ∷ take 30 q.carried) (masks constants q.index)
    (omega (arith, length-take 30 q.carried)) (length_masks constants q.index l h)

bare_tells : (constants : List ℕ) (q r : Question) → Admissible q → Admissible r → bare constants q ≡ bare constants r → SameQuestion q r
unfolding bare byte0 ◌⊕◌
bare_tells constants q r g h e =
    let first : bit_xor (q.index * 32 + (q.rand_size - 1)) 0 ≡ bit_xor (r.index * 32 + (r.rand_size - 1)) 0 = cc in
    let b₀ : q.index * 32 + (q.rand_size - 1) ≡ r.index * 32 + (r.rand_size - 1) = sym (xor_zero_r _) ∙ first ∙ xor_zero_r _ in
    let w = within 16 32 q.rand_size g.rand in
    let w' = within 16 32 r.rand_size h.rand in
    let i : q.index ≡ r.index = omega (arith, w, w') in
    let l : q.rand_size ≡ r.rand_size = omega (arith, w, w') in
    let second : bit_xor (byte1 (kind_of q.index) q.size (length q.carried)) 0 ≡ bit_xor (byte1 (kind_of r.index) r.size (length r.carried)) 0 = cc in
    let b₁ : byte1 (kind_of q.index) q.size (length q.carried) ≡ byte1 (kind_of r.index) r.size (length r.carried) = sym (xor_zero_r _) ∙ second ∙ xor_zero_r _ in
    let k = ap kind_of i in
    let n = byte1_tells (kind_of r.index) q.size (length q.carried) r.size (length r.carried)
    (subst (λ (x : Kind). bad_size x q.size ≡ false) k g.size) (subst (λ (x : Kind). bad_carried x (length q.carried) ≡ false) k g.carried) h.size h.carried
    (ap (λ (x : Kind). byte1 x q.size (length q.carried)) (sym k) ∙ b₁) in
    let rest : take 30 q.carried ⊕ (zeros 14 ++ constant_of constants q.index) ≡ take 30 r.carried ⊕ (zeros 14 ++ constant_of constants r.index) = cc in
    record {
      index = i;
      rand = l;
      size = n.0;
      second = n.1;
      carried =
          ⊕_apart (take 30 q.carried) (take 30 r.carried) (zeros 14 ++ constant_of constants r.index)
          (length-take 30 q.carried ∙ ap (min 30) n.1 ∙ sym (length-take 30 r.carried))
          (ap (λ (x : ℕ). take 30 q.carried ⊕ (zeros 14 ++ constant_of constants x)) (sym i) ∙ rest);
    }

pub input_tells : (constants : List ℕ) (q r : Question) → length constants ≡ 128 → Admissible q → Admissible r → input constants q ≡ input constants r → SameQuestion q r
input_tells constants q r l g h e =
    bare_tells constants q r g h (sym (input_bare constants q l g.index) ∙ e ∙ input_bare constants r l h.index)

pub input_same : (constants : List ℕ) (q r : Question) → SameQuestion q r → input constants q ≡ input constants r
unfolding input header
input_same constants q r e =
    cc (ap (λ (x : ℕ). constant_of constants x) e.index, e.index, e.rand, e.size, e.second, e.carried)

-- byte 0 as the standard writes it
pub byte0_standard : (index rand_size : ℕ) → 2 ≤ rand_size → rand_size % 2 ≡ 0 → byte0 index rand_size ≡ index * 32 + (rand_size - 2) / 2 * 2 + 1
unfolding byte0
byte0_standard index rand_size h e = omega arith
