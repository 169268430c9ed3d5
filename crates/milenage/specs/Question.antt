-- What a function is asked, and the block IN that tells it to the kernel.
use Rattle.std.specs.Prelude.{◌≡◌, ℕ, ◌+◌, ◌-◌, ◌*◌, ◌<◌, false, List, ◌∷◌, ◌++◌, length, take, drop}
use Rattle.block.specs.Bytes.{◌⊕◌, zeros, filled}
use Rattle.milenage.specs.Functions.{Kind, authentication, response, session_key, anonymity_key, resynchronisation_key, kind_of, bad_rand, bad_size, bad_carried}

-- A question: the function's index, how long the RAND is, how long the output, and the carried bytes:
-- AMF ‖ SQN for f1* and f1, a MAC-S for f5**, nothing for the others. Their length tells the second size.
pub record Question : Type 0 where
  pub index : ℕ
  pub rand_size : ℕ
  pub size : ℕ
  pub carried : List ℕ

-- within the product's bounds
pub record Admissible (q : Question) : Type 0 where
  pub index : q.index < 8
  pub rand : bad_rand q.rand_size ≡ false
  pub size : bad_size (kind_of q.index) q.size ≡ false
  pub carried : bad_carried (kind_of q.index) (length q.carried) ≡ false

-- Two questions are the same: index, RAND size, the sizes in byte 1 and the carried bytes agree. Of a MAC-S thirty bytes are carried.
pub record SameQuestion (q r : Question) : Type 0 where
  pub index : q.index ≡ r.index
  pub rand : q.rand_size ≡ r.rand_size
  pub size : q.size ≡ r.size
  pub second : length q.carried ≡ length r.carried
  pub carried : take 30 q.carried ≡ take 30 r.carried

-- byte 0 of IN: the index, the RAND's size, and in the lowest bit, for even sizes, the key of 32 bytes
unfoldable pub byte0 : ℕ → ℕ → ℕ
byte0 index rand_size = index * 32 + (rand_size - 1)

-- byte 1 of IN: the sizes, from the output's size and the number of carried bytes.
-- (SQN size − 5) × 32 + (MAC size − 1); RES, CK or IK size − 1; AK size − 5; (MAC size − 1) × 8 + (AK size − 5)
unfoldable pub byte1 : Kind → ℕ → ℕ → ℕ
byte1 authentication mac carried = (carried - 2 - 5) * 32 + (mac - 1)
byte1 response res carried = res - 1
byte1 session_key key carried = key - 1
byte1 anonymity_key ak carried = ak - 5
byte1 resynchronisation_key ak carried = (carried - 1) * 8 + (ak - 5)

-- IN before its constant: the two bytes, what is carried, zeros
unfoldable pub header : Question → List ℕ
header q =
    filled (byte0 q.index q.rand_size ∷ byte1 (kind_of q.index) q.size (length q.carried) ∷ take 30 q.carried)

-- the 16-byte constant of an index, among c0 to c7 end to end
abbrev pub constant_of : List ℕ → ℕ → List ℕ
constant_of constants index = take 16 (drop (16 * index) constants)

-- IN: bytes 16 to 31 of the header are ⊕ the constant of the index
unfoldable pub input : List ℕ → Question → List ℕ
input constants q = header q ⊕ (zeros 16 ++ constant_of constants q.index)
