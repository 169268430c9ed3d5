-- Byte strings, as lists with the first byte first.
use Rattle.std.specs.Prelude.{◌≡◌, ℕ, ◌<◌, List, [], ◌∷◌, ◌++◌, length, take, drop, replicate, bit_xor, slice_index}

infixl 66 ◌⊕◌
-- every element is a byte
abbrev pub AreBytes : List ℕ → Type 0
AreBytes x = (i : ℕ) → slice_index x i < 256

-- a block: 32 bytes
pub record IsBlock (x : List ℕ) : Type 0 where
  pub long : length x ≡ 32
  pub bytes : AreBytes x

-- exclusive or; the shorter operand is filled with zero bytes on its right
unfoldable pub ◌⊕◌ : List ℕ → List ℕ → List ℕ
[] ⊕ ys = ys
(x ∷ xs) ⊕ [] = x ∷ xs
(x ∷ xs) ⊕ (y ∷ ys) = bit_xor x y ∷ (xs ⊕ ys)

-- n zero bytes
abbrev pub zeros : ℕ → List ℕ
zeros n = replicate n 0

-- zero bytes on its right, up to 32 bytes; what exceeds 32 bytes is cut off
unfoldable pub filled : List ℕ → List ℕ
filled x = take 32 (x ++ zeros 32)

-- a buffer that held o, once v is written at its front: what lies behind v stays
abbrev pub over : List ℕ → List ℕ → List ℕ
over v o = v ++ drop (length v) o
