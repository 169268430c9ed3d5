-- The key schedule: the words w0 to w119 of a key of 32 bytes, and the fifteen round keys made of them.
use Rattle.std.specs.Prelude.{◌≡◌, ℕ, zero, suc, ◌+◌, ◌-◌, ◌*◌, ◌/◌, ◌%◌, ◌<◌, cond, not, List, [], ◌∷◌, ◌++◌, length, get_or, ◌==◌, bit_xor, nat_lt, slice_index, slice_index_or}
use Rattle.block.specs.Refusals.{first, ◌when◌}
use Rattle.field.specs.Field.{xtime, s_box}
use Rattle.rijndael.specs.State.{table, state, at}

-- 01, doubled n times in the field
unfoldable pub doubled : ℕ → ℕ
doubled zero = 0x01
doubled (suc n) = xtime (doubled n)

-- a table of fourteen: the first is 01, and each next one is x times the last
pub record Doubling (t : List ℕ) : Type 0 where
  pub long : length t ≡ 14
  pub starts : get_or t 0 0 ≡ 0x01
  pub doubles : (i : ℕ) → i < 13 → slice_index t (i + 1) ≡ xtime (slice_index t i)

-- round constant i, counted from 1
abbrev pub constant : ℕ → ℕ
constant i = doubled (i - 1)

-- a word of four bytes, by its bytes
abbrev pub word : (ℕ → ℕ) → List ℕ
word f = table 4 f

unfoldable pub xor_word : List ℕ → List ℕ → List ℕ
xor_word v w = word (λ i. bit_xor (slice_index v i) (slice_index w i))

-- the first byte moves to the end
unfoldable pub rot_word : List ℕ → List ℕ
rot_word w = word (λ i. slice_index w ((i + 1) % 4))

unfoldable pub sub_word : List ℕ → List ℕ
sub_word w = word (λ i. s_box (slice_index w i))

-- what wi adds to w(i-8), where v is w(i-1)
unfoldable pub change : ℕ → List ℕ → List ℕ
change i v = cond (i % 8 == 0) (xor_word (sub_word (rot_word v)) (constant (i / 8) ∷ 0 ∷ 0 ∷ 0 ∷ [])) (cond (i % 8 == 4) (sub_word v) v)

-- word i, after the words before it
unfoldable pub next : List ℕ → ℕ → List (List ℕ) → List ℕ
next key i ws =
    cond (nat_lt i 8) (word (λ j. slice_index key (4 * i + j))) (xor_word (slice_index_or ws (i - 8) []) (change i (slice_index_or ws (i - 1) [])))

-- one more word
unfoldable pub more : List ℕ → ℕ → List (List ℕ) → List (List ℕ)
more key i ws = ws ++ (next key i ws ∷ [])

-- the first n words
unfoldable pub words : List ℕ → ℕ → List (List ℕ)
words key zero = []
words key (suc n) = more key n (words key n)

unfoldable pub schedule : List ℕ → List (List ℕ)
schedule key = words key 120

-- round n adds words 8n to 8n+7, one a column
unfoldable pub round_key : List (List ℕ) → ℕ → List (List ℕ)
round_key ws n = state (λ r c. at ws (8 * n + c) r)

-- the rows of the fifteen round keys: the four of round key 0, then those of round key 1, ..
unfoldable pub round_keys : List ℕ → List (List ℕ)
round_keys key = table 60 (λ i. get_or (round_key (schedule key) (i / 4)) (i % 4) [])

-- refusal 1 where the key is not of 32 bytes, and 0 where it is
abbrev pub key_ground : List ℕ → ℕ
key_ground key = first ((1 when not (length key == 32)) ∷ [])
