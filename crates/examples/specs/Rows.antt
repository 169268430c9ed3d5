-- Worked examples: what the definitions yield, beside the bytes that are published.
use Rattle.std.specs.Prelude.{◌≡◌, ℕ, List, [], ◌∷◌, ◌++◌, take, drop, slice_index, slice_index_or}
use Rattle.block.specs.Bytes.{zeros}
use Rattle.field.specs.Field.{s_box}
use Rattle.rijndael.specs.State.{table, at, mix}
use Rattle.rijndael.specs.Schedule.{words}
use Rattle.milenage.specs.Question.{Question, input}
use Rattle.milenage.specs.Blocks.{standard_name, version_block}
use Rattle.aka.specs.Numbers.{next_number}

infix 30 ◌gives◌
pub record Row : Type 0 where
  pub yields : List ℕ
  pub published : List ℕ

abbrev pub ◌gives◌ : List ℕ → List ℕ → Row
y gives p = record { yields = y; published = p }

-- the column mix of one column
abbrev pub mix_column : List ℕ → List ℕ
mix_column v = table 4 (λ r. at (mix (table 4 (λ i. slice_index v i ∷ zeros 7))) r 0)

-- word i of the key 80 and 31 zeros
abbrev pub word_of_key80 : ℕ → List ℕ
word_of_key80 i = slice_index_or (words (0x80 ∷ zeros 31) 17) i []

-- a question to f1* or f5**, by index, RAND size, output size and carried bytes
abbrev pub question : ℕ → ℕ → ℕ → List ℕ → Question
question index rand_size size carried = record { index = index; rand_size = rand_size; size = size; carried = carried }

-- IN of a question under constants that are all zero
abbrev pub plain_input : Question → List ℕ
plain_input q = input (zeros 128) q

-- the MAC-S of TEST #1
abbrev pub test_one_mac_s : List ℕ
test_one_mac_s =
    0x28 ∷ 0x4c ∷ 0xce ∷ 0xee ∷ 0xae ∷ 0x93 ∷ 0xe2 ∷ 0xf4 ∷ 0x98 ∷ 0x15 ∷ 0x43 ∷ 0x7e ∷ 0x52 ∷ 0x89 ∷ 0xc1 ∷ 0x0a ∷ 0xea ∷ 0x60 ∷ 0x08 ∷ 0x97 ∷ 0xb5 ∷ 0x30 ∷ 0x6f ∷ 0x76 ∷ 0xe2 ∷ 0xf8 ∷ 0x01 ∷ 0x9a ∷ 0x4b ∷ 0xb0 ∷ 0xe8 ∷ 0xdd ∷ []

-- the c7 of TEST #1, and zeros for the others
abbrev pub test_one_constants : List ℕ
test_one_constants = zeros 112 ++ (0x70 ∷ 0x71 ∷ 0x72 ∷ 0x73 ∷ 0x74 ∷ 0x75 ∷ 0x76 ∷ 0x77 ∷ 0x78 ∷ 0x79 ∷ 0x7a ∷ 0x7b ∷ 0x7c ∷ 0x7d ∷ 0x7e ∷ 0x7f ∷ [])

abbrev pub rows : List Row
rows =
    ((s_box 0x00 ∷ []) gives (0x63 ∷ []))
    ∷ ((s_box 0x53 ∷ []) gives (0xed ∷ []))
    ∷ ((s_box 0xe2 ∷ []) gives (0x98 ∷ []))
    ∷ (mix_column (0xdb ∷ 0x13 ∷ 0x53 ∷ 0x45 ∷ []) gives (0x8e ∷ 0x4d ∷ 0xa1 ∷ 0xbc ∷ []))
    ∷ (word_of_key80 8 gives (0xe2 ∷ 0x63 ∷ 0x63 ∷ 0x63 ∷ []))
    ∷ (word_of_key80 12 gives (0x98 ∷ 0xfb ∷ 0xfb ∷ 0xfb ∷ []))
    ∷ (word_of_key80 16 gives (0xef ∷ 0x6c ∷ 0x6c ∷ 0x25 ∷ []))
    ∷ (version_block standard_name gives (0x01 ∷ 0x4d ∷ 0x49 ∷ 0x4c ∷ 0x45 ∷ 0x4e ∷ 0x41 ∷ 0x47 ∷ 0x45 ∷ 0x32 ∷ 0x2e ∷ 0x30 ∷ zeros 20))
    -- RAND 22, SQN 9, MAC 32: IN of f1* starts so
    ∷ (take 2 (plain_input (question 0 22 32 (zeros 11))) gives (0x15 ∷ 0x9f ∷ []))
    -- RAND 22, AK 12: IN of f5 starts so
    ∷ (take 2 (plain_input (question 5 22 12 [])) gives (0xb5 ∷ 0x07 ∷ []))
    -- TEST #5: IN of f1*
    ∷ (plain_input (question 0 32 32 (0x5a ∷ 0x71 ∷ 0x44 ∷ 0xb9 ∷ 0x3d ∷ 0x47 ∷ 0x26 ∷ 0xa3 ∷ []))
    gives (0x1f ∷ 0x3f ∷ 0x5a ∷ 0x71 ∷ 0x44 ∷ 0xb9 ∷ 0x3d ∷ 0x47 ∷ 0x26 ∷ 0xa3 ∷ zeros 22))
    -- TEST #1: bytes 16 and 17 of IN of f5**, where the constant meets the MAC-S
    ∷ (take 2 (drop 16 (input test_one_constants (question 7 32 12 test_one_mac_s))) gives (0xb1 ∷ 0x7b ∷ []))
    -- MAC 8, AK 6: byte 1 of f5**
    ∷ (take 1 (drop 1 (plain_input (question 7 16 6 (zeros 8)))) gives (0x39 ∷ []))
    -- the number after 00 00 00 00 00 ff
    ∷ (next_number (0x00 ∷ 0x00 ∷ 0x00 ∷ 0x00 ∷ 0x00 ∷ 0xff ∷ []) gives (0x00 ∷ 0x00 ∷ 0x00 ∷ 0x00 ∷ 0x01 ∷ 0x00 ∷ []))
    ∷ []

-- every row of a table yields what is published
abbrev pub EveryRowYields : List Row → Type 0
EveryRowYields [] = Unit {0}
EveryRowYields (r ∷ rs) = (r.yields ≡ r.published) × EveryRowYields rs
