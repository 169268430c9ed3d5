-- Bytes spelled in hexadecimal digits, small or capital, two to a byte and nothing between.
use Rattle.std.specs.Prelude.{◌≡◌, ℕ, ◌+◌, ◌*◌, ◌%◌, ◌<◌, ◌≤◌, ◌⊎◌, List, length, slice_index}
use Rattle.std.specs.Char.{digit_value}

-- the byte that digits 2i and 2i + 1 of a text spell
abbrev pub byte_at : List ℕ → ℕ → ℕ
byte_at text i = digit_value (slice_index text (2 * i)) * 16 + digit_value (slice_index text (2 * i + 1))

-- the text spells these bytes
pub record Spells (text bytes : List ℕ) : Type 0 where
  pub long : length text ≡ 2 * length bytes
  pub each : (i : ℕ) → i < length bytes → slice_index bytes i ≡ byte_at text i

-- the text spells no bytes: its length is odd, or a character is no hexadecimal digit
abbrev pub SpellsNothing : List ℕ → Type 0
SpellsNothing text = (length text % 2 ≡ 1) ⊎ ((i : ℕ) × (i < length text) × (16 ≤ digit_value (slice_index text i)))
