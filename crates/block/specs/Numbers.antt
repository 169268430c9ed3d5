-- Numbers as bytes, the first byte highest.
use Rattle.std.specs.Prelude.{ℕ, zero, suc, ◌/◌, ◌%◌, List, [], ◌∷◌, ◌++◌}
use Rattle.std.specs.Int.Digits.{number_from_digits}

-- the number that bytes tell
abbrev pub value : List ℕ → ℕ
value bytes = number_from_digits 256 bytes

-- the k bytes of the number n, which are its lowest where n has more
unfoldable pub bytes_of : ℕ → ℕ → List ℕ
bytes_of zero n = []
bytes_of (suc k) n = bytes_of k (n / 256) ++ (n % 256 ∷ [])
