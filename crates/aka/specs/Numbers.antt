-- The numbers of the ends: byte strings of SQN size, the first byte highest. Nothing else steps or compares them.
use Rattle.std.specs.Prelude.{ℕ, ◌+◌, Bool, cond, List, length, replicate, nat_lt}
use Rattle.std.specs.Str.{bytes_eq}
use Rattle.block.specs.Numbers.{value, bytes_of}

-- the number after n, in as many bytes
unfoldable pub next_number : List ℕ → List ℕ
next_number n = bytes_of (length n) (value n + 1)

-- every byte is ff: no number comes after
unfoldable pub all_ff : List ℕ → Bool
all_ff n = bytes_eq n (replicate (length n) 0xff)

-- n exceeds m
unfoldable pub exceeds : List ℕ → List ℕ → Bool
exceeds n m = nat_lt (value m) (value n)

-- the larger of two numbers, the first where they are equal
unfoldable pub larger : List ℕ → List ℕ → List ℕ
larger n m = cond (exceeds m n) m n
