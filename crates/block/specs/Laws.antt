-- What holds of byte strings, numbers and grounds.
use Rattle.std.specs.Prelude.{◌≡◌, ℕ, ◌-◌, ◌^◌, ◌<◌, ◌≤◌, max, true, ◌⊎◌, List, [], ◌∷◌, ◌++◌, length}
use Rattle.block.specs.Bytes.{AreBytes, ◌⊕◌, zeros, filled}
use Rattle.block.specs.Numbers.{value, bytes_of}
use Rattle.block.specs.Refusals.{Ground, first}

pub record ExclusiveOrLaws : Type 0 where
  -- exclusive or undoes itself at equal lengths
  pub undoes_itself : (x k : List ℕ) → length x ≡ length k → (x ⊕ k) ⊕ k ≡ x
  -- it is as long as the longer operand
  pub long : (x y : List ℕ) → length (x ⊕ y) ≡ max (length x) (length y)
  pub stays_bytes : (x y : List ℕ) → AreBytes x → AreBytes y → AreBytes (x ⊕ y)
  -- zeros on the right of an operand change nothing within the length of the other
  pub fills : (x k : List ℕ) → length x ≤ 32 → length k ≡ 32 → filled x ⊕ k ≡ x ⊕ k

pub record FillingLaws : Type 0 where
  pub long : (x : List ℕ) → length (filled x) ≡ 32
  pub zeros_behind : (x : List ℕ) → length x ≤ 32 → filled x ≡ x ++ zeros (32 - length x)
  pub stays_bytes : (x : List ℕ) → AreBytes x → AreBytes (filled x)

pub record NumberLaws : Type 0 where
  pub long : (k n : ℕ) → length (bytes_of k n) ≡ k
  pub are_bytes : (k n : ℕ) → AreBytes (bytes_of k n)
  -- a number that fits is read from its bytes again
  pub number_again : (k n : ℕ) → n < 256 ^ k → value (bytes_of k n) ≡ n
  -- bytes are written again from the number that they tell
  pub bytes_again : (x : List ℕ) → AreBytes x → bytes_of (length x) (value x) ≡ x
  pub below : (x : List ℕ) → AreBytes x → value x < 256 ^ length x

-- a ground stands in a list of grounds
abbrev pub Among : Ground → List Ground → Type 0
Among g [] = ⊥
Among g (h ∷ hs) = (h ≡ g) ⊎ Among g hs

-- the numbers of the list rise, from above n on
abbrev pub Rising : ℕ → List Ground → Type 0
Rising n [] = Unit {0}
Rising n (g ∷ gs) = (n < g.number) × Rising g.number gs

-- Of grounds listed by rising number the smallest that holds is reported, and 0 exactly where none holds.
pub record GroundLaws : Type 0 where
  pub smallest : (n : ℕ) (gs : List Ground) → Rising n gs → (g : Ground) → Among g gs → g.holds ≡ true → (0 < first gs) × (first gs ≤ g.number)
  pub one_that_holds : (n : ℕ) (gs : List Ground) → Rising n gs → 0 < first gs → (g : Ground) × Among g gs × (g.holds ≡ true) × (g.number ≡ first gs)
