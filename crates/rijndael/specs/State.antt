-- The state: four rows of eight bytes. Each step says which byte stands in row r and column c after it.
use Rattle.std.specs.Prelude.{ℕ, zero, suc, ◌+◌, ◌-◌, ◌*◌, ◌/◌, ◌%◌, ◌<◌, ◌≡◌, List, [], ◌∷◌, length, get_or}
use Rattle.std.specs.Int.Bits.{bit_xor}
use Rattle.field.specs.Field.{mul, s_box, un_s_box}

-- f 0, .., f (n - 1)
abbrev pub table {ℓ} : {A : Type ℓ} → ℕ → (ℕ → A) → List A
table zero f = []
table (suc n) f = f 0 ∷ table n (λ i. f (suc i))

-- f 0 ⊕ .. ⊕ f (n - 1)
abbrev pub sum : ℕ → (ℕ → ℕ) → ℕ
sum zero f = 0
sum (suc n) f = bit_xor (f 0) (sum n (λ i. f (suc i)))

-- the state with f r c in row r and column c
abbrev pub state : (ℕ → ℕ → ℕ) → List (List ℕ)
state f = table 4 (λ r. table 8 (f r))

-- what stands in row r and column c
abbrev pub at : List (List ℕ) → ℕ → ℕ → ℕ
at s r c = get_or (get_or s r []) c 0

-- byte by byte, R holds of what stands in xs and what is made of it in ys
pub record EachByte (R : ℕ → ℕ → Type 0) (n : ℕ) (xs ys : List ℕ) : Type 0 where
  pub long : length ys ≡ n
  pub each : (i : ℕ) → i < n → R (get_or xs i 0) (get_or ys i 0)

-- the same of two states
pub record EachByteOfState (R : ℕ → ℕ → Type 0) (s t : List (List ℕ)) : Type 0 where
  pub whole : state (at t) ≡ t
  pub each : (r c : ℕ) → r < 4 → c < 8 → R (at s r c) (at t r c)

-- byte i of a block has row i mod 4 and column i div 4
unfoldable pub load : List ℕ → List (List ℕ)
load x = state (λ r c. get_or x (4 * c + r) 0)

unfoldable pub store : List (List ℕ) → List ℕ
store s = table 32 (λ i. at s (i % 4) (i / 4))

unfoldable pub sub : List (List ℕ) → List (List ℕ)
sub s = state (λ r c. s_box (at s r c))

unfoldable pub unsub : List (List ℕ) → List (List ℕ)
unsub s = state (λ r c. un_s_box (at s r c))

-- by how many places row r is moved left
abbrev pub places : ℕ → ℕ
places r = get_or (0 ∷ 1 ∷ 3 ∷ 4 ∷ []) r 0

unfoldable pub shift : List (List ℕ) → List (List ℕ)
shift s = state (λ r c. at s r ((c + places r) % 8))

unfoldable pub unshift : List (List ℕ) → List (List ℕ)
unshift s = state (λ r c. at s r ((c + (8 - places r)) % 8))

-- row r and column j of the matrix with this first row, each next row being moved one place right
abbrev pub matrix : List ℕ → ℕ → ℕ → ℕ
matrix first r j = get_or first ((4 + j - r) % 4) 0

-- each column times that matrix
unfoldable pub mix_by : List ℕ → List (List ℕ) → List (List ℕ)
mix_by first s = state (λ r c. sum 4 (λ j. mul (matrix first r j) (at s j c)))

abbrev pub forth_row : List ℕ
forth_row = 0x02 ∷ 0x03 ∷ 0x01 ∷ 0x01 ∷ []

abbrev pub back_row : List ℕ
back_row = 0x0e ∷ 0x0b ∷ 0x0d ∷ 0x09 ∷ []

abbrev pub mix : List (List ℕ) → List (List ℕ)
mix s = mix_by forth_row s

abbrev pub unmix : List (List ℕ) → List (List ℕ)
unmix s = mix_by back_row s

-- the round key k is added
unfoldable pub add : List (List ℕ) → List (List ℕ) → List (List ℕ)
add k s = state (λ r c. bit_xor (at s r c) (at k r c))
