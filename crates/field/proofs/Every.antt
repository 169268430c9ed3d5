-- A test of each number below n, computed once; and what it says of each of them.
use mathlib.Core.Path.{◌≡◌}
use mathlib.Core.Bool.{Bool, true}
use Prim.Native.Nat.{ℕ, ◌<◌}
use lib.Dec.{eqb, ltb}
use Rattle.std.proofs.lemmas.Bool.{agree_below, agree_below_at, eqb-true, ltb-true}

-- f passes at 0, .., n - 1
abbrev pub every : ℕ → (ℕ → Bool) → Bool
every n f = agree_below f (λ _. true) n

pub passes : (n : ℕ) (f : ℕ → Bool) → every n f ≡ true → (k : ℕ) → k < n → f k ≡ true
passes n f t k h = agree_below_at f (λ _. true) n k t h

-- two functions that agree at each byte
pub agree : (f g : ℕ → ℕ) → every 256 (λ b. eqb (f b) (g b)) ≡ true → (b : ℕ) → b < 256 → f b ≡ g b
agree f g t b h = eqb-true (f b) (g b) (passes 256 (λ b. eqb (f b) (g b)) t b h)

pub under : (f : ℕ → ℕ) (m : ℕ) → every 256 (λ b. ltb (f b) m) ≡ true → (b : ℕ) → b < 256 → f b < m
under f m t b h = ltb-true (f b) m (passes 256 (λ b. ltb (f b) m) t b h)
