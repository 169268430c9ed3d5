-- Comparing computed bytes with published ones, and counting.
use Rattle.std.specs.Prelude.{◌≡◌, ℕ, ◌+◌, ◌-◌, ◌^◌, min, Bool, cond, List}
use Rattle.std.specs.Str.{bytes_eq}
use Rattle.published.specs.declared.compare.Tally.{Tally}

-- a count that goes up by n, as far as 64 bits tell
abbrev pub more : ℕ → ℕ → ℕ
more n count = min (count + n) (2 ^ 64 - 1)

-- One comparison more: it answers whether length and bytes agree, and counts itself and, where they do not, a difference.
pub record Compared (before : Tally) (computed published : List ℕ) (answer : Bool) (after : Tally) : Type 0 where
  pub agrees : answer ≡ bytes_eq computed published
  pub compared : after.compared ≡ more 1 before.compared
  pub differing : after.differing ≡ more (cond (bytes_eq computed published) 0 1) before.differing

-- Two tallies as one: the counts of a part are added.
pub record Joined (before part after : Tally) : Type 0 where
  pub compared : after.compared ≡ more part.compared before.compared
  pub differing : after.differing ≡ more part.differing before.differing
