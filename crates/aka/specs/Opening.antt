-- On which grounds an end is not opened.
use Rattle.std.specs.Prelude.{◌≡◌, ℕ, ◌<◌, Bool, not, ◌||◌, List, [], ◌∷◌, Ok, Err, Result, ◌==◌}
use Rattle.block.specs.declared.refusal.Refusal.{Refusal}
use Rattle.block.specs.Refusals.{number, ◌when◌, first}
use Rattle.milenage.specs.Functions.{outside}
use Rattle.aka.specs.declared.sizes.Sizes.{Sizes}
use Rattle.aka.specs.declared.sizes.Admitted.{Admitted}
use Rattle.aka.specs.Calls.{differs}

-- a size is out of its bounds
abbrev pub bad_sizes : Sizes → Bool
bad_sizes z =
    outside 16 32 z.rand
    || (outside 6 12 z.sqn
    || (outside 6 12 z.ak
    || (outside 8 32 z.mac || (outside 4 32 z.res || (outside 16 32 z.ck || outside 16 32 z.ik)))))

abbrev pub size_ground : Sizes → ℕ
size_ground z = first ((6 when bad_sizes z) ∷ (7 when not (z.ak == z.sqn)) ∷ [])

abbrev pub open_ground : List ℕ → List ℕ → Sizes → List ℕ → ℕ
open_ground opc constants z n =
    first
    ((2 when differs opc 32)
    ∷ (3 when differs constants 128)
    ∷ (6 when bad_sizes z)
    ∷ (7 when not (z.ak == z.sqn))
    ∷ (8 when differs n z.sqn)
    ∷ [])

-- a size set is admitted as it is, or refused by its ground
abbrev pub Admits : Sizes → Result Admitted Refusal → Type 0
Admits z (Ok a) = (size_ground z ≡ 0) × (a.sizes ≡ z)
Admits z (Err e) = (number e ≡ size_ground z) × (0 < size_ground z)
