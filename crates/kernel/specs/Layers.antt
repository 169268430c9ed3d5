-- The meaning of layers over kernels.
use Rattle.std.specs.Prelude.{not, ◌||◌, List, [], ◌∷◌, ℕ, eqb, length}
use Rattle.block.specs.Bytes.{◌⊕◌}
use Rattle.block.specs.Refusals.{◌when◌, first}

-- f between two masks: a before, b behind; back is between the masks the other way round
abbrev pub whitened : List ℕ → List ℕ → (List ℕ → List ℕ) → List ℕ → List ℕ
whitened a b f x = f (x ⊕ a) ⊕ b

-- why masks are refused: one is not 32 bytes
abbrev pub mask_ground : List ℕ → List ℕ → ℕ
mask_ground a b = first ((1 when (not (eqb (length a) 32) || not (eqb (length b) 32))) ∷ [])

-- the first function, then the second; back is chained the other way round
abbrev pub chained : (List ℕ → List ℕ) → (List ℕ → List ℕ) → List ℕ → List ℕ
chained first second x = second (first x)
