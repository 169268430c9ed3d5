-- On which grounds the calls are refused. Of an argument that is only measured, its length is taken.
use Rattle.std.specs.Prelude.{ℕ, Bool, false, not, ◌||◌, ltb, List, [], ◌∷◌, length, ◌==◌, nat_lt}
use Rattle.block.specs.Refusals.{Ground, ◌when◌, first}
use Rattle.milenage.specs.Functions.{kind_of, bad_rand, bad_size, bad_carried}

-- a name holds the byte 00
abbrev pub holds_zero : List ℕ → Bool
holds_zero [] = false
holds_zero (b ∷ bs) = b == 0 || holds_zero bs

abbrev pub derive_ground : List ℕ → List ℕ → ℕ → ℕ
derive_ground op name scratch =
    first
    ((2 when not (length op == 32))
    ∷ (4 when (nat_lt 31 (length name) || holds_zero name))
    ∷ (12 when ltb scratch 96)
    ∷ [])

abbrev pub question_grounds : ℕ → ℕ → ℕ → ℕ → List Ground → List Ground
question_grounds index rand size carried more =
    (5 when ltb 7 index)
    ∷ (6 when bad_size (kind_of index) size)
    ∷ (9 when bad_rand rand)
    ∷ (11 when bad_carried (kind_of index) carried)
    ∷ more

-- that of the index alone
abbrev pub index_ground : ℕ → ℕ
index_ground index = first ((5 when ltb 7 index) ∷ [])

-- those of the index and the output size alone
abbrev pub size_ground : ℕ → ℕ → ℕ
size_ground index size = first ((5 when ltb 7 index) ∷ (6 when bad_size (kind_of index) size) ∷ [])

-- those that no RAND has a part in
abbrev pub sizes_ground : ℕ → ℕ → ℕ → ℕ
sizes_ground index size carried =
    first
    ((5 when ltb 7 index)
    ∷ (6 when bad_size (kind_of index) size)
    ∷ (11 when bad_carried (kind_of index) carried)
    ∷ [])

abbrev pub question_ground : ℕ → ℕ → ℕ → ℕ → ℕ
question_ground index rand size carried = first (question_grounds index rand size carried [])

abbrev pub trace_ground : ℕ → ℕ → ℕ → ℕ → ℕ → ℕ → ℕ
trace_ground index rand size carried out scratch =
    first (question_grounds index rand size carried ((12 when (nat_lt out 192 || nat_lt scratch 96)) ∷ []))

abbrev pub cut_ground : ℕ → ℕ → ℕ → ℕ
cut_ground index size block =
    first
    ((5 when ltb 7 index)
    ∷ (6 when bad_size (kind_of index) size)
    ∷ (15 when not (block == 32))
    ∷ [])
