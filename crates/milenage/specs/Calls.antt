-- What the calls answer, as relations that other crates cite.
use Rattle.std.specs.Prelude.{◌≡◌, ℕ, zero, suc, ◌^◌, ◌<◌, List, [], ◌∷◌, ◌++◌, length, Ok, Err, Result}
use Rattle.block.specs.declared.refusal.Refusal.{Refusal}
use Rattle.block.specs.Bytes.{◌⊕◌, zeros, over}
use Rattle.block.specs.Refusals.{number}
use Rattle.milenage.specs.declared.question.Question.{Question as Held}
use Rattle.milenage.specs.Functions.{index_of}
use Rattle.milenage.specs.Question.{Question, header, constant_of}
use Rattle.milenage.specs.Blocks.{Keyed, trace_of}
use Rattle.milenage.specs.Grounds.{trace_ground}

-- a question, by its parts
abbrev pub asked : ℕ → ℕ → ℕ → List ℕ → Question
asked index rand_size size carried = record { index = index; rand_size = rand_size; size = size; carried = carried }

-- what the code holds of a question
pub record Tells (h : Held) (q : Question) : Type 0 where
  pub index : index_of h.function ≡ q.index
  pub header : h.header ≡ header q

-- IN, from what the code holds of a question
unfoldable pub input_of : List ℕ → Held → List ℕ
input_of constants h = h.header ⊕ (zeros 16 ++ constant_of constants (index_of h.function))

-- what the functions are computed with, by its parts
abbrev pub keyed : (List ℕ → List ℕ) → List ℕ → List ℕ → Keyed
keyed forth opc constants = record { forth = forth; opc = opc; constants = constants }

-- trace: the six blocks stand at the front of the output exactly when there is no ground; a refusal leaves the output as found
abbrev pub Traces : Keyed → ℕ → List ℕ → ℕ → List ℕ → List ℕ → ℕ → Result (Unit {0}) Refusal → List ℕ → Type 0
Traces m index rand size carried before scratch (Ok _) after =
    (trace_ground index (length rand) size (length carried) (length before) scratch ≡ 0)
    × (after ≡ over (trace_of m rand (asked index (length rand) size carried)) before)
Traces m index rand size carried before scratch (Err e) after =
    (number e ≡ trace_ground index (length rand) size (length carried) (length before) scratch) × (after ≡ before)

-- the last byte of a standard constant: 0 for c0, and 2 ^ (i − 1) for the others
abbrev pub standard_last : ℕ → ℕ
standard_last zero = 0
standard_last (suc i) = 2 ^ i

-- the standard's constants: zeros but for their last bytes
abbrev pub StandardConstants : List ℕ → Type 0
StandardConstants constants = (i : ℕ) → i < 8 → constant_of constants i ≡ zeros 15 ++ (standard_last i ∷ [])
