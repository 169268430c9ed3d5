-- What INs and answer blocks tell of their questions.
use Rattle.std.specs.Prelude.{◌≡◌, ℕ, ◌+◌, ◌-◌, ◌*◌, ◌/◌, ◌%◌, ◌≤◌, ◌↔◌, List, length, ◌≢◌}
use Rattle.block.specs.Bytes.{AreBytes, IsBlock, filled}
use Rattle.milenage.specs.Question.{Question, Admissible, SameQuestion, byte0, input}
use Rattle.milenage.specs.Blocks.{Keyed, temp, answer}

-- Admissible questions have the same IN exactly when they are the same question.
abbrev pub SameInputSameQuestion : Type 0
SameInputSameQuestion =
    (constants : List ℕ) (q r : Question) → length constants ≡ 128 → Admissible q → Admissible r
    → (input constants q ≡ input constants r) ↔ SameQuestion q r

-- What the functions are computed with is made of blocks and bytes.
pub record Sound (m : Keyed) : Type 0 where
  pub opc : IsBlock m.opc
  pub constants_long : length m.constants ≡ 128
  pub constants_bytes : AreBytes m.constants

-- At one TEMP, the answer blocks of admissible questions are equal exactly when the questions are the same,
-- for every forth that has a way back.
abbrev pub EqualBlocksSameQuestion : (forth : List ℕ → List ℕ) → Type 0
EqualBlocksSameQuestion forth =
    (opc constants t : List ℕ) (q r : Question)
    → let m : Keyed = record { forth = forth; opc = opc; constants = constants } in
    Sound m → IsBlock t → Admissible q → Admissible r → AreBytes q.carried → AreBytes r.carried
    → (answer m t (input constants q) ≡ answer m t (input constants r)) ↔ SameQuestion q r

-- RANDs of different sizes that agree once filled with zeros have one TEMP, and INs that differ.
pub record FillingIsSeenInTheInput : Type 0 where
  pub one_temp : (m : Keyed) (rand rand' : List ℕ) → filled rand ≡ filled rand' → temp m rand ≡ temp m rand'
  pub inputs_differ :
      (constants : List ℕ) (q r : Question) → length constants ≡ 128 → Admissible q → Admissible r
      → (q.rand_size ≢ r.rand_size) → input constants q ≢ input constants r

-- At even RAND sizes byte 0 is the standard's: three bits of index, four of (RAND size − 2) / 2, and 1 for the key of 32 bytes.
abbrev pub ByteZeroIsTheStandards : Type 0
ByteZeroIsTheStandards =
    (index rand_size : ℕ) → 2 ≤ rand_size → rand_size % 2 ≡ 0 → byte0 index rand_size ≡ index * 32 + (rand_size - 2) / 2 * 2 + 1
