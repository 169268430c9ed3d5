-- Refusals: their numbers and words, and which of several grounds a call reports.
use Rattle.std.specs.Prelude.{◌≡◌, ℕ, Bool, cond, List, [], ◌∷◌, Ok, Err, codes, Result}
use Rattle.block.specs.declared.refusal.Refusal.{Refusal}
use Rattle.block.specs.declared.refusal.Refusal.TheVariants.{Key, OperatorField, Constants, Name, Index, Size, Mask, Number, Rand, Amf, Carried, Buffer, Spent, Stale, Message, Mac, Behind}

abbrev pub number : Refusal → ℕ
number Key = 1
number OperatorField = 2
number Constants = 3
number Name = 4
number Index = 5
number Size = 6
number Mask = 7
number Number = 8
number Rand = 9
number Amf = 10
number Carried = 11
number Buffer = 12
number Spent = 13
number Stale = 14
number Message = 15
number Mac = 16
number Behind = 17

-- the word that stands beside the number in print
abbrev pub word : Refusal → List ℕ
word Key = codes "key"
word OperatorField = codes "operator field"
word Constants = codes "constants"
word Name = codes "name"
word Index = codes "index"
word Size = codes "size"
word Mask = codes "mask"
word Number = codes "number"
word Rand = codes "RAND"
word Amf = codes "AMF"
word Carried = codes "carried"
word Buffer = codes "buffer"
word Spent = codes "spent"
word Stale = codes "stale"
word Message = codes "message"
word Mac = codes "MAC"
word Behind = codes "behind"

-- a ground: the number that is reported where the test holds
pub record Ground : Type 0 where
  pub number : ℕ
  pub holds : Bool

infix 30 ◌when◌
abbrev pub ◌when◌ : ℕ → Bool → Ground
n when b = record { number = n; holds = b }

-- the number of the first ground that holds, or 0 where none does; a call lists its grounds by rising number
abbrev pub first : List Ground → ℕ
first [] = 0
first (g ∷ gs) = cond g.holds g.number (first gs)

-- What a call answers whose grounds come to n: a value that meets P exactly when there is no ground, else the refusal of that number.
abbrev pub Answers : {A : Type 0} → ℕ → Result A Refusal → (A → Type 0) → Type 0
Answers n (Ok a) P = (n ≡ 0) × P a
Answers n (Err e) P = number e ≡ n
