-- The eight functions by their index: 0 f1*, 1 f1, 2 f2, 3 f3, 4 f4, 5 f5, 6 f5*, 7 f5**. Sizes count bytes.
use Rattle.std.specs.Prelude.{ℕ, Bool, cond, ◌||◌, nat_lt, List, codes}
use Rattle.milenage.specs.declared.function.Function.{Function}
use Rattle.milenage.specs.declared.function.Function.TheVariants.{F1Star, F1, F2, F3, F4, F5, F5Star, F5StarStar}

abbrev pub index_of : Function → ℕ
index_of F1Star = 0
index_of F1 = 1
index_of F2 = 2
index_of F3 = 3
index_of F4 = 4
index_of F5 = 5
index_of F5Star = 6
index_of F5StarStar = 7

abbrev pub name_of : Function → List ℕ
name_of F1Star = codes "f1*"
name_of F1 = codes "f1"
name_of F2 = codes "f2"
name_of F3 = codes "f3"
name_of F4 = codes "f4"
name_of F5 = codes "f5"
name_of F5Star = codes "f5*"
name_of F5StarStar = codes "f5**"

-- f1* and f1 yield a MAC; f2 a RES; f3 and f4 a CK and an IK; f5 and f5* an AK; f5** an AK out of a MAC-S
pub data Kind : Type 0 where
  authentication : Kind
  response : Kind
  session_key : Kind
  anonymity_key : Kind
  resynchronisation_key : Kind

unfoldable pub kind_of : ℕ → Kind
kind_of index =
    cond (nat_lt index 2) authentication
    (cond (nat_lt index 3) response (cond (nat_lt index 5) session_key (cond (nat_lt index 7) anonymity_key resynchronisation_key)))

abbrev pub outside : ℕ → ℕ → ℕ → Bool
outside low high n = nat_lt n low || nat_lt high n

abbrev pub bad_rand : ℕ → Bool
bad_rand n = outside 16 32 n

-- an output size that the kind does not have
unfoldable pub bad_size : Kind → ℕ → Bool
bad_size authentication n = outside 8 32 n
bad_size response n = outside 4 32 n
bad_size session_key n = outside 16 32 n
bad_size anonymity_key n = outside 6 12 n
bad_size resynchronisation_key n = outside 6 12 n

-- a number of carried bytes that the kind does not have: AMF of 2 and SQN of 6 to 12; nothing; MAC-S of 8 to 32
unfoldable pub bad_carried : Kind → ℕ → Bool
bad_carried authentication n = outside 8 14 n
bad_carried response n = nat_lt 0 n
bad_carried session_key n = nat_lt 0 n
bad_carried anonymity_key n = nat_lt 0 n
bad_carried resynchronisation_key n = outside 8 32 n
