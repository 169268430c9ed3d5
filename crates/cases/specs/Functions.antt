-- The eight functions: what their outputs are called in print, and the sizes of these.
use Rattle.std.specs.Prelude.{ℕ, List, [], codes}
use Rattle.milenage.specs.declared.function.Function.{Function}
use Rattle.milenage.specs.declared.function.Function.TheVariants.{F1Star, F1, F2, F3, F4, F5, F5Star, F5StarStar}
use Rattle.cases.specs.declared.sizes.CaseSizes.{CaseSizes}

-- what a function's output is called
abbrev pub output_of : Function → List ℕ
output_of F1Star = codes "MAC_S"
output_of F1 = codes "MAC_A"
output_of F2 = codes "RES"
output_of F3 = codes "CK"
output_of F4 = codes "IK"
output_of F5 = codes "AK"
output_of F5Star = codes "AK*"
output_of F5StarStar = codes "AK*"

-- how long a function's output is, of the sizes of a case
abbrev pub size_of : CaseSizes → Function → ℕ
size_of s F1Star = s.mac
size_of s F1 = s.mac
size_of s F2 = s.res
size_of s F3 = s.ck
size_of s F4 = s.ik
size_of s F5 = s.ak
size_of s F5Star = s.ak
size_of s F5StarStar = s.ak

-- what a function carries: AMF and SQN, nothing, or a MAC-S
abbrev pub carried_of : Function → List ℕ → List ℕ → List ℕ
carried_of F1Star authenticated mac = authenticated
carried_of F1 authenticated mac = authenticated
carried_of F2 authenticated mac = []
carried_of F3 authenticated mac = []
carried_of F4 authenticated mac = []
carried_of F5 authenticated mac = []
carried_of F5Star authenticated mac = []
carried_of F5StarStar authenticated mac = mac
