use Rattle.std.proofs.Common.{arith}
use Rattle.std.proofs.Math.Nat.{one-le-pow}
use Rattle.aka.proofs.Stepping.{power_below}
use Rattle.aka.proofs.numbers.largest.Goals as goal

pub pow-requires : goal.pow-requires
pow-requires c = omega (arith, power_below c.args.size c.requires)

pub overflow_sub-result : goal.overflow_sub-result
overflow_sub-result c = omega (arith, one-le-pow c.args.size 256 (omega arith))

pub returns : goal.returns
returns c = omega (arith, one-le-pow c.args.size 256 (omega arith))
