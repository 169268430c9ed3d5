use Rattle.std.proofs.Common.{◌-◌, arith}
use Rattle.rijndael.proofs.ScheduleLaws.{constants_double, are_doubled}
use Rattle.rijndael.proofs.schedule.round_constant.Goals as goal

pub returns : goal.returns
returns c = are_doubled _ constants_double (c.args.i - 1) (omega arith)
