use Rattle.rijndael.proofs.ScheduleLaws.{constants_double}
use Rattle.rijndael.proofs.schedule.round_constants_double.Goals as goal

pub returns : goal.returns
returns c = constants_double
