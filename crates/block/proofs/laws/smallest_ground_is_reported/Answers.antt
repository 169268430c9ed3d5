use Rattle.block.proofs.GroundLaws.{smallest, one_that_holds}
use Rattle.block.proofs.laws.smallest_ground_is_reported.Goals as goal

pub returns : goal.returns
returns c = record { smallest = smallest; one_that_holds = one_that_holds }
