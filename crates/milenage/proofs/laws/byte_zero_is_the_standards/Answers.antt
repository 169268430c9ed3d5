use Rattle.milenage.proofs.QuestionLaws.{byte0_standard}
use Rattle.milenage.proofs.laws.byte_zero_is_the_standards.Goals as goal

pub returns : goal.returns
returns c = byte0_standard
