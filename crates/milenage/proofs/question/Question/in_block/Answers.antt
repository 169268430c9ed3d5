use Rattle.milenage.specs.Calls.{input_of}
use Rattle.milenage.proofs.question.Question.in_block.Goals as goal

pub returns : goal.returns
unfolding input_of
returns c = cc
