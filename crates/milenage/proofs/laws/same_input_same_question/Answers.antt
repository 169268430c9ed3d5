use Rattle.milenage.proofs.QuestionLaws.{input_tells, input_same}
use Rattle.milenage.proofs.laws.same_input_same_question.Goals as goal

pub returns : goal.returns
returns c = λ constants q r l g h. (input_tells constants q r l g h, input_same constants q r)
