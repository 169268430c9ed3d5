use Rattle.milenage.proofs.QuestionLaws.{input_tells}
use Rattle.milenage.proofs.BlockLaws.{temp_same}
use Rattle.milenage.proofs.laws.filling_is_seen_in_the_input.Goals as goal

pub returns : goal.returns
returns c =
    record { one_temp = temp_same; inputs_differ = λ constants q r l g h apart e. apart (input_tells constants q r l g h e).rand }
