use Rattle.std.proofs.Common.{ℕ, List, ap}
use Rattle.milenage.specs.Question.{input}
use Rattle.milenage.specs.Blocks.{answer}
use Rattle.milenage.specs.Calls.{keyed}
use Rattle.milenage.proofs.QuestionLaws.{block_input, input_tells, input_same}
use Rattle.milenage.proofs.BlockLaws.{answer_tells}
use Rattle.milenage.proofs.laws.equal_blocks_same_question.Goals as goal

pub returns : goal.returns
returns g c = λ opc constants t q r s b a a' y y'.
    let k = c.args.kernel.now in
    let m = keyed (g.K.Kernel.forth k) opc constants in (
      (λ e.
          input_tells constants q r s.constants_long a a'
          (answer_tells m (g.K.Kernel.back k) (g.met.K.Kernel.forth_block k) (g.met.K.Kernel.back_forth k) t (input constants q) (input constants r) b
          (block_input constants q s.constants_long s.constants_bytes a y) (block_input constants r s.constants_long s.constants_bytes a' y') e)),
      (λ e. ap (λ (x : List ℕ). answer m t x) (input_same constants q r e)),
    )
