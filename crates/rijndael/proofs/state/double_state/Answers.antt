use Rattle.std.proofs.Common.{rules}
use Rattle.field.specs.Field.{xtime}
use Rattle.rijndael.proofs.Bytes.{state_mapped}
use Rattle.rijndael.proofs.state.double_state.Goals as goal

pub returns : goal.returns
returns c = state_mapped xtime _ _ _ c.each_byte_of_state.ensures (λ x y e. search rules)
