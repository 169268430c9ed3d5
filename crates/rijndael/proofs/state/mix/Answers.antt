use Rattle.rijndael.specs.State.{add}
use Rattle.rijndael.specs.StateLaws.{multiples_mixed}
use Rattle.rijndael.proofs.state.mix.Goals as goal

pub returns : goal.returns
unfolding add
returns c = simp (c.combine.ensures, c.add.ensures, c.double_state-two.ensures) (multiples_mixed c.args.s)
