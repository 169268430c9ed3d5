use Rattle.rijndael.specs.State.{add}
use Rattle.rijndael.specs.StateLaws.{multiples_unmixed}
use Rattle.rijndael.proofs.state.unmix.Goals as goal

pub returns : goal.returns
unfolding add
returns c =
    simp (
      c.combine.ensures,
      c.add-by_0e.ensures,
      c.add-by_0b.ensures,
      c.add-by_0d.ensures,
      c.add-by_09.ensures,
      c.add.ensures,
      c.add-2.ensures,
      c.add-3.ensures,
      c.double_state-eight.ensures,
      c.double_state-four.ensures,
      c.double_state-two.ensures,
    ) (multiples_unmixed c.args.s)
