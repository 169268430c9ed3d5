use Rattle.rijndael.specs.StateLaws.{rows_summed}
use Rattle.rijndael.proofs.state.sum_rows.Goals as goal

pub returns : goal.returns
returns c = simp (c.xor-3.ensures, c.xor.ensures, c.xor-2.ensures) (rows_summed c.args.a c.args.b c.args.c c.args.d)
