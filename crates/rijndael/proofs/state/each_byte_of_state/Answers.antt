use Rattle.rijndael.proofs.Bytes.{of_rows}
use Rattle.rijndael.proofs.state.each_byte_of_state.Goals as goal

pub returns : goal.returns
returns g c = of_rows _ c.args.s _ _ _ _ c.each_byte.ensures c.each_byte-2.ensures c.each_byte-3.ensures c.each_byte-4.ensures
