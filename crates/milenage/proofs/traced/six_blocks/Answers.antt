use Rattle.std.proofs.Common.{sym}
use Rattle.milenage.specs.Calls.{keyed}
use Rattle.milenage.specs.Views.{keyed_with}
use Rattle.milenage.proofs.BlockLaws.{trace_made}
use Rattle.milenage.proofs.traced.six_blocks.Goals as goal

pub returns : goal.returns
returns g c = λ q t.
    let forth = g.K.Kernel.forth in
    let made = c.begin-computation in
    rw (made.ensures.ran, c.ask-block.ensures.ran, c.ask-block.ensures.answer, c.fill_block.ensures)
    (trace_made (keyed (forth c.args.kernel.now) c.args.opc.now c.args.constants.now) (keyed_with forth made.result)
    c.args.rand.now made.result.temp.now c.in_block-input.result c.args.question q t made.ensures.with (rw (sym c.fill_block.ensures) made.ensures.temp) c.in_block-input.ensures)
