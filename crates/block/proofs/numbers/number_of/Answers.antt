use Rattle.std.proofs.Common.{◌<◌, arith}
use Rattle.std.proofs.lemmas.Int.Digits.{number_more}
use Rattle.block.proofs.NumberLaws.{digit_fits, digit_more}
use Rattle.block.proofs.numbers.number_of.Goals as goal

pub overflow_mul-n : goal.overflow_mul-n
overflow_mul-n c =
    let t : c.loop-b.b-index < 16 = omega arith in
    let f = digit_fits c.loop-b.b-index c.loop-b.n 0 t c.loop-b.invariant.1 (omega arith) in omega arith

pub overflow_add-n : goal.overflow_add-n
overflow_add-n c =
    let t : c.loop-b.b-index < 16 = omega arith in
    let k : c.from.result < 256 = omega (arith, c.type_inv.bytes c.loop-b.b-index) in
    let f = digit_fits c.loop-b.b-index c.loop-b.n c.from.result t c.loop-b.invariant.1 k in omega arith

pub loop-b-preserved : goal.loop-b-preserved
loop-b-preserved c =
    let k : c.from.result < 256 = omega (arith, c.type_inv.bytes c.loop-b.b-index) in
    let m = number_more 256 c.args.bytes.now c.loop-b.b-index c.loop-b-test.true in
    (omega (arith, m), digit_more c.loop-b.b-index c.loop-b.n c.from.result c.loop-b.invariant.1 k)
