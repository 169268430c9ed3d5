use Rattle.std.proofs.Common.{◌≡◌, ◌%◌, true, false, eqb, arith}
use Rattle.std.proofs.lemmas.Bool.Decides.{nat_tests}
use Rattle.rijndael.specs.Schedule.{change, xor_word}
use Rattle.rijndael.proofs.schedule.change.Goals as goal

pub returns-in-0 : goal.returns-in-0
unfolding change xor_word
returns-in-0 c =
    let t : eqb (c.args.i % 8) 0 ≡ true = grind (arith, nat_tests) in rw t (cc)

pub returns-in-4 : goal.returns-in-4
unfolding change
returns-in-4 c =
    let t : eqb (c.args.i % 8) 0 ≡ false = grind (arith, nat_tests) in
    let u : eqb (c.args.i % 8) 4 ≡ true = grind (arith, nat_tests) in rw (t, u) (cc)

pub returns-in_default : goal.returns-in_default
unfolding change
returns-in_default c =
    let t : eqb (c.args.i % 8) 0 ≡ false = grind (arith, nat_tests) in
    let u : eqb (c.args.i % 8) 4 ≡ false = grind (arith, nat_tests) in rw (t, u) (cc)
