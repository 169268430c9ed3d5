use Rattle.std.proofs.Common.{rules, ◌≡◌, ◌+◌, ◌*◌, true, false, ltb, get_or, arith}
use Rattle.std.proofs.lemmas.Bool.Decides.{nat_tests}
use Rattle.rijndael.specs.Schedule.{next, xor_word}
use Rattle.rijndael.proofs.Bytes.{tabled}
use Rattle.rijndael.proofs.schedule.next.Goals as goal

pub returns-then-i-lt8 : goal.returns-then-i-lt8
unfolding next
returns-then-i-lt8 c =
    let t : ltb c.args.i 8 ≡ true = grind (arith, nat_tests) in
    let e = tabled _ _ (λ j. get_or c.args.key.now (4 * c.args.i + j) 0) 4 (λ k y q _ e. (search rules, search rules)) _ c.from_fn.ensures.items in
    rw t (cc)

pub returns-else-i-lt8 : goal.returns-else-i-lt8
unfolding next xor_word
returns-else-i-lt8 c =
    let t : ltb c.args.i 8 ≡ false = grind (arith, nat_tests) in rw t (cc)
