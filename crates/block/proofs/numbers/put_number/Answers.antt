use Rattle.std.proofs.Common.{◌≡◌, ◌-◌, ◌++◌, length, take, reverse, ap, ◌∙◌, arith}
use Rattle.std.proofs.lemmas.List.{append-nil, take_all}
use Rattle.block.specs.Numbers.{bytes_of}
use Rattle.block.proofs.NumberLaws.{bytes_turn}
use Rattle.block.proofs.numbers.put_number.Goals as goal

pub loop-byte-init : goal.loop-byte-init
loop-byte-init c =
    let z : length c.args.out.now - 0 ≡ length c.args.out.now = omega arith in simp (z, append-nil)

pub loop-byte-preserved : goal.loop-byte-preserved
loop-byte-preserved c =
    c.loop-byte.invariant ∙ bytes_turn (length c.args.out.now) c.loop-byte.byte-index c.loop-byte.rest c.loop-byte.out (omega arith) (omega arith)

pub returns : goal.returns
unfolding bytes_of
returns c =
    let z : length c.args.out.now - c.loop-byte.byte-index ≡ 0 = omega arith in
    let a = take_all c.loop-byte.byte-index c.loop-byte.out (omega arith) in
    let i = c.loop-byte.invariant ∙ ap (λ k. bytes_of k c.loop-byte.rest ++ reverse (take c.loop-byte.byte-index c.loop-byte.out)) z in cc
