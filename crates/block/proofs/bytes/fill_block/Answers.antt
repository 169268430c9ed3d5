use Rattle.std.proofs.Common.{◌≡◌, ℕ, ◌-◌, min, List, length, arith}
use Rattle.block.proofs.ByteLaws.{filled_front}
use Rattle.block.proofs.bytes.fill_block.Goals as goal

pub returns : goal.returns
returns c =
    let x : List ℕ = c.args.bytes.now in
    let n : ℕ = c.min-n.result in
    let k : n - 0 ≡ min (length x) 32 = omega (arith, c.min-n.ensures) in
    let w = c.copy_from_slice.ensures.after in
    rw (w, k) (filled_front x)
