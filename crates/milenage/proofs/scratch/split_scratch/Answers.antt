use Rattle.std.proofs.Common.{◌≤◌, ◌/◌, ◌∙◌, sym, length, arith}
use Rattle.milenage.proofs.ScratchLaws.{front_blocks}
use Rattle.milenage.proofs.scratch.split_scratch.Goals as goal

pub returns : goal.returns
returns c =
    let s = c.args.scratch.now in
    let cut = sym c.as_chunks_mut-blocks.ensures.front ∙ c.in_ok-temp.ensures.cases.0 in
    let two = c.in_ok-work.ensures.cases in
    let room : 3 ≤ length s / 32 = omega (arith, c.as_chunks_mut-blocks.ensures.front_len, c.in_ok-temp.ensures.cases.1, two.enough) in
    record { size = omega (arith, room); front = front_blocks (length s / 32) s c.in_ok-temp.temp.now c.in_ok-temp.rest.now c.in_ok-work.work.now room cut two.same }
