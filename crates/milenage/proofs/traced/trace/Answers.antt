use Rattle.std.proofs.Common.{◌≡◌, ℕ, false, ◌||◌, ◌≤◌, ltb, List, length, sym, ◌∙◌, arith, rules}
use Rattle.std.proofs.lemmas.Bool.{le-ltb, or_from}
use Rattle.std.proofs.lemmas.List.Concat.{concat_is}
use Rattle.milenage.specs.Blocks.{trace_of}
use Rattle.milenage.specs.Calls.{keyed, asked}
use Rattle.milenage.proofs.traced.trace.Goals as goal

pub copy_from_slice-requires : goal.copy_from_slice-requires
copy_from_slice-requires g c = omega (arith, c.as_flattened.ensures.len)

pub returns-clause-traced : goal.returns-clause-traced
returns-clause-traced g c =
    let q = asked c.args.index (length c.args.rand.now) c.args.size c.args.carried.now in
    let m = keyed (g.K.Kernel.forth c.args.kernel.now) c.args.opc.now c.args.constants.now in
    let out : List ℕ = c.args.out.now in
    let laid : List ℕ = c.copy_from_slice.new.self in
    let fits : 192 ≤ length out = search rules in
    let room : (ltb (length out) 192 || ltb (length c.args.scratch.now) 96) ≡ false =
    or_from _ _ (le-ltb (length out) 192 fits) (le-ltb (length c.args.scratch.now) 96 (search rules)) in
    let same : laid ≡ trace_of m c.args.rand.now q =
    c.copy_from_slice.ensures.after ∙ c.as_flattened.ensures.value ∙ sym (concat_is c.six_blocks-blocks.result) ∙ c.six_blocks-blocks.ensures q c.in_ok-question.ensures.1 in
    let long : length laid ≡ 192 = omega (arith, c.copy_from_slice.ensures.len) in
    (rw room c.in_ok-question.ensures.0, rw (sym same, long))
