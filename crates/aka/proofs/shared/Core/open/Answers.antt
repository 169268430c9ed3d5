use Rattle.std.proofs.Common.{◌≡◌, ℕ, ◌<◌, Bool, true, false, not, cond, length, Err, arith, rules, ◌==◌}
use Rattle.block.specs.Refusals.{number}
use Rattle.aka.specs.Calls.{differs}
use Rattle.aka.specs.Opening.{bad_sizes}
use Rattle.aka.proofs.shared.Core.open.Goals as goal

-- a ground of the size set is one of the opening
size_refused : (s k n : Bool) (m : ℕ) → m ≡ cond s 6 (cond k 7 0) → 0 < cond s 6 (cond k 7 0) → m ≡ cond s 6 (cond k 7 (cond n 8 0))
size_refused true k n m h p = h
size_refused false true n m h p = h
size_refused false false n m h p = absurd (omega arith)

pub returns-in_err-admitted : goal.returns-in_err-admitted
returns-in_err-admitted g c =
    let o : length c.args.opc.now ≡ 32 = search rules in
    let k : length c.args.constants.now ≡ 128 = search rules in
    let e = c.in_err-admitted.field-0.0 in
    let h : c.from_residual-in_err-admitted.result ≡ Err e = search rules in
    let n = c.in_err-admitted.ensures in
    rw (h, o, k) (size_refused (bad_sizes c.args.sizes) (not (c.args.sizes.ak == c.args.sizes.sqn)) (differs c.args.number.now c.args.sizes.sqn) (number e) n.0 n.1)
