use Rattle.std.proofs.Common.{◌≡◌, ℕ, suc, ◌+◌, ◌-◌, List, ◌∷◌, ◌++◌, length, ap, arith}
use Rattle.std.proofs.lemmas.List.{drop-replicate}
use Rattle.block.proofs.ByteLaws.{filled_zeros}
use Rattle.milenage.specs.Blocks.{version_block}
use Rattle.milenage.proofs.opc.version_block.Goals as goal

pub returns : goal.returns
unfolding version_block
returns c =
    let x : List ℕ = c.args.name.now in
    let k : 1 + length x - 1 ≡ length x = omega arith in
    let d = drop-replicate {X = ℕ} (length x) 31 0 in
    let w = c.copy_from_slice.ensures.after in
    let m : 32 - suc (length x) ≡ 31 - length x = omega arith in
    let f = filled_zeros (1 ∷ x) (omega arith) in
    rw (w, k, f, m) (ap (λ (t : List ℕ). 1 ∷ (x ++ t)) d)
