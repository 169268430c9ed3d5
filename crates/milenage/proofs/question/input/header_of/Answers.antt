use Rattle.std.proofs.Common.{◌≡◌, ℕ, suc, ◌+◌, ◌-◌, min, List, ◌∷◌, ◌++◌, length, take, sym, ap, ◌∙◌, arith}
use Rattle.std.proofs.lemmas.List.{drop-replicate, length-take}
use Rattle.block.proofs.ByteLaws.{filled_zeros}
use Rattle.milenage.proofs.Written.{take_min}
use Rattle.milenage.proofs.question.input.header_of.Goals as goal

pub returns : goal.returns
returns c =
    let x : List ℕ = c.args.carried.now in
    let n : ℕ = c.min-n.result in
    let e : n ≡ min (length x) 30 = c.min-n.ensures in
    let k : 2 + n - 2 ≡ n = omega arith in
    let j : n - 0 ≡ n = omega arith in
    let w : c.copy_from_slice.new.self ≡ take (n - 0) x = c.copy_from_slice.ensures.after in
    let t : take 30 x ≡ take n x = sym (ap (λ i. take i x) e ∙ take_min 30 x) in
    let f = filled_zeros (c.args.first ∷ c.args.second ∷ take n x) (omega (arith, length-take n x)) in
    let m : 32 - suc (suc (length (take n x))) ≡ 30 - n = omega (arith, length-take n x) in
    rw (k, w, j, t, f, m) (ap (λ (u : List ℕ). c.args.first ∷ c.args.second ∷ (take n x ++ u)) (drop-replicate n 30 0))
