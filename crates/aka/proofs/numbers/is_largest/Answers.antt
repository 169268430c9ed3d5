use Rattle.std.proofs.Common.{◌≡◌, ℕ, ◌+◌, ◌^◌, eqb, sym, ◌∙◌, arith}
use Rattle.std.proofs.lemmas.Bool.Decides.{nat_tests}
use Rattle.aka.proofs.Stepping.{all_ff_bytes_of}
use Rattle.aka.proofs.numbers.is_largest.Goals as goal

pub returns : goal.returns
returns c =
    let n : ℕ = c.args.n in
    let k : ℕ = c.args.size in
    let p : ℕ = 256 ^ k in
    let m : ℕ = c.largest.result in
    let e : m + 1 ≡ p = c.largest.ensures in
    let t : eqb n m ≡ eqb (n + 1) p = grind (arith, nat_tests) in
    record { tells = t ∙ sym (all_ff_bytes_of k n c.requires.fits); room = λ f. grind (arith, nat_tests) }
