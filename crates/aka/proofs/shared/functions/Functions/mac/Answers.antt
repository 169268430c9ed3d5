use Rattle.std.proofs.Common.{◌≡◌, ℕ, ◌+◌, length, take, ◌∙◌, arith, rules}
use Rattle.std.proofs.lemmas.List.{length-take}
use Rattle.milenage.specs.Functions.{index_of}
use Rattle.aka.proofs.Fitting.{fits_mac}
use Rattle.aka.proofs.shared.functions.Functions.mac.Goals as goal

pub output-requires : goal.output-requires
output-requires g c =
    let a = c.args.self.now.admitted in
    let q : ℕ = a.sizes.sqn in
    let b : length c.carry-carried.result ≡ 32 = search rules in
    let t : length (take (2 + q) c.carry-carried.result) ≡ 2 + q = length-take (2 + q) c.carry-carried.result ∙ omega arith in
    fits_mac (index_of c.args.function) a.sizes.rand a.sizes.mac (length (take (2 + q) c.carry-carried.result)) c.requires (omega arith, omega arith) (omega arith, omega arith) (omega arith, omega arith)
