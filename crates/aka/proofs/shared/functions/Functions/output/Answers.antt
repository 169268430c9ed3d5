use Rattle.std.proofs.Common.{◌≡◌, ℕ, length, arith, rules}
use Rattle.std.proofs.lemmas.List.{length-take-le}
use Rattle.milenage.specs.Functions.{index_of}
use Rattle.milenage.specs.Calls.{Tells, asked}
use Rattle.aka.specs.Views.{setup_at, rand_at}
use Rattle.aka.proofs.Fitting.{output_is}
use Rattle.aka.proofs.shared.functions.Functions.output.Goals as goal

pub returns : goal.returns
returns g c =
    let f = c.args.self.now in
    let n : ℕ = f.admitted.sizes.rand in
    let k : length f.rand ≡ 32 = search rules in
    let l : length (rand_at f) ≡ n = length-take-le n f.rand (omega (arith, f.admitted.rand_high)) in
    let t : Tells c.unwrap-question.result (asked (index_of c.args.function) n c.args.size c.args.carried.now) = search rules in
    output_is (setup_at g.K.Kernel.forth f) (rand_at f) f.computation.temp.now c.unwrap-question.result (index_of c.args.function) n c.args.size c.args.carried.now c.ask.result
    l f.at_rand t c.ask.ensures.answer
