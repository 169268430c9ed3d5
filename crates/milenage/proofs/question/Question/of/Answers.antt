use Rattle.std.proofs.Common.{◌≡◌, ℕ, refl, ◌+◌, ◌-◌, ◌*◌, false, ◌∷◌, take, sym, ap, ◌∙◌}
use Rattle.block.specs.Bytes.{filled}
use Rattle.milenage.specs.Functions.{index_of, bad_rand}
use Rattle.milenage.specs.Question.{header, byte0}
use Rattle.milenage.proofs.question.Question.of.Goals as goal

pub returns : goal.returns
unfolding header byte0
returns c =
    let r : bad_rand c.args.rand_size ≡ false = sym c.if-bad_rand.ensures in (
      rw r c.in_ok-sizes.ensures.0,
      record {
        index = refl;
        header = rw c.index.ensures at c.header_of.ensures
            ∙ ap (λ (s : ℕ). filled ((index_of c.args.function * 32 + (c.args.rand_size - 1)) ∷ s ∷ take 30 c.args.carried.now)) c.in_ok-sizes.ensures.1;
      },
    )
