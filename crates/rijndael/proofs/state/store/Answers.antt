use Rattle.std.proofs.Common.{rules, ◌/◌, ◌%◌}
use Rattle.rijndael.specs.State.{store, at}
use Rattle.rijndael.proofs.Bytes.{tabled}
use Rattle.rijndael.proofs.state.store.Goals as goal

pub returns : goal.returns
unfolding store
returns c =
    tabled _ _ (λ i. at c.args.s (i % 4) (i / 4)) 32 (λ k y q _ e. (search rules, search rules)) _ c.from_fn.ensures.items
