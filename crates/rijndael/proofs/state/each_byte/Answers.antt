use Rattle.std.proofs.Common.{rules, get_or}
use Rattle.block.proofs.Made.{made_each}
use Rattle.rijndael.proofs.state.each_byte.Goals as goal

pub returns : goal.returns
returns g c = record {
  long = c.from_fn.ensures.items.long;
  each = λ i l. made_each _ _ (λ k y. goal.F-post g c.args.f (get_or c.args.bytes k 0) y) _ (λ k y q _ e. (search rules, search rules)) _ c.from_fn.ensures.items i 0 l;
}
