use Rattle.std.proofs.Common.{rules, get_or, bit_xor}
use Rattle.rijndael.proofs.Bytes.{tabled}
use Rattle.rijndael.proofs.state.xor.Goals as goal

pub returns : goal.returns
returns g c =
    tabled _ _ (λ i. bit_xor (get_or c.args.a i 0) (get_or c.args.b i 0)) _ (λ k y q _ e. (search (rules, e.met), search rules)) _ c.from_fn.ensures.items
