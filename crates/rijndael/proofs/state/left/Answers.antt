use Rattle.std.proofs.Common.{rules, ◌+◌, ◌%◌, get_or}
use Rattle.rijndael.proofs.Bytes.{tabled}
use Rattle.rijndael.proofs.state.left.Goals as goal

pub returns : goal.returns
returns g c =
    tabled _ _ (λ i. get_or c.args.bytes ((i + c.args.n) % g.row.N) 0) _ (λ k y q _ e. (search rules, search rules)) _ c.from_fn.ensures.items
