use Rattle.std.proofs.Common.{◌≡◌, rules}
use Rattle.milenage.specs.Blocks.{opc_of}
use Rattle.milenage.proofs.SizeLaws.{zero_found}
use Rattle.milenage.proofs.opc.derive_opc.Goals as goal

pub returns-clause-derived : goal.returns-clause-derived
unfolding opc_of
returns-clause-derived g c =
    let op : c.in_ok-op.op ≡ c.args.op.now = search rules in
    let z = zero_found c.args.name.now in (search rules, (cc))
