use Rattle.std.proofs.Common.{ℕ, List, ◌∙◌, arith}
use Rattle.block.specs.Numbers.{bytes_of}
use Rattle.aka.specs.Setup.{Setup}
use Rattle.aka.specs.Views.{setup_at, rand_at}
use Rattle.aka.proofs.LaidOut.{auts_is}
use Rattle.aka.proofs.Written.{laid_over}
use Rattle.aka.proofs.shared.functions.Functions.write_auts.Goals as goal

pub returns : goal.returns
returns g c =
    let f = c.args.self.now in
    let s : Setup = setup_at g.K.Kernel.forth f in
    let r : List ℕ = rand_at f in
    let n : ℕ = f.admitted.sizes.sqn in
    let mac : List ℕ = c.mac_s-mac.result in
    laid_over c.auts_size-n.result _ _ c.args.out.now
    (c.put_auts.ensures
    ∙ auts_is s r (bytes_of n c.args.number) c.number_block-sqn.result mac c.ak_star-ak.result c.xor_blocks.result c.number_block-sqn.ensures c.mac_s-mac.ensures
    c.ak_star-ak.ensures c.xor_blocks.ensures)
    c.put_auts.auto.out (omega arith)
