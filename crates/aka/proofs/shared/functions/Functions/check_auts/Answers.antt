use Rattle.aka.specs.Views.{setup_at, rand_at}
use Rattle.aka.proofs.LaidOut.{auts_told}
use Rattle.aka.proofs.shared.functions.Functions.check_auts.Goals as goal

pub returns : goal.returns
returns g c =
    let f = c.args.self.now in
    let t = c.split_auts-token.result in
    let p = c.split_auts-token.ensures in
    auts_told (setup_at g.K.Kernel.forth f) (rand_at f) c.args.auts.now t.mac.now t.masked.now c.ak_star.result c.unmask-sqn.result c.mac_s-mac.result c.told.result
    p.masked p.mac p.masked_long c.ak_star.ensures c.unmask-sqn.ensures c.mac_s-mac.ensures c.told.ensures
