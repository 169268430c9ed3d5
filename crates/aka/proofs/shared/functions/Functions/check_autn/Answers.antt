use Rattle.std.proofs.Common.{◌≡◌, List, ℕ, take, ap, ◌∙◌, rules}
use Rattle.aka.specs.Setup.{Setup, f1}
use Rattle.aka.specs.Views.{setup_at, rand_at}
use Rattle.aka.proofs.LaidOut.{autn_told}
use Rattle.aka.proofs.shared.functions.Functions.check_autn.Goals as goal

pub returns : goal.returns
returns g c =
    let f = c.args.self.now in
    let s : Setup = setup_at g.K.Kernel.forth f in
    let t = c.split_autn-token.result in
    let p = c.split_autn-token.ensures in
    let a : c.unwrap-amf.result ≡ t.amf.now = search rules in
    autn_told s (rand_at f) c.args.autn.now t.amf.now t.mac.now t.masked.now c.ak.result c.unmask-sqn.result c.mac-mac.result c.told.result
    f.admitted.alike p.masked p.amf p.mac p.masked_long c.ak.ensures c.unmask-sqn.ensures
    (c.mac-mac.ensures ∙ ap (λ (x : List ℕ). f1 s (rand_at f) x (take f.admitted.sizes.sqn c.unmask-sqn.result)) a) c.told.ensures
