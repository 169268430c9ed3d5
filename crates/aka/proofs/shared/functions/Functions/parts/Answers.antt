use Rattle.aka.specs.Setup.{f5}
use Rattle.aka.specs.Views.{setup_at, rand_at}
use Rattle.aka.proofs.LaidOut.{masked_is}
use Rattle.aka.proofs.shared.functions.Functions.parts.Goals as goal

pub returns : goal.returns
returns g c =
    let f = c.args.self.now in
    record {
      keys = c.keys-keys.ensures;
      masked = masked_is f.admitted.sizes.sqn c.args.sqn c.ak.result (f5 (setup_at g.K.Kernel.forth f) (rand_at f)) c.xor_blocks-masked.result c.xor_blocks-masked.ensures c.ak.ensures;
      mac = c.mac-mac.ensures;
    }
