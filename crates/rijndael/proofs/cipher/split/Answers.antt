use Rattle.std.proofs.Common.{◌∙◌, ap, ◌/◌}
use Rattle.std.specs.Simd.{first_chunks}
use Rattle.rijndael.proofs.RoundKeys.{keys_are}
use Rattle.rijndael.proofs.cipher.split.Goals as goal

pub returns : goal.returns
returns c = c.as_chunks.ensures.front ∙ ap (λ n. first_chunks 4 (n / 4) c.args.keys.now) c.told-keys ∙ keys_are c.args.keys.now c.told-keys
