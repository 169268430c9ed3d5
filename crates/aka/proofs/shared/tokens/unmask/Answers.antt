use Rattle.std.proofs.Common.{◌≡◌, ℕ, List, length, take, refl, ap, ◌∙◌}
use Rattle.block.specs.Bytes.{◌⊕◌}
use Rattle.block.proofs.ByteLaws.{take_filled}
use Rattle.aka.proofs.LaidOut.{masked_is}
use Rattle.aka.proofs.shared.tokens.unmask.Goals as goal

pub returns : goal.returns
returns c =
    let m : List ℕ = c.args.masked.now in
    let n : ℕ = length m in
    let k : List ℕ = take n c.args.ak in
    let f : take n c.fill_block.result ≡ m = ap (λ (t : List ℕ). take n t) c.fill_block.ensures ∙ take_filled n m refl c.requires in
    masked_is n c.fill_block.result c.args.ak k c.xor_blocks.result c.xor_blocks.ensures refl ∙ ap (λ (t : List ℕ). t ⊕ k) f
