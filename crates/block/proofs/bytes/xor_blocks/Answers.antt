use Rattle.std.proofs.Common.{rules, ◌≡◌, length, sym, ◌∙◌, arith}
use Rattle.block.specs.Bytes.{◌⊕◌}
use Rattle.block.proofs.ByteLaws.{length_⊕, get_or_⊕}
use Rattle.block.proofs.Made.{made_bytes}
use Rattle.block.proofs.bytes.xor_blocks.Goals as goal

pub returns : goal.returns
returns c =
    let a : length c.args.a ≡ 32 = search rules in
    let b : length c.args.b ≡ 32 = search rules in
    made_bytes _ _ (c.args.a ⊕ c.args.b) 32 (λ k y q _ e. (search rules ∙ sym (get_or_⊕ c.args.a c.args.b k), search rules)) _
    (omega (arith, length_⊕ c.args.a c.args.b)) c.from_fn.ensures.items
