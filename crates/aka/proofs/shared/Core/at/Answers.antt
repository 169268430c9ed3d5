use Rattle.std.proofs.Common.{◌≡◌, ℕ, List, take, ap, ap₂, ◌∙◌, sym}
use Rattle.block.specs.Bytes.{◌⊕◌}
use Rattle.block.proofs.ByteLaws.{take_filled}
use Rattle.milenage.specs.Blocks.{temp}
use Rattle.aka.proofs.shared.Core.at.Goals as goal

-- the front of the block is the RAND
pub returns-clause-rand : goal.returns-clause-rand
returns-clause-rand g c =
    let n : ℕ = c.args.self.now.admitted.sizes.rand in
    ap (λ (b : List ℕ). take n b) c.fill_block-rand.ensures ∙ take_filled n c.args.rand.now c.requires c.args.self.now.admitted.rand_high

pub invariant_of-result : goal.invariant_of-result
unfolding temp
invariant_of-result g c =
    let n : ℕ = c.args.self.now.admitted.sizes.rand in
    let forth = g.K.Kernel.forth c.args.self.now.kernel in
    let opc : List ℕ = c.args.self.now.opc in
    let r : take n c.fill_block-rand.result ≡ c.args.rand.now =
    ap (λ (b : List ℕ). take n b) c.fill_block-rand.ensures ∙ take_filled n c.args.rand.now c.requires c.args.self.now.admitted.rand_high in
    record { at_rand = c.begin-computation.ensures.temp ∙ ap (λ (b : List ℕ). forth (b ⊕ opc) ⊕ opc) c.fill_block-rand.ensures ∙ sym (ap₂ temp c.begin-computation.ensures.with r) }
