-- Whitening keeps the laws of the kernel below.
use Rattle.std.specs.Prelude.{◌≡◌, List, ℕ}
use Rattle.std.proofs.Common.{ap, ◌∙◌, arith}
use Rattle.block.specs.Bytes.{IsBlock, ◌⊕◌}
use Rattle.block.proofs.ByteLaws.{⊕_undoes_itself, block_⊕}
use Rattle.kernel.specs.Layers.{whitened}

-- a function that undoes another on blocks, with the masks exchanged
pub whitened_undone : (a b : List ℕ) (f g : List ℕ → List ℕ) → IsBlock a → IsBlock b
    → ((x : List ℕ) → IsBlock x → IsBlock (f x)) → ((x : List ℕ) → IsBlock x → g (f x) ≡ x)
    → (x : List ℕ) → IsBlock x → whitened b a g (whitened a b f x) ≡ x
whitened_undone a b f g ha hb blocks undone x h =
    let u : List ℕ = x ⊕ a in
    let hu : IsBlock u = block_⊕ x a h ha in
    let hf : IsBlock (f u) = blocks u hu in
    ap (λ t. g t ⊕ a) (⊕_undoes_itself (f u) b (omega (arith, hf.long, hb.long)))
    ∙ ap (λ t. t ⊕ a) (undone u hu)
    ∙ ⊕_undoes_itself x a (omega (arith, h.long, ha.long))

pub whitened_block : (a b : List ℕ) (f : List ℕ → List ℕ) → IsBlock a → IsBlock b
    → ((x : List ℕ) → IsBlock x → IsBlock (f x)) → (x : List ℕ) → IsBlock x → IsBlock (whitened a b f x)
whitened_block a b f ha hb blocks x h = block_⊕ (f (x ⊕ a)) b (blocks (x ⊕ a) (block_⊕ x a h ha)) hb
