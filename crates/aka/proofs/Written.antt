-- What lies where in buffers and blocks.
use Rattle.std.proofs.Common.{◌≡◌, ℕ, ◌≤◌, List, ◌++◌, length, take, drop, sym, ap, ◌∙◌}
use Rattle.std.proofs.lemmas.List.{length-take-le}
use Rattle.block.specs.Bytes.{over}

-- what is written whole into the first n bytes of a buffer is written over it
pub laid_over : (n : ℕ) (v w b : List ℕ) → v ≡ w → length v ≡ length (take n b) → n ≤ length b → v ++ drop n b ≡ over w b
laid_over n v w b e l h =
    let k : n ≡ length w = sym (length-take-le n b h) ∙ sym l ∙ ap length e in rw (e, k)
