-- A block with every bit turned over.
use Rattle.std.specs.Prelude.{ℕ, List, replicate}
use Rattle.block.specs.Bytes.{◌⊕◌}

abbrev pub turned : List ℕ → List ℕ
turned x = x ⊕ replicate 32 0xff
