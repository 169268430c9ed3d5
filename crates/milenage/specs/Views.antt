-- What a computation holds, in the words of its contracts.
use Rattle.std.specs.Prelude.{ℕ, List}
use Rattle.milenage.specs.Blocks.{Keyed}
use Rattle.milenage.specs.declared.computation.Computation.{Computation}

-- what the functions are computed with, the kernel by what it means by forth
abbrev pub keyed_with : {K : Type 0} → (K → List ℕ → List ℕ) → Computation K → Keyed
keyed_with forth c = record { forth = forth c.kernel.now; opc = c.opc.now; constants = c.constants.now }
