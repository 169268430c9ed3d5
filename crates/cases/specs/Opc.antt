-- The blocks between OP and OPc, from what a kernel means by forth and back.
use Rattle.std.specs.Prelude.{ℕ, List, codes}
use Rattle.block.specs.Bytes.{◌⊕◌}
use Rattle.cases.specs.declared.opc_block.OpcBlock.{OpcBlock}
use Rattle.cases.specs.declared.opc_block.OpcBlock.TheVariants.{FirstOutput, Version, SecondInput, SecondOutput, Opc}

-- what a block is called in print
abbrev pub label_of : OpcBlock → List ℕ
label_of FirstOutput = codes "PRF_K(OP)"
label_of Version = codes "V"
label_of SecondInput = codes "OPc:PRF_in2"
label_of SecondOutput = codes "OPc:PRF_out2"
label_of Opc = codes "OPc"

-- the block, where back of OPc ⊕ OP is what the second kernel run was given
abbrev pub opc_block : (List ℕ → List ℕ) → (List ℕ → List ℕ) → List ℕ → List ℕ → OpcBlock → List ℕ
opc_block forth back op opc FirstOutput = forth op
opc_block forth back op opc Version = forth op ⊕ back (opc ⊕ op)
opc_block forth back op opc SecondInput = back (opc ⊕ op)
opc_block forth back op opc SecondOutput = forth (back (opc ⊕ op))
opc_block forth back op opc Opc = opc
