-- What an opened test answers.
use Rattle.std.specs.Prelude.{ℕ, List, length, take, vec_items}
use Rattle.block.specs.Bytes.{zeros, over}
use Rattle.rijndael.specs.Cipher.{encrypt, decrypt}
use Rattle.milenage.specs.Blocks.{trace_of}
use Rattle.milenage.specs.Calls.{asked}
use Rattle.aka.specs.Setup.{keyed}
use Rattle.aka.specs.Views.{network_setup}
use Rattle.milenage.specs.declared.function.Function.{Function}
use Rattle.cases.specs.declared.opened.Opened.{Opened}
use Rattle.cases.specs.declared.sizes.CaseSizes.{CaseSizes}
use Rattle.cases.specs.declared.traced.Traced.TheVariants.{Answer}
use Rattle.cases.specs.declared.label.Part.{Part}
use Rattle.cases.specs.declared.label.Part.TheVariants.{Traced, MacS, Output}
use Rattle.cases.specs.declared.opc_block.OpcBlock.{OpcBlock}
use Rattle.milenage.specs.Functions.{index_of}
use Rattle.cases.specs.Functions.{carried_of, size_of}
use Rattle.cases.specs.Opc.{opc_block}
use Rattle.cases.specs.Places.{placed}

-- the six blocks of a function at an output size, over a buffer of zeros
abbrev pub traced_by : Opened → Function → ℕ → List ℕ → List ℕ
traced_by t function size mac =
    let rand : List ℕ = vec_items t.rand in
    let carried : List ℕ = carried_of function (vec_items t.authenticated) mac in
    over (trace_of (keyed (network_setup (λ k. encrypt k.keys) t.end)) rand (asked (index_of function) (length rand) size carried)) (zeros 192)

-- what a published value of a function is compared with
abbrev pub value_of : Opened → CaseSizes → List ℕ → Function → Part → List ℕ
value_of t sizes mac function (Traced place) = placed place (traced_by t function (size_of sizes function) mac)
value_of t sizes mac function MacS = mac
value_of t sizes mac function Output = take (size_of sizes function) (placed Answer (traced_by t function (size_of sizes function) mac))

-- what a published block of OPc is compared with
abbrev pub opc_block_of : Opened → OpcBlock → List ℕ
opc_block_of t block = opc_block (encrypt t.kernel.keys) (decrypt t.kernel.keys) t.op t.opc block
