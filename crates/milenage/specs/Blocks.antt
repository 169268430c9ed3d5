-- From OP to the answer block, over what a kernel means by forth.
use Rattle.std.specs.Prelude.{ℕ, List, ◌∷◌, ◌++◌, take, codes}
use Rattle.block.specs.Bytes.{◌⊕◌, filled}
use Rattle.milenage.specs.Question.{Question, input}

-- the first byte of V tells a key of 32 bytes
abbrev pub key_size_byte : ℕ
key_size_byte = 0x01

-- the name of the algorithm in 3GPP use
abbrev pub standard_name : List ℕ
standard_name = codes "MILENAGE2.0"

-- V: the key size's byte, ALGONAME, zeros
unfoldable pub version_block : List ℕ → List ℕ
version_block name = filled (key_size_byte ∷ name)

-- OPc = OP ⊕ forth(forth(OP) ⊕ V)
unfoldable pub opc_of : (List ℕ → List ℕ) → List ℕ → List ℕ → List ℕ
opc_of forth name op = op ⊕ forth (forth op ⊕ version_block name)

-- What the functions are computed with: what the kernel means by forth, OPc, and c0 to c7 end to end.
pub record Keyed : Type 0 where
  pub forth : List ℕ → List ℕ
  pub opc : List ℕ
  pub constants : List ℕ

-- TEMP = forth(RAND ⊕ OPc) ⊕ OPc, the RAND filled with zeros
unfoldable pub temp : Keyed → List ℕ → List ℕ
temp m rand = m.forth (filled rand ⊕ m.opc) ⊕ m.opc

-- forth(TEMP ⊕ IN) ⊕ OPc
unfoldable pub answer : Keyed → List ℕ → List ℕ → List ℕ
answer m t inn = m.forth (t ⊕ inn) ⊕ m.opc

-- the answer block of a question at a RAND
unfoldable pub block : Keyed → List ℕ → Question → List ℕ
block m rand q = answer m (temp m rand) (input m.constants q)

-- a function's output: the first bytes of the answer block, as many as its size
unfoldable pub output : Keyed → List ℕ → Question → List ℕ
output m rand q = take q.size (block m rand q)

-- the six traced blocks: input and output of the first kernel run, IN, input and output of the second, the answer block
unfoldable pub trace_of : Keyed → List ℕ → Question → List ℕ
trace_of m rand q =
    let first : List ℕ = filled rand ⊕ m.opc in
    let inn : List ℕ = input m.constants q in
    let second : List ℕ = temp m rand ⊕ inn in
    first ++ m.forth first ++ inn ++ second ++ m.forth second ++ block m rand q
