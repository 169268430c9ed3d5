-- What an end is set up with, and the functions that it asks.
use Rattle.std.specs.Prelude.{◌≡◌, ℕ, ◌≤◌, List, [], ◌∷◌, ◌++◌, length}
use Rattle.block.specs.Bytes.{AreBytes, IsBlock}
use Rattle.milenage.specs.Blocks.{Keyed, output}
use Rattle.aka.specs.declared.sizes.Sizes.{Sizes}
use Rattle.aka.specs.declared.sizes.ResyncMask.{ResyncMask}
use Rattle.aka.specs.declared.sizes.ResyncMask.TheVariants.{F5Star, F5StarStar}

-- What stays at an end: what its kernel means by forth, OPc, c0 to c7 end to end, the size set.
pub record Setup : Type 0 where
  pub forth : List ℕ → List ℕ
  pub opc : List ℕ
  pub constants : List ℕ
  pub sizes : Sizes

abbrev pub keyed : Setup → Keyed
keyed s = record { forth = s.forth; opc = s.opc; constants = s.constants }

-- A size set within the product's bounds, with AK and SQN of one size.
pub record Admitted (z : Sizes) : Type 0 where
  pub rand : (16 ≤ z.rand) × (z.rand ≤ 32)
  pub sqn : (6 ≤ z.sqn) × (z.sqn ≤ 12)
  pub ak : z.ak ≡ z.sqn
  pub mac : (8 ≤ z.mac) × (z.mac ≤ 32)
  pub res : (4 ≤ z.res) × (z.res ≤ 32)
  pub ck : (16 ≤ z.ck) × (z.ck ≤ 32)
  pub ik : (16 ≤ z.ik) × (z.ik ≤ 32)

-- What holds of the setup of every end that was opened.
pub record SoundSetup (s : Setup) : Type 0 where
  pub opc : IsBlock s.opc
  pub constants_long : length s.constants ≡ 128
  pub constants_bytes : AreBytes s.constants
  pub sizes : Admitted s.sizes

-- Two ends are set up alike: their kernels have one meaning, which is that forth agrees on every block, and all else is equal.
pub record Alike (s t : Setup) : Type 0 where
  pub forth : (x : List ℕ) → IsBlock x → s.forth x ≡ t.forth x
  pub opc : s.opc ≡ t.opc
  pub constants : s.constants ≡ t.constants
  pub sizes : s.sizes ≡ t.sizes

-- the output of a function at a RAND: its index, its size and what it carries
unfoldable pub ask : Setup → ℕ → List ℕ → ℕ → List ℕ → List ℕ
ask s index rand size carried =
    output (keyed s) rand (record { index = index; rand_size = length rand; size = size; carried = carried })

abbrev pub f1* : Setup → List ℕ → List ℕ → List ℕ → List ℕ
f1* s rand amf sqn = ask s 0 rand s.sizes.mac (amf ++ sqn)

abbrev pub f1 : Setup → List ℕ → List ℕ → List ℕ → List ℕ
f1 s rand amf sqn = ask s 1 rand s.sizes.mac (amf ++ sqn)

abbrev pub f2 : Setup → List ℕ → List ℕ
f2 s rand = ask s 2 rand s.sizes.res []

abbrev pub f3 : Setup → List ℕ → List ℕ
f3 s rand = ask s 3 rand s.sizes.ck []

abbrev pub f4 : Setup → List ℕ → List ℕ
f4 s rand = ask s 4 rand s.sizes.ik []

abbrev pub f5 : Setup → List ℕ → List ℕ
f5 s rand = ask s 5 rand s.sizes.ak []

abbrev pub f5* : Setup → List ℕ → List ℕ
f5* s rand = ask s 6 rand s.sizes.ak []

-- f5**, of the MAC-S as cut
abbrev pub f5** : Setup → List ℕ → List ℕ → List ℕ
f5** s rand mac_s = ask s 7 rand s.sizes.ak mac_s

-- AK*, the mask of the number in an AUTS: f5*, or f5** of the MAC-S
abbrev pub mask_by : ResyncMask → Setup → List ℕ → List ℕ → List ℕ
mask_by F5Star s rand mac_s = f5* s rand
mask_by F5StarStar s rand mac_s = f5** s rand mac_s

unfoldable pub ak_star : Setup → List ℕ → List ℕ → List ℕ
ak_star s rand mac_s = mask_by s.sizes.resync s rand mac_s

-- MAC-S: f1* of a number with AMF 00 00
unfoldable pub mac_s : Setup → List ℕ → List ℕ → List ℕ
mac_s s rand sqn = f1* s rand (0 ∷ 0 ∷ []) sqn
