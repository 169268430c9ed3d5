-- What the inner functions answer.
use Rattle.std.specs.Prelude.{◌≡◌, ℕ, ◌^◌, ◌<◌, Bool, true, false, List, take, Some, None, Option}
use Rattle.std.specs.Str.{bytes_eq}
use Rattle.block.specs.Bytes.{◌⊕◌}
use Rattle.block.specs.Numbers.{bytes_of}
use Rattle.aka.specs.declared.shared.Keys.{Keys}
use Rattle.aka.specs.declared.shared.Parts.{Parts}
use Rattle.aka.specs.Setup.{Setup, f1, f2, f3, f4, f5, mac_s}
use Rattle.aka.specs.Tokens.{autn_amf, autn_mac, autn_number, auts_mac, auts_number}

-- RES, CK and IK are the fronts of their blocks
pub record KeysOf (s : Setup) (rand : List ℕ) (k : Keys) : Type 0 where
  pub res : take s.sizes.res k.res ≡ f2 s rand
  pub ck : take s.sizes.ck k.ck ≡ f3 s rand
  pub ik : take s.sizes.ik k.ik ≡ f4 s rand

-- and so are the masked number and MAC-A
pub record PartsOf (s : Setup) (rand amf sqn : List ℕ) (p : Parts) : Type 0 where
  pub keys : KeysOf s rand p.keys
  pub masked : take s.sizes.sqn p.masked ≡ sqn ⊕ f5 s rand
  pub mac : take s.sizes.mac p.mac ≡ f1 s rand amf sqn

-- the number that a token tells in k bytes if its MAC is right, or none
abbrev pub TellsNumber : Bool → ℕ → List ℕ → Option ℕ → Type 0
TellsNumber right k sqn (Some n) = (right ≡ true) × (bytes_of k n ≡ sqn) × (n < 256 ^ k)
TellsNumber right k sqn None = right ≡ false

-- whether the MAC-A of an AUTN, and the MAC-S of an AUTS, is right
abbrev pub right_mac_a : Setup → List ℕ → List ℕ → Bool
right_mac_a s rand token = bytes_eq (f1 s rand (autn_amf s.sizes token) (autn_number s rand token)) (autn_mac s.sizes token)

abbrev pub right_mac_s : Setup → List ℕ → List ℕ → Bool
right_mac_s s rand token = bytes_eq (mac_s s rand (auts_number s rand token)) (auts_mac s.sizes token)

abbrev pub TellsAutn : Setup → List ℕ → List ℕ → Option ℕ → Type 0
TellsAutn s rand token = TellsNumber (right_mac_a s rand token) s.sizes.sqn (autn_number s rand token)

abbrev pub TellsAuts : Setup → List ℕ → List ℕ → Option ℕ → Type 0
TellsAuts s rand token = TellsNumber (right_mac_s s rand token) s.sizes.sqn (auts_number s rand token)
