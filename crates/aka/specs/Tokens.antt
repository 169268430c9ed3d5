-- The layouts of vector, AUTN and AUTS, and what is read out of them.
use Rattle.std.specs.Prelude.{ℕ, ◌+◌, List, ◌++◌, take, drop}
use Rattle.block.specs.Bytes.{◌⊕◌}
use Rattle.aka.specs.declared.sizes.Sizes.{Sizes}
use Rattle.aka.specs.Setup.{Setup, f1, f2, f3, f4, f5, ak_star, mac_s}

-- AUTN: (SQN ⊕ AK) ‖ AMF ‖ MAC-A
unfoldable pub autn : Setup → List ℕ → List ℕ → List ℕ → List ℕ
autn s rand amf sqn = (sqn ⊕ f5 s rand) ++ amf ++ f1 s rand amf sqn

-- AUTS: (the card's number ⊕ AK*) ‖ MAC-S
unfoldable pub auts : Setup → List ℕ → List ℕ → List ℕ
auts s rand sqn = (sqn ⊕ ak_star s rand (mac_s s rand sqn)) ++ mac_s s rand sqn

-- what a card answers when it accepts: RES ‖ CK ‖ IK
unfoldable pub answers : Setup → List ℕ → List ℕ
answers s rand = f2 s rand ++ f3 s rand ++ f4 s rand

-- the vector: RAND ‖ XRES ‖ CK ‖ IK ‖ AUTN
unfoldable pub vector : Setup → List ℕ → List ℕ → List ℕ → List ℕ
vector s rand amf sqn = rand ++ answers s rand ++ autn s rand amf sqn

abbrev pub answers_size : Sizes → ℕ
answers_size z = z.res + z.ck + z.ik

abbrev pub autn_size : Sizes → ℕ
autn_size z = z.sqn + 2 + z.mac

abbrev pub auts_size : Sizes → ℕ
auts_size z = z.sqn + z.mac

-- where AUTN begins in a vector
abbrev pub autn_place : Sizes → ℕ
autn_place z = z.rand + answers_size z

abbrev pub vector_size : Sizes → ℕ
vector_size z = autn_place z + autn_size z

-- the parts of an AUTN
abbrev pub autn_masked : Sizes → List ℕ → List ℕ
autn_masked z a = take z.sqn a

abbrev pub autn_amf : Sizes → List ℕ → List ℕ
autn_amf z a = take 2 (drop z.sqn a)

abbrev pub autn_mac : Sizes → List ℕ → List ℕ
autn_mac z a = drop (z.sqn + 2) a

-- the parts of an AUTS
abbrev pub auts_masked : Sizes → List ℕ → List ℕ
auts_masked z a = take z.sqn a

abbrev pub auts_mac : Sizes → List ℕ → List ℕ
auts_mac z a = drop z.sqn a

-- the number that an AUTN tells at a RAND, unmasked by f5
unfoldable pub autn_number : Setup → List ℕ → List ℕ → List ℕ
autn_number s rand a = autn_masked s.sizes a ⊕ f5 s rand

-- the number that an AUTS tells at a RAND, unmasked by AK*
unfoldable pub auts_number : Setup → List ℕ → List ℕ → List ℕ
auts_number s rand a = auts_masked s.sizes a ⊕ ak_star s rand (auts_mac s.sizes a)
