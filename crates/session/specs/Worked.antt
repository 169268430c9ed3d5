-- A worked run: a card whose number is ahead of the network end's, on the kernel that hands its block back,
-- with zeros for OPc and the constants, and the smallest sizes.
use Rattle.std.specs.Prelude.{ℕ, List, [], ◌∷◌, ◌++◌, None}
use Rattle.block.specs.Bytes.{zeros}
use Rattle.aka.specs.declared.sizes.ResyncMask.TheVariants.{F5Star}
use Rattle.aka.specs.Setup.{Setup, SoundSetup, Alike}
use Rattle.aka.specs.States.{issued, raised, accepted, refused}
use Rattle.session.specs.Log.{Pair, challenge, resync, receive, Entry, Session, Fresh}
use Rattle.session.specs.Laws.{Gives, WritesAuts, Takes, Arrives, NoneAccepted, OpenRand, Undo}

abbrev pub plain : Setup
plain =
    record {
      forth = λ x. x;
      opc = zeros 32;
      constants = zeros 128;
      sizes = record { rand = 16; sqn = 6; ak = 6; mac = 8; res = 4; ck = 16; ik = 16; resync = F5Star };
    }

-- the network end at 0, the card at 255
abbrev pub start : Pair
start = record { net = record { number = zeros 6; given = 0; pending = None }; card = zeros 5 ++ (0xff ∷ []) }

abbrev pub rand₁ : List ℕ
rand₁ = zeros 16

abbrev pub amf₁ : List ℕ
amf₁ = 0x80 ∷ 0x00 ∷ []

-- RES, CK, IK
abbrev pub answers₁ : List ℕ
answers₁ = (0x4f ∷ 0x03 ∷ zeros 2) ++ (0x6f ∷ 0x0f ∷ zeros 14) ++ (0x8f ∷ 0x0f ∷ zeros 14)

-- AUTN of the numbers 1 and 256
abbrev pub autn₁ : List ℕ
autn₁ = (0xaf ∷ 0x01 ∷ 0x00 ∷ 0x00 ∷ 0x00 ∷ 0x01 ∷ []) ++ amf₁ ++ (0x2f ∷ 0x27 ∷ 0x80 ∷ zeros 5)

abbrev pub autn₂ : List ℕ
autn₂ = (0xaf ∷ 0x01 ∷ 0x00 ∷ 0x00 ∷ 0x01 ∷ 0x00 ∷ []) ++ amf₁ ++ (0x2f ∷ 0x27 ∷ 0x80 ∷ zeros 5)

-- AUTS of the numbers 255 and 256
abbrev pub auts₁ : List ℕ
auts₁ = (0xcf ∷ 0x01 ∷ 0x00 ∷ 0x00 ∷ 0x00 ∷ 0xff ∷ []) ++ (0x0f ∷ 0x27 ∷ zeros 6)

abbrev pub auts₂ : List ℕ
auts₂ = (0xcf ∷ 0x01 ∷ 0x00 ∷ 0x00 ∷ 0x01 ∷ 0x00 ∷ []) ++ (0x0f ∷ 0x27 ∷ zeros 6)

-- a challenge is given, and the card, ahead of it, writes an AUTS
abbrev pub gives₁ : Entry
gives₁ = record { call = challenge rand₁ amf₁ 68 96; yielded = issued 1; wrote = rand₁ ++ answers₁ ++ autn₁; wrote_auts = [] }

abbrev pub writes₁ : Entry
writes₁ = record { call = receive rand₁ autn₁ 36 14 96; yielded = refused 17; wrote = []; wrote_auts = auts₁ }

-- resync takes it
abbrev pub takes₁ : Entry
takes₁ = record { call = resync 1 auts₁ 96; yielded = raised; wrote = []; wrote_auts = [] }

-- the challenge given next is accepted, and no second time
abbrev pub gives₂ : Entry
gives₂ = record { call = challenge rand₁ amf₁ 68 96; yielded = issued 2; wrote = rand₁ ++ answers₁ ++ autn₂; wrote_auts = [] }

abbrev pub arrives₂ : Entry
arrives₂ = record { call = receive rand₁ autn₂ 36 14 96; yielded = accepted; wrote = answers₁; wrote_auts = [] }

abbrev pub repeats₂ : Entry
repeats₂ = record { call = receive rand₁ autn₂ 36 14 96; yielded = refused 17; wrote = []; wrote_auts = auts₂ }

abbrev pub worked_log : List Entry
worked_log = gives₁ ∷ writes₁ ∷ takes₁ ∷ gives₂ ∷ arrives₂ ∷ repeats₂ ∷ []

-- The run is a session, and what ResyncRestores asks is met in it.
pub record WorkedRun : Type 0 where
  pub undo : Undo plain.forth (λ x. x)
  pub sound : SoundSetup plain
  pub alike : Alike plain plain
  pub fresh : Fresh plain plain start
  pub session : Session plain plain start worked_log
  pub writes_an_auts : WritesAuts writes₁ rand₁ auts₁
  pub open_rand : OpenRand plain (gives₁ ∷ writes₁ ∷ []) rand₁
  pub takes_auts : Takes takes₁ auts₁
  pub gives_next : Gives plain gives₂ rand₁ autn₂
  pub arrives_whole : Arrives plain arrives₂ rand₁ autn₂
  pub none_accepted : NoneAccepted (takes₁ ∷ gives₂ ∷ [])
