-- A pair of ends, the calls that are made at it, and the log of a session.
use Rattle.std.specs.Prelude.{◌≡◌, ℕ, List, [], ◌∷◌, length, None}
use Rattle.block.specs.Bytes.{AreBytes}
use Rattle.aka.specs.Setup.{Setup}
use Rattle.aka.specs.States.{Network, Yield, Done}
use Rattle.aka.specs.Calls.{does_challenge, does_confirm, does_resync, does_lapse, does_receive, does_trace}

-- what moves at a network end and at a card, whose number it is
pub record Pair : Type 0 where
  pub net : Network
  pub card : List ℕ

pub data End : Type 0 where
  network : End
  card : End

-- A call with its arguments: of a ticket its serial, of a buffer and of the scratch its length.
pub data Call : Type 0 where
  challenge : (rand amf : List ℕ) (room scratch : ℕ) → Call
  confirm : (serial : ℕ) (res : List ℕ) → Call
  resync : (serial : ℕ) (auts : List ℕ) (scratch : ℕ) → Call
  lapse : (serial : ℕ) → Call
  receive : (rand autn : List ℕ) (room auts_room scratch : ℕ) → Call
  trace : (end : End) (index : ℕ) (rand : List ℕ) (size : ℕ) (carried : List ℕ) (room scratch : ℕ) → Call

-- An entry of a log: a call, what it yielded, the bytes that it wrote, and those that it wrote as AUTS.
pub record Entry : Type 0 where
  pub call : Call
  pub yielded : Yield
  pub wrote : List ℕ
  pub wrote_auts : List ℕ

-- what a call at one end does to the pair
abbrev pub at_network : Pair → Done Network → Done Pair
at_network p d = record { yields = d.yields; writes = d.writes; writes_auts = d.writes_auts; after = record { net = d.after; card = p.card } }

abbrev pub at_card : Pair → Done (List ℕ) → Done Pair
at_card p d = record { yields = d.yields; writes = d.writes; writes_auts = d.writes_auts; after = record { net = p.net; card = d.after } }

abbrev pub at_neither : Pair → Done (Unit {0}) → Done Pair
at_neither p d = record { yields = d.yields; writes = d.writes; writes_auts = d.writes_auts; after = p }

-- the setup of an end, of the network end's and the card's
abbrev pub setup_at : Setup → Setup → End → Setup
setup_at s t network = s
setup_at s t card = t

-- what a call does at a pair whose network end is set up by s and whose card by t
abbrev pub does : Setup → Setup → Pair → Call → Done Pair
does s t p (challenge rand amf room scratch) = at_network p (does_challenge s p.net rand amf room scratch)
does s t p (confirm serial res) = at_network p (does_confirm p.net serial res)
does s t p (resync serial auts scratch) = at_network p (does_resync s p.net serial auts scratch)
does s t p (lapse serial) = at_network p (does_lapse p.net serial)
does s t p (receive rand autn room auts_room scratch) = at_card p (does_receive t p.card rand autn room auts_room scratch)
does s t p (trace end index rand size carried room scratch) =
    at_neither p (does_trace (setup_at s t end) index rand size carried room scratch)

-- the strings that a call is handed hold bytes
abbrev pub Handed : Call → Type 0
Handed (challenge rand amf room scratch) = AreBytes rand × AreBytes amf
Handed (confirm serial res) = AreBytes res
Handed (resync serial auts scratch) = AreBytes auts
Handed (lapse serial) = Unit {0}
Handed (receive rand autn room auts_room scratch) = AreBytes rand × AreBytes autn
Handed (trace end index rand size carried room scratch) = AreBytes rand × AreBytes carried

-- an entry notes what its call does at a pair
pub record Notes (s t : Setup) (p : Pair) (e : Entry) : Type 0 where
  pub handed : Handed e.call
  pub yielded : e.yielded ≡ (does s t p e.call).yields
  pub wrote : e.wrote ≡ (does s t p e.call).writes
  pub wrote_auts : e.wrote_auts ≡ (does s t p e.call).writes_auts

-- the log of a session that begins at a pair: each entry notes what its call does at the pair as it then is
abbrev pub Session : Setup → Setup → Pair → List Entry → Type 0
Session s t p [] = Unit {0}
Session s t p (e ∷ es) = Notes s t p e × Session s t (does s t p e.call).after es

-- the pair after the calls of a log
unfoldable pub after : Setup → Setup → Pair → List Entry → Pair
after s t p [] = p
after s t p (e ∷ es) = after s t (does s t p e.call).after es

-- Both ends were just opened: no challenge given, none open, each number in bytes and of its end's SQN size.
pub record Fresh (s t : Setup) (p : Pair) : Type 0 where
  pub given : p.net.given ≡ 0
  pub pending : p.net.pending ≡ None
  pub number_long : length p.net.number ≡ s.sizes.sqn
  pub number_bytes : AreBytes p.net.number
  pub card_long : length p.card ≡ t.sizes.sqn
  pub card_bytes : AreBytes p.card
