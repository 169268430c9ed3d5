-- What moves at the two ends, and what a call does.
use Rattle.std.specs.Prelude.{◌≡◌, ℕ, Bool, true, cond, not, List, [], Some, None, Option, ◌==◌}
use Rattle.block.specs.Bytes.{over}
use Rattle.block.specs.Refusals.{Ground, first}

-- an open challenge: its serial, RAND and XRES
pub record Challenge : Type 0 where
  pub serial : ℕ
  pub rand : List ℕ
  pub xres : List ℕ

-- What moves at a network end: its number, how many challenges it gave, and its open challenge or none.
pub record Network : Type 0 where
  pub number : List ℕ
  pub given : ℕ
  pub pending : Option Challenge

-- What a call yields, with its number or value.
pub data Yield : Type 0 where
  issued : (serial : ℕ) → Yield
  confirmed : (yes : Bool) → Yield
  raised : Yield
  kept : Yield
  lapsed : Yield
  accepted : Yield
  traced : Yield
  refused : (number : ℕ) → Yield

-- What a call does: what it yields, what it writes at the front of its output, what it writes at the front of the AUTS buffer,
-- and what it leaves at its end.
pub record Done (S : Type 0) : Type 0 where
  pub yields : Yield
  pub writes : List ℕ
  pub writes_auts : List ℕ
  pub after : S

-- a call that writes nothing
abbrev pub silent : {S : Type 0} → Yield → S → Done S
silent y s = record { yields = y; writes = []; writes_auts = []; after = s }

-- refused by the first of the grounds that holds, which leaves p; done where none holds
abbrev pub unless : {S : Type 0} → List Ground → S → Done S → Done S
unless gs p d = cond (first gs == 0) d (silent (refused (first gs)) p)

-- What a call shows of itself is what is done: what it told, its buffers before and after, the end after.
pub record Shows {S : Type 0} (done : Done S) (answer : Yield) (before after auts_before auts_after : List ℕ) (end : S) : Type 0 where
  pub told : answer ≡ done.yields
  pub wrote : after ≡ over done.writes before
  pub wrote_auts : auts_after ≡ over done.writes_auts auts_before
  pub left : end ≡ done.after

-- stale: the ticket's serial is not the open one
unfoldable pub stale : ℕ → Option Challenge → Bool
stale serial None = true
stale serial (Some c) = not (serial == c.serial)

-- RAND and XRES of the open challenge, or nothing
unfoldable pub pending_rand : Option Challenge → List ℕ
pending_rand None = []
pending_rand (Some c) = c.rand

unfoldable pub pending_xres : Option Challenge → List ℕ
pending_xres None = []
pending_xres (Some c) = c.xres

-- a network end at a number once a ticket is spent: the open challenge ends unless the ticket is stale
unfoldable pub spent : ℕ → Network → List ℕ → Network
spent serial p n = record { number = n; given = p.given; pending = cond (stale serial p.pending) p.pending None }
