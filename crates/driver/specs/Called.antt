-- What the inner functions answer.
use Rattle.std.specs.Prelude.{◌≡◌, ℕ, true, false, List, [], ◌∷◌, ◌++◌, Some, None, Option}
use Rattle.aka.specs.declared.ticket.Ticket.{Ticket}
use Rattle.aka.specs.Setup.{Setup}
use Rattle.aka.specs.States.{Network, Yield, Done}
use Rattle.session.specs.Log.{Pair, Call, lapse, Entry, does, Handed}
use Rattle.driver.specs.declared.types.Answer.{Answer}
use Rattle.driver.specs.Seen.{Made, pair_at}
use Rattle.driver.specs.Driven.{Turn, among, without, keeping, entry_at, noting, passing, turn, Leads}

-- a ticket is taken out of those held, or it was not among them
abbrev pub Takes : ℕ → List ℕ → Option Ticket → List ℕ → Type 0
Takes serial held (Some t) behind = (among serial held ≡ true) × (t.serial ≡ serial) × (behind ≡ without serial held)
Takes serial held None behind = (among serial held ≡ false) × (behind ≡ held)

-- What a call yielded, wrote and left is what is done.
pub record Wrote {S : Type 0} (done : Done S) (y : Yield) (wrote wrote_auts : List ℕ) (end : S) : Type 0 where
  pub told : y ≡ done.yields
  pub writes : wrote ≡ done.writes
  pub writes_auts : wrote_auts ≡ done.writes_auts
  pub left : end ≡ done.after

-- a challenge was made of strings of bytes, and its ticket is held
pub record Challenges (done : Done Network) (Strings : Type 0) (a : Answer) (net : Network) (held behind : List ℕ) : Type 0 where
  pub strings : Strings
  pub made : Made done a net
  pub keeps : behind ≡ keeping held done.yields

-- what an end and the tickets are, there being no memory for a call
pub record Idle {S : Type 0} (before after : S) (held behind : List ℕ) : Type 0 where
  pub end : after ≡ before
  pub tickets : behind ≡ held

-- a call that spends a ticket: made, or not made since the ticket was not held
abbrev pub Spends : ℕ → Done Network → Type 0 → Option Answer → Network → Network → List ℕ → List ℕ → Type 0
Spends serial done Strings (Some a) before net held behind =
    Strings × Made done a net × (among serial held ≡ true) × (behind ≡ without serial held)
Spends serial done Strings None before net held behind = (among serial held ≡ false) × Idle before net held behind

-- What a choice came to: its call was made and answered, and this is its turn; or it named a ticket that is not held.
abbrev pub CameTo : Setup → Setup → Pair → List ℕ → Call → Option Answer → Pair → List ℕ → Type 0
CameTo s t p held c (Some a) q behind = Handed c × Made (does s t p c) a q × (turn s t p held c ≡ noting s t p c behind)
CameTo s t p held c None q behind = Idle p q held behind × (turn s t p held c ≡ passing p held)

-- what one turn did to the pair, the tickets held and the log
pub record Turned (s t : Setup) (p : Pair) (held : List ℕ) (u : Turn) (q : Pair) (behind : List ℕ) (log more : List Entry) : Type 0 where
  pub pair_is : q ≡ u.pair
  pub held_is : behind ≡ u.held
  pub log_is : more ≡ log ++ u.entries
  pub leads : Leads s t p u.entries q

-- the lapse of a ticket at a network end is noted, whatever the card
abbrev pub LapseNoted : ℕ → Network → List Entry → List Entry → Type 0
LapseNoted serial before log more = (s t : Setup) (k : List ℕ) → more ≡ log ++ entry_at s t (pair_at before k) (lapse serial) ∷ []
