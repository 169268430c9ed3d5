-- What the methods of a run promise.
use Rattle.std.specs.Prelude.{◌≡◌, ℕ, List, ◌++◌, IfOk, Option, Result, MatchResult, vec_len}
use Rattle.std.specs.declared.alloc.AllocError.{AllocError}
use Rattle.aka.specs.Setup.{Setup}
use Rattle.aka.specs.States.{Network, Done}
use Rattle.aka.specs.Views.{network_setup, card_setup, network_of}
use Rattle.session.specs.Log.{Pair, Call, Entry, after}
use Rattle.driver.specs.declared.types.Answer.{Answer}
use Rattle.driver.specs.declared.run.Run.{Run}
use Rattle.driver.specs.Seen.{logged, pair_at, pair_of, serials}
use Rattle.driver.specs.Driven.{turn, lapses, Choices, Driven, Leads, Drove, Halted}
use Rattle.driver.specs.Called.{Challenges, Idle, Spends, CameTo, Turned}

abbrev pub Forth : Type 0 → Type 0
Forth K = K → List ℕ → List ℕ

module _ {K L : Type 0} where
  -- what moves: at the network end, at both ends, the serials of the tickets held, the entries so far
  abbrev pub network_in : Run K L → Network
  network_in r = network_of r.network.now

  abbrev pub pair_in : Run K L → Pair
  pair_in r = pair_of r.network.now r.card.now

  abbrev pub held_in : Run K L → List ℕ
  held_in r = serials r.tickets.now.items

  abbrev pub log_in : Run K L → List Entry
  log_in r = logged r.log.now.items

  -- a call at the network end: it is the same end, set up as before, and the card and the log stay
  pub record AtNetwork (f : Forth K) (r r' : Run K L) : Type 0 where
    pub named : r'.network.ghost_name ≡ r.network.ghost_name
    pub setup : network_setup f r'.network.now ≡ network_setup f r.network.now
    pub tickets_named : r'.tickets.ghost_name ≡ r.tickets.ghost_name
    pub card : r'.card ≡ r.card
    pub log : r'.log ≡ r.log

  -- a call at the card: it is the same card, set up as before, and the network end, the tickets and the log stay
  pub record AtCard (g : Forth L) (r r' : Run K L) : Type 0 where
    pub named : r'.card.ghost_name ≡ r.card.ghost_name
    pub setup : card_setup g r'.card.now ≡ card_setup g r.card.now
    pub network : r'.network ≡ r.network
    pub tickets : r'.tickets ≡ r.tickets
    pub log : r'.log ≡ r.log

  -- a ticket lapses: it is the same end, set up as before, with the same log, and the card and the tickets stay
  pub record NotesLapse (f : Forth K) (r r' : Run K L) : Type 0 where
    pub named : r'.network.ghost_name ≡ r.network.ghost_name
    pub setup : network_setup f r'.network.now ≡ network_setup f r.network.now
    pub log_named : r'.log.ghost_name ≡ r.log.ghost_name
    pub card : r'.card ≡ r.card
    pub tickets : r'.tickets ≡ r.tickets

  -- the tickets left over lapse: none is left
  pub record LapsesTickets (f : Forth K) (r r' : Run K L) : Type 0 where
    pub named : r'.network.ghost_name ≡ r.network.ghost_name
    pub setup : network_setup f r'.network.now ≡ network_setup f r.network.now
    pub log_named : r'.log.ghost_name ≡ r.log.ghost_name
    pub card : r'.card ≡ r.card
    pub tickets_named : r'.tickets.ghost_name ≡ r.tickets.ghost_name
    pub none_left : vec_len r'.tickets.now ≡ 0

  -- whatever the card, the lapses of the tickets held lead to the network end as it is, and the log notes them
  module _ (f : Forth K) (r r' : Run K L) where
    abbrev pub LapsesEnd : Type 0
    LapsesEnd =
        (t : Setup) (k : List ℕ)
        → pair_at (network_in r') k ≡ after (network_setup f r.network.now) t (pair_at (network_in r) k) (lapses (network_setup f r.network.now) t (pair_at (network_in r) k) (held_in r))

    abbrev pub LapsesNoted : Type 0
    LapsesNoted = (t : Setup) (k : List ℕ) → log_in r' ≡ log_in r ++ lapses (network_setup f r.network.now) t (pair_at (network_in r) k) (held_in r)

  module _ (r r' : Run K L) where
    -- a challenge is given or refused, or there is no memory and nothing is done
    abbrev pub GivesTicket : Done Network → Type 0 → Result Answer AllocError → Type 0
    GivesTicket done Strings o =
        MatchResult o (λ a. Challenges done Strings a (network_in r') (held_in r) (held_in r')) (λ _. Idle (network_in r) (network_in r') (held_in r) (held_in r'))

    -- the ticket of a serial is spent, or it is not held
    abbrev pub SpendsTicket : ℕ → Done Network → Type 0 → Option Answer → Type 0
    SpendsTicket serial done Strings o = Spends serial done Strings o (network_in r) (network_in r') (held_in r) (held_in r')

    -- the same, or there is no memory and nothing is done
    abbrev pub MaySpendTicket : ℕ → Done Network → Type 0 → Result (Option Answer) AllocError → Type 0
    MaySpendTicket serial done Strings o =
        MatchResult o (λ a. SpendsTicket serial done Strings a) (λ _. Idle (network_in r) (network_in r') (held_in r) (held_in r'))

  module _ (f : Forth K) (g : Forth L) (r r' : Run K L) where
    abbrev s : Setup
    s = network_setup f r.network.now

    abbrev t : Setup
    t = card_setup g r.card.now

    -- the run is at the same ends, set up as before
    pub record SameEnds : Type 0 where
      pub network_named : r'.network.ghost_name ≡ r.network.ghost_name
      pub card_named : r'.card.ghost_name ≡ r.card.ghost_name
      pub tickets_named : r'.tickets.ghost_name ≡ r.tickets.ghost_name
      pub log_named : r'.log.ghost_name ≡ r.log.ghost_name
      pub network_setup : network_setup f r'.network.now ≡ network_setup f r.network.now
      pub card_setup : card_setup g r'.card.now ≡ card_setup g r.card.now

    -- a call is made, or it names a ticket that is not held, or there is no memory and nothing is done
    abbrev pub MakesCall : Call → Result (Option Answer) AllocError → Type 0
    MakesCall call o =
        MatchResult o (λ a. CameTo s t (pair_in r) (held_in r) call a (pair_in r') (held_in r'))
        (λ _. Idle (pair_in r) (pair_in r') (held_in r) (held_in r'))

    -- a turn is done, or there is no memory and nothing is done
    abbrev pub Performs : Call → Result (Unit {0}) AllocError → Type 0
    Performs call o =
        MatchResult o
        (λ _. Turned s t (pair_in r) (held_in r) (turn s t (pair_in r) (held_in r) call) (pair_in r') (held_in r') (log_in r) (log_in r'))
        (λ _. Idle (pair_in r) (pair_in r') (held_in r) (held_in r') × (r'.log.now.items ≡ r.log.now.items))

    -- the turns are done, but for the lapses of the tickets left over
    abbrev pub PerformsAll : {T : Type 0} → Choices T → ℕ → T → Result (Unit {0}) AllocError → T → Type 0
    PerformsAll chooses turns who o last =
        IfOk o
        (λ _. Driven chooses s t turns who (pair_in r) (held_in r) (log_in r) last (log_in r' ++ lapses s t (pair_in r') (held_in r')))

    -- what a log led to, the longer log leads on from
    abbrev pub LeadsOn : Type 0
    LeadsOn = (start : Pair) → Leads s t start (log_in r) (pair_in r) → Leads s t start (log_in r') (pair_in r')

    -- the turns are done and the tickets left over lapse, or there is no memory and the ends are as after some session
    abbrev pub RunsAll : {T : Type 0} → Choices T → ℕ → T → Result (Unit {0}) AllocError → T → Type 0
    RunsAll chooses turns who o last =
        MatchResult o (λ _. Drove chooses s t turns who (pair_in r) last (pair_in r') (log_in r')) (λ _. Halted s t (pair_in r) (pair_in r'))
