-- What the choices of a technician make of a pair.
use Rattle.std.specs.Prelude.{◌≡◌, ℕ, zero, suc, Bool, false, cond, ◌||◌, List, [], ◌∷◌, ◌++◌, Some, None, Option, ◌==◌}
use Rattle.aka.specs.Setup.{Setup, Alike}
use Rattle.aka.specs.States.{Yield, issued, confirmed, raised, kept, lapsed, accepted, traced, refused}
use Rattle.session.specs.Log.{Pair, Call, challenge, confirm, resync, lapse, receive, trace, Entry, does, Session, after, Fresh}
use Rattle.session.specs.Laws.{Shows}

-- the entry of a call that is made at a pair
abbrev pub entry_at : Setup → Setup → Pair → Call → Entry
entry_at s t p c =
    record {
      call = c;
      yielded = (does s t p c).yields;
      wrote = (does s t p c).writes;
      wrote_auts = (does s t p c).writes_auts;
    }

-- What one turn adds to the log, the pair after it, and the serials of the tickets then held, oldest first.
pub record Turn : Type 0 where
  pub entries : List Entry
  pub pair : Pair
  pub held : List ℕ

-- the call is made and noted
abbrev pub noting : Setup → Setup → Pair → Call → List ℕ → Turn
noting s t p c held = record { entries = entry_at s t p c ∷ []; pair = (does s t p c).after; held = held }

-- no call is made
abbrev pub passing : Pair → List ℕ → Turn
passing p held = record { entries = []; pair = p; held = held }

-- a ticket that is issued is held behind the others
abbrev pub keeping : List ℕ → Yield → List ℕ
keeping held (issued n) = held ++ n ∷ []
keeping held (confirmed b) = held
keeping held raised = held
keeping held kept = held
keeping held lapsed = held
keeping held accepted = held
keeping held traced = held
keeping held (refused n) = held

-- a ticket of this serial is held
unfoldable pub among : ℕ → List ℕ → Bool
among serial [] = false
among serial (h ∷ hs) = h == serial || among serial hs

-- the tickets held once that of this serial is spent
unfoldable pub without : ℕ → List ℕ → List ℕ
without serial [] = []
without serial (h ∷ hs) = cond (h == serial) hs (h ∷ without serial hs)

-- a call that spends a ticket is made if the ticket is held, and else it is not made
abbrev pub spending : Setup → Setup → Pair → List ℕ → ℕ → Call → Turn
spending s t p held serial c = cond (among serial held) (noting s t p c (without serial held)) (passing p held)

-- the turn of a call that the technician chooses
abbrev pub turn : Setup → Setup → Pair → List ℕ → Call → Turn
turn s t p held (challenge rand amf room scratch) =
    noting s t p (challenge rand amf room scratch) (keeping held (does s t p (challenge rand amf room scratch)).yields)
turn s t p held (confirm serial res) = spending s t p held serial (confirm serial res)
turn s t p held (resync serial auts scratch) = spending s t p held serial (resync serial auts scratch)
turn s t p held (lapse serial) = spending s t p held serial (lapse serial)
turn s t p held (receive rand autn room auts_room scratch) = noting s t p (receive rand autn room auts_room scratch) held
turn s t p held (trace end index rand size carried room scratch) = noting s t p (trace end index rand size carried room scratch) held

-- the tickets left over lapse, oldest first
unfoldable pub lapses : Setup → Setup → Pair → List ℕ → List Entry
lapses s t p [] = []
lapses s t p (n ∷ ns) = entry_at s t p (lapse n) ∷ lapses s t (does s t p (lapse n)).after ns

-- Choices of a technician of a type: the technician before, the log that is shown, the call chosen or the end, the technician after.
abbrev pub Choices : Type 0 → Type 1
Choices T = T → List Entry → Option Call → T → Type 0

-- the end is chosen, or there are no turns left: what is held lapses
abbrev pub Ended : Setup → Setup → Pair → List ℕ → List Entry → List Entry → Type 0
Ended s t p held log final = final ≡ log ++ lapses s t p held

-- what follows a choice, where Rest says what the turns after it make of a pair, the tickets held and the log
abbrev pub Follows : Setup → Setup → Pair → List ℕ → List Entry → (Pair → List ℕ → List Entry → Type 0) → Type 0 → Option Call → Type 0
Follows s t p held log Rest Stop None = Stop
Follows s t p held log Rest Stop (Some c) = Rest (turn s t p held c).pair (turn s t p held c).held (log ++ (turn s t p held c).entries)

-- So many turns, from a technician, a pair, the serials held and a log, end with a technician and a log: at each turn
-- the technician, shown the log so far, chooses a call or the end; a call adds the entries of its turn and nothing else.
unfoldable pub Driven : {T : Type 0} → Choices T → Setup → Setup → ℕ → T → Pair → List ℕ → List Entry → T → List Entry → Type 0
Driven chooses s t zero who p held log last final = (last ≡ who) × Ended s t p held log final
Driven {T = T} chooses s t (suc n) who p held log last final =
    (choice : Option Call) × (next : T)
    × chooses who log choice next
    × Follows s t p held log (λ q h l. Driven chooses s t n next q h l last final) ((last ≡ next) × Ended s t p held log final) choice

-- The calls of these entries, made at a pair, are a session, and leave this pair.
pub record Leads (s t : Setup) (p : Pair) (entries : List Entry) (q : Pair) : Type 0 where
  pub session : Session s t p entries
  pub ends : q ≡ after s t p entries

-- What driving a pair makes: the log is what the technician's choices make, its calls lead from the pair as it was to the pair
-- as it is, and where the pair was fresh and set up alike the log shows the laws.
pub record Drove {T : Type 0} (chooses : Choices T) (s t : Setup) (turns : ℕ) (who : T) (p : Pair) (last : T) (q : Pair) (log : List Entry) : Type 0 where
  pub driven : Driven chooses s t turns who p [] [] last log
  pub leads : Leads s t p log q
  pub shows : Fresh s t p → Alike s t → Shows s log

-- There was no memory: the ends are as after some session.
pub record Halted (s t : Setup) (p q : Pair) : Type 0 where
  pub entries : List Entry
  pub leads : Leads s t p entries q
