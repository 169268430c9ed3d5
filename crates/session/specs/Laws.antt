-- What the log of every session shows.
use Rattle.std.specs.Prelude.{◌≡◌, ℕ, ◌<◌, ◌≤◌, ◌⊎◌, ◌↔◌, List, ◌∷◌, ◌++◌, length, take, drop}
use Rattle.block.specs.Bytes.{IsBlock, ◌⊕◌, filled}
use Rattle.block.specs.Numbers.{value}
use Rattle.milenage.specs.Question.{Question, SameQuestion}
use Rattle.aka.specs.Setup.{Setup, SoundSetup, Alike, f5}
use Rattle.aka.specs.Tokens.{autn, auts, autn_number, auts_number, answers_size, auts_size, autn_place}
use Rattle.aka.specs.States.{issued, raised, kept, accepted, traced, refused}
use Rattle.session.specs.Log.{Pair, End, challenge, resync, receive, trace, Entry, Session, Fresh}

-- ── What an entry says ──

-- A challenge is given: a challenge call that is not refused. AUTN is the last part of the vector.
pub record Gives (s : Setup) (e : Entry) (rand autn : List ℕ) : Type 0 where
  pub amf : List ℕ
  pub room : ℕ
  pub scratch : ℕ
  pub serial : ℕ
  pub call : e.call ≡ challenge rand amf room scratch
  pub yielded : e.yielded ≡ issued serial
  pub wrote : drop (autn_place s.sizes) e.wrote ≡ autn

-- The card accepts: a receive that is not refused.
pub record Accepts (e : Entry) (rand autn : List ℕ) : Type 0 where
  pub room : ℕ
  pub auts_room : ℕ
  pub scratch : ℕ
  pub call : e.call ≡ receive rand autn room auts_room scratch
  pub yielded : e.yielded ≡ accepted

-- The card writes an AUTS: a receive gets 17.
pub record WritesAuts (e : Entry) (rand auts : List ℕ) : Type 0 where
  pub autn : List ℕ
  pub room : ℕ
  pub auts_room : ℕ
  pub scratch : ℕ
  pub call : e.call ≡ receive rand autn room auts_room scratch
  pub yielded : e.yielded ≡ refused 17
  pub wrote_auts : e.wrote_auts ≡ auts

-- Resync takes an AUTS: it says raised or kept.
pub record Takes (e : Entry) (auts : List ℕ) : Type 0 where
  pub serial : ℕ
  pub scratch : ℕ
  pub call : e.call ≡ resync serial auts scratch
  pub yielded : (e.yielded ≡ raised) ⊎ (e.yielded ≡ kept)

-- Either end traces a question at a RAND: a trace that is not refused. The answer block is the last 32 of the 192 bytes.
pub record Traces (e : Entry) (rand : List ℕ) (q : Question) (block : List ℕ) : Type 0 where
  pub end : End
  pub room : ℕ
  pub scratch : ℕ
  pub rand_size : length rand ≡ q.rand_size
  pub call : e.call ≡ trace end q.index rand q.size q.carried room scratch
  pub yielded : e.yielded ≡ traced
  pub wrote : drop 160 e.wrote ≡ block

-- A RAND and an AUTN arrive at the card, with buffers and scratch long enough.
pub record Arrives (s : Setup) (e : Entry) (rand autn : List ℕ) : Type 0 where
  pub room : ℕ
  pub auts_room : ℕ
  pub scratch : ℕ
  pub call : e.call ≡ receive rand autn room auts_room scratch
  pub answers_fit : answers_size s.sizes ≤ room
  pub auts_fits : auts_size s.sizes ≤ auts_room
  pub scratch_fits : 96 ≤ scratch

-- the number in a challenge, or in what the card accepts: the first part of its AUTN, unmasked by f5 at its RAND
abbrev pub number_in : Setup → List ℕ → List ℕ → ℕ
number_in s rand autn = value (take s.sizes.sqn autn ⊕ f5 s rand)

-- ── Where entries stand ──

-- e stands in the log
abbrev pub Holds : List Entry → Entry → Type 0
Holds log e = (before : List Entry) × (behind : List Entry) × (log ≡ before ++ e ∷ behind)

-- the card accepted nothing
abbrev pub NoneAccepted : List Entry → Type 0
NoneAccepted log = (e : Entry) (rand autn : List ℕ) → Holds log e → Accepts e rand autn → ⊥

-- The open RAND after a log: that of the last challenge given in it.
pub record OpenRand (s : Setup) (log : List Entry) (rand : List ℕ) : Type 0 where
  pub earlier : List Entry
  pub last : Entry
  pub later : List Entry
  pub autn : List ℕ
  pub stands : log ≡ earlier ++ last ∷ later
  pub gives : Gives s last rand autn
  pub none_later : (e : Entry) (rand' autn' : List ℕ) → Holds later e → Gives s e rand' autn' → ⊥

-- ── The laws ──

-- Two traced answer blocks, whichever end traced them, at RANDs that agree once filled with zeros,
-- are equal exactly when they answer the same question: index, RAND size, output size,
-- number of carried bytes and the first thirty carried bytes agree.
abbrev pub EqualBlocksSameQuestionInLog : List Entry → Type 0
EqualBlocksSameQuestionInLog log =
    (e f : Entry) (rand rand' : List ℕ) (q r : Question) (block block' : List ℕ)
    → Holds log e → Holds log f → Traces e rand q block → Traces f rand' r block'
    → filled rand ≡ filled rand' → (block ≡ block') ↔ SameQuestion q r

-- The numbers in the challenges given rise strictly along the log.
abbrev pub ChallengeNumbersRise : Setup → List Entry → Type 0
ChallengeNumbersRise s log =
    (before between behind : List Entry) (e f : Entry) (rand autn rand' autn' : List ℕ)
    → log ≡ before ++ e ∷ between ++ f ∷ behind
    → Gives s e rand autn → Gives s f rand' autn' → number_in s rand autn < number_in s rand' autn'

-- So do the numbers that the card accepts.
abbrev pub AcceptedNumbersRise : Setup → List Entry → Type 0
AcceptedNumbersRise s log =
    (before between behind : List Entry) (e f : Entry) (rand autn rand' autn' : List ℕ)
    → log ≡ before ++ e ∷ between ++ f ∷ behind
    → Accepts e rand autn → Accepts f rand' autn' → number_in s rand autn < number_in s rand' autn'

-- If resync takes an AUTS that the card wrote at the open RAND, the card accepts the challenge given next, and every one given later:
-- provided that it arrives byte for byte, with buffers and scratch long enough, and that since it wrote that AUTS the card accepted nothing.
-- The receive that wrote the AUTS stands anywhere before the resync, before or after the challenge that is open.
abbrev pub ResyncRestores : Setup → List Entry → Type 0
ResyncRestores s log =
    (l₀ l₁ l₂ l₃ l₄ : List Entry) (writes takes gives arrives : Entry) (open_rand auts rand autn : List ℕ)
    → log ≡ l₀ ++ writes ∷ l₁ ++ takes ∷ l₂ ++ gives ∷ l₃ ++ arrives ∷ l₄
    → WritesAuts writes open_rand auts
    → OpenRand s (l₀ ++ writes ∷ l₁) open_rand
    → Takes takes auts
    → Gives s gives rand autn
    → Arrives s arrives rand autn
    → NoneAccepted (l₁ ++ takes ∷ l₂ ++ gives ∷ l₃)
    → Accepts arrives rand autn

pub record Shows (s : Setup) (log : List Entry) : Type 0 where
  pub equal_blocks_same_question : EqualBlocksSameQuestionInLog log
  pub challenge_numbers_rise : ChallengeNumbersRise s log
  pub accepted_numbers_rise : AcceptedNumbersRise s log
  pub resync_restores : ResyncRestores s log

-- two functions undo each other on blocks, as those of a kernel do
pub record Undo (forth back : List ℕ → List ℕ) : Type 0 where
  pub forth_block : (x : List ℕ) → IsBlock x → IsBlock (forth x)
  pub back_block : (x : List ℕ) → IsBlock x → IsBlock (back x)
  pub back_forth : (x : List ℕ) → IsBlock x → back (forth x) ≡ x
  pub forth_back : (x : List ℕ) → IsBlock x → forth (back x) ≡ x

-- The log of every session of a fresh pair, its ends set up alike on any kernel, shows the laws.
abbrev pub EverySessionShows : Type 0
EverySessionShows =
    (s t : Setup) (back : List ℕ → List ℕ) (p : Pair) (log : List Entry)
    → Undo s.forth back → SoundSetup s → Alike s t → Fresh s t p → Session s t p log → Shows s log

-- What is read out of a token at its RAND is the number that it was made of:
-- of the AUTS that a card writes the card's number, of an AUTN the number of its challenge.
pub record TokensTellTheirNumbers : Type 0 where
  pub auts_tells_the_cards_number : (s : Setup) → SoundSetup s → (rand sqn : List ℕ) → length sqn ≡ s.sizes.sqn
      → auts_number s rand (auts s rand sqn) ≡ sqn
  pub autn_tells_the_number : (s : Setup) → SoundSetup s → (rand amf sqn : List ℕ) → length sqn ≡ s.sizes.sqn
      → autn_number s rand (autn s rand amf sqn) ≡ sqn
