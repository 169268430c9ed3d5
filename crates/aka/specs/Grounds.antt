-- On which grounds the calls are refused, over the lengths of what they are passed.
use Rattle.std.specs.Prelude.{◌≡◌, ℕ, ◌+◌, ◌^◌, ◌<◌, ◌≤◌, Bool, false, not, ◌||◌, List, [], ◌∷◌, length, Ok, Err, Result, ◌==◌, nat_lt}
use Rattle.block.specs.declared.refusal.Refusal.{Refusal}
use Rattle.block.specs.Numbers.{bytes_of}
use Rattle.block.specs.Refusals.{number, Ground, ◌when◌, first}
use Rattle.aka.specs.declared.sizes.Sizes.{Sizes}
use Rattle.aka.specs.Numbers.{all_ff}
use Rattle.aka.specs.Tokens.{vector_size, answers_size, auts_size, autn_size}
use Rattle.aka.specs.Calls.{short_scratch, most_given}

abbrev pub challenge_grounds : Sizes → List ℕ → ℕ → ℕ → ℕ → ℕ → ℕ → List Ground
challenge_grounds z n given rand amf room scratch =
    (9 when not (rand == z.rand))
    ∷ (10 when not (amf == 2))
    ∷ (12 when (nat_lt room (vector_size z) || short_scratch scratch))
    ∷ (13 when (all_ff n || given == most_given))
    ∷ []

abbrev pub challenge_ground : Sizes → List ℕ → ℕ → ℕ → ℕ → ℕ → ℕ → ℕ
challenge_ground z n given rand amf room scratch = first (challenge_grounds z n given rand amf room scratch)

-- whether a challenge can be given, with its AMF and what follows for the number, the count and the lengths
abbrev pub MayChallenge : {T : Type 0} → Sizes → ℕ → ℕ → ℕ → List ℕ → ℕ → ℕ → Result (List ℕ × T) Refusal → Type 0
MayChallenge z n given rand amf room scratch (Ok v) =
    (challenge_ground z (bytes_of z.sqn n) given rand (length amf) room scratch ≡ 0) × (n + 1 < 256 ^ z.sqn) × (given < most_given)
    × (v.0 ≡ amf) × (rand ≡ z.rand) × (vector_size z ≤ room) × (96 ≤ scratch)
MayChallenge z n given rand amf room scratch (Err e) =
    number e ≡ challenge_ground z (bytes_of z.sqn n) given rand (length amf) room scratch

-- those of a received challenge that its lengths tell
abbrev pub receive_ground : Sizes → ℕ → ℕ → ℕ → ℕ → ℕ → ℕ
receive_ground z rand token room auts_room scratch =
    first
    ((9 when not (rand == z.rand))
    ∷ (12 when (nat_lt room (answers_size z) || (nat_lt auts_room (auts_size z) || short_scratch scratch)))
    ∷ (15 when not (token == autn_size z))
    ∷ [])

-- and all of them, with its MAC-A right or not
abbrev pub receive_grounds : Sizes → ℕ → ℕ → ℕ → ℕ → ℕ → Bool → List Ground
receive_grounds z rand token room auts_room scratch right =
    (9 when not (rand == z.rand))
    ∷ (12 when (nat_lt room (answers_size z) || (nat_lt auts_room (auts_size z) || short_scratch scratch)))
    ∷ (15 when not (token == autn_size z))
    ∷ (16 when not right)
    ∷ []

abbrev pub MayReceive : {T : Type 0} → Sizes → ℕ → ℕ → ℕ → ℕ → ℕ → Result T Refusal → Type 0
MayReceive z rand token room auts_room scratch (Ok u) =
    (receive_ground z rand token room auts_room scratch ≡ 0)
    × (rand ≡ z.rand) × (token ≡ autn_size z) × (answers_size z ≤ room) × (auts_size z ≤ auts_room) × (96 ≤ scratch)
MayReceive z rand token room auts_room scratch (Err e) = number e ≡ receive_ground z rand token room auts_room scratch

-- those of a resynchronisation that need no MAC-S
abbrev pub resync_ground : Sizes → Bool → ℕ → ℕ → ℕ
resync_ground z old token scratch =
    first ((12 when short_scratch scratch) ∷ (14 when old) ∷ (15 when not (token == auts_size z)) ∷ [])

-- and all of them, with its MAC-S right or not
abbrev pub resync_grounds : Sizes → Bool → ℕ → ℕ → Bool → List Ground
resync_grounds z old token scratch right =
    (12 when short_scratch scratch) ∷ (14 when old) ∷ (15 when not (token == auts_size z)) ∷ (16 when not right) ∷ []

abbrev pub MayResync : {T : Type 0} → Sizes → Bool → ℕ → ℕ → Result T Refusal → Type 0
MayResync z old token scratch (Ok u) =
    (resync_ground z old token scratch ≡ 0) × (old ≡ false) × (token ≡ auts_size z) × (96 ≤ scratch)
MayResync z old token scratch (Err e) = number e ≡ resync_ground z old token scratch
