-- The six calls of a pair: from an end's state and a call to what is done. Of a buffer its length counts, of a ticket its serial.
use Rattle.std.specs.Prelude.{ℕ, ◌+◌, Bool, cond, not, ◌||◌, List, [], ◌∷◌, length, Some, ◌==◌, nat_lt}
use Rattle.std.specs.Str.{bytes_eq}
use Rattle.block.specs.Refusals.{◌when◌}
use Rattle.milenage.specs.Blocks.{trace_of}
use Rattle.milenage.specs.Grounds.{question_grounds}
use Rattle.aka.specs.Numbers.{next_number, all_ff, exceeds, larger}
use Rattle.aka.specs.Setup.{Setup, keyed, f1, f2, mac_s}
use Rattle.aka.specs.Tokens.{auts, answers, vector, answers_size, autn_size, auts_size, vector_size, autn_amf, autn_mac, auts_mac, autn_number, auts_number}
use Rattle.aka.specs.States.{Network, issued, confirmed, raised, kept, lapsed, accepted, traced, refused, Done, silent, unless, stale, pending_rand, pending_xres, spent}

-- a string that has not this length
abbrev pub differs : List ℕ → ℕ → Bool
differs x n = not (length x == n)

-- a scratch that is too short
abbrev pub short_scratch : ℕ → Bool
short_scratch scratch = nat_lt scratch 96

-- the most challenges that are ever given
abbrev pub most_given : ℕ
most_given = 4294967295

unfoldable pub does_challenge : Setup → Network → List ℕ → List ℕ → ℕ → ℕ → Done Network
does_challenge s p rand amf room scratch =
    let sqn : List ℕ = next_number p.number in
    unless
    ((9 when differs rand s.sizes.rand)
    ∷ (10 when differs amf 2)
    ∷ (12 when (nat_lt room (vector_size s.sizes) || short_scratch scratch))
    ∷ (13 when (all_ff p.number || p.given == most_given))
    ∷ [])
    p
    (record {
      yields = issued (p.given + 1);
      writes = vector s rand amf sqn;
      writes_auts = [];
      after = record { number = sqn; given = p.given + 1; pending = Some (record { serial = p.given + 1; rand = rand; xres = f2 s rand }) };
    })

unfoldable pub does_confirm : Network → ℕ → List ℕ → Done Network
does_confirm p serial res =
    unless ((14 when stale serial p.pending) ∷ []) (spent serial p p.number)
    (silent (confirmed (bytes_eq res (pending_xres p.pending))) (spent serial p p.number))

unfoldable pub does_lapse : Network → ℕ → Done Network
does_lapse p serial =
    unless ((14 when stale serial p.pending) ∷ []) (spent serial p p.number) (silent lapsed (spent serial p p.number))

-- raised when the AUTS told the larger number, otherwise kept; the larger number stays
unfoldable pub does_resync : Setup → Network → ℕ → List ℕ → ℕ → Done Network
does_resync s p serial token scratch =
    let rand : List ℕ = pending_rand p.pending in
    let sqn : List ℕ = auts_number s rand token in
    unless
    ((12 when short_scratch scratch)
    ∷ (14 when stale serial p.pending)
    ∷ (15 when differs token (auts_size s.sizes))
    ∷ (16 when not (bytes_eq (mac_s s rand sqn) (auts_mac s.sizes token)))
    ∷ [])
    (spent serial p p.number)
    (silent (cond (exceeds sqn p.number) raised kept) (spent serial p (larger p.number sqn)))

-- at a card with this number: accepted where the AUTN tells a number that exceeds it, else 17 and an AUTS
unfoldable pub does_receive : Setup → List ℕ → List ℕ → List ℕ → ℕ → ℕ → ℕ → Done (List ℕ)
does_receive s own rand token room auts_room scratch =
    let sqn : List ℕ = autn_number s rand token in
    unless
    ((9 when differs rand s.sizes.rand)
    ∷ (12 when (nat_lt room (answers_size s.sizes) || (nat_lt auts_room (auts_size s.sizes) || short_scratch scratch)))
    ∷ (15 when differs token (autn_size s.sizes))
    ∷ (16 when not (bytes_eq (f1 s rand (autn_amf s.sizes token) sqn) (autn_mac s.sizes token)))
    ∷ [])
    own
    (cond (exceeds sqn own)
    (record { yields = accepted; writes = answers s rand; writes_auts = []; after = sqn })
    (record { yields = refused 17; writes = []; writes_auts = auts s rand own; after = own }))

-- at either end; it moves nothing
unfoldable pub does_trace : Setup → ℕ → List ℕ → ℕ → List ℕ → ℕ → ℕ → Done (Unit {0})
does_trace s index rand size carried room scratch =
    unless
    (question_grounds index (length rand) size (length carried) ((12 when (nat_lt room 192 || short_scratch scratch)) ∷ []))
    tt
    (record {
      yields = traced;
      writes = trace_of (keyed s) rand (record { index = index; rand_size = length rand; size = size; carried = carried });
      writes_auts = [];
      after = tt;
    })
