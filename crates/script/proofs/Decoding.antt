-- What the crate hex says of decoding, in the words of Spelling.
use Rattle.std.proofs.Common.{◌≡◌, ℕ, zero, suc, ◌+◌, ◌*◌, ◌<◌, ◌≤◌, ◌==◌, ◌&&◌, Bool, true, false, List, [], ◌∷◌, length, slice_index, Option, Some, None, unwrap_or, is_some, Result, Ok, Err, refl, sym, ap, ◌∙◌, arith, inl, inr}
use Rattle.std.proofs.lemmas.Bool.Decides.{Decides-below_and, Decides-eqb}
use Rattle.std.specs.Char.{digit_value}
use Rattle.std.specs.Result.{result_unwrap_or}
use Rattle.hex.specs.Hex.{decode_of, decode_pairs, digit_or_error, hex_digit_value, is_hex_digit, pair_value, value_at, ◌>>=◌}
use Rattle.hex.specs.declared.error.FromHexError.{FromHexError}
use Rattle.hex.proofs.HexLemmas.{decode_of-err, decode_of-even, decode_of-ok}
use Rattle.script.specs.Spelling.{byte_at, Spells, SpellsNothing}

-- a character that does not read has no such value
digit_of-none : (c : ℕ) → is_hex_digit c ≡ false → 16 ≤ digit_value c
digit_of-none c h = grind (arith)

-- a digit that reads comes before g
before_g : (c : ℕ) → is_hex_digit c ≡ true → c < 103
before_g c h = grind (arith)

-- the crate's value of a character, if it has one, is the standard's: a test that computes
abbrev agrees : ℕ → Bool
agrees c = unwrap_or (hex_digit_value c) (digit_value c) == digit_value c

abbrev all_agree : ℕ → Bool
all_agree zero = true
all_agree (suc n) = agrees n && all_agree n

-- a digit that reads has the standard's value
digit_of-some : (c v : ℕ) → hex_digit_value c ≡ Some v → v ≡ digit_value c
digit_of-some c v h =
    let each = Decides-below_and agrees (λ k. unwrap_or (hex_digit_value k) (digit_value k) ≡ digit_value k) all_agree
    (λ k. Decides-eqb _ _) refl (λ n. refl) 103 in
    ap (λ (o : Option ℕ). unwrap_or o (digit_value c)) (sym h) ∙ each.0 refl c (before_g c (ap is_some h))

-- what an `Ok` after `>>=` shows
bind_ok : {A B : Type 0} (r : Result A FromHexError) (f : A → Result B FromHexError) (y : B)
    → (r >>= f) ≡ Ok y → (x : A) × (r ≡ Ok x) × (f x ≡ Ok y)
bind_ok (Ok x) f y h = (x, refl, h)
bind_ok (Err e) f y h = cc h

-- the value of a digit that read
digit_read : (c i v : ℕ) (o : Option ℕ) → digit_or_error c i o ≡ Ok v → o ≡ Some v
digit_read c i v (Some w) h = ap Some (ap (λ (r : Result ℕ FromHexError). result_unwrap_or r 0) h)
digit_read c i v None h = cc h

-- the byte of two digits that read
pair_read : (a b i v : ℕ) → pair_value a b i ≡ Ok v → v ≡ digit_value a * 16 + digit_value b
pair_read a b i v h =
    let p1 = bind_ok (value_at a i) _ v h in
    let p2 = bind_ok (value_at b (i + 1)) _ v p1.2 in
    let da = digit_of-some a p1.0 (digit_read a i p1.0 (hex_digit_value a) p1.1) in
    let db = digit_of-some b p2.0 (digit_read b (i + 1) p2.0 (hex_digit_value b) p2.1) in
    let byte : p1.0 * 16 + p2.0 ≡ v = ap (λ (r : Result ℕ FromHexError). result_unwrap_or r 0) p2.2 in
    sym byte ∙ ap (λ (x : ℕ). x * 16 + p2.0) da ∙ ap (λ (x : ℕ). digit_value a * 16 + x) db

-- a byte in front of bytes that agree with their digits
each_more : (a b v : ℕ) (rest bytes : List ℕ) (k : ℕ) → v ≡ digit_value a * 16 + digit_value b
    → ((m : ℕ) → m < length bytes → slice_index bytes m ≡ byte_at rest m)
    → k < length (v ∷ bytes) → slice_index (v ∷ bytes) k ≡ byte_at (a ∷ b ∷ rest) k
each_more a b v rest bytes zero e h l = e
each_more a b v rest bytes (suc m) e h l =
    let two : 2 * suc m ≡ suc (suc (2 * m)) = omega arith in
    let next : suc (suc (2 * m)) + 1 ≡ suc (suc (2 * m + 1)) = omega arith in
    rw (two, next) (h m (omega arith))

-- each byte of what decodes is the byte of its two digits
decode_pairs-each : (i : ℕ) (s bytes : List ℕ) → decode_pairs i s ≡ Ok bytes
    → (k : ℕ) → k < length bytes → slice_index bytes k ≡ byte_at s k
unfolding decode_pairs
decode_pairs-each i [] bytes h k l =
    let e : [] ≡ bytes = ap (λ (r : Result (List ℕ) FromHexError). result_unwrap_or r []) h in
    absurd (omega (arith, rw (← e) at l))
decode_pairs-each i (a ∷ []) bytes h k l = cc h
decode_pairs-each i (a ∷ b ∷ rest) bytes h k l =
    let pair = bind_ok (pair_value a b i) _ bytes h in
    let more = bind_ok (decode_pairs (i + 2) rest) _ bytes pair.2 in
    let e : pair.0 ∷ more.0 ≡ bytes = ap (λ (r : Result (List ℕ) FromHexError). result_unwrap_or r []) more.2 in
    rw (← e) (each_more a b pair.0 rest more.0 k (pair_read a b i pair.0 pair.1)
    (decode_pairs-each (i + 2) rest more.0 more.1) (rw (← e) at l))

-- what decodes is spelled
pub decoded_spells : (text bytes : List ℕ) → decode_of text ≡ Ok bytes → Spells text bytes
decoded_spells text bytes h =
    let ok = decode_of-ok text bytes h in
    record { long = ok.2; each = decode_pairs-each 0 text bytes (sym (decode_of-even text ok.0) ∙ h) }

-- what does not decode spells nothing
pub refused_spells_nothing : (text : List ℕ) (e : FromHexError) → decode_of text ≡ Err e → SpellsNothing text
refused_spells_nothing text e h =
    elim (decode_of-err text e h) [
      | inl odd ↦ inl odd.0
      | inr bad ↦ inr (bad.0, bad.2, digit_of-none (slice_index text bad.0) bad.3)
    ]
