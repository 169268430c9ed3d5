-- The round constants, and that a key of bytes has round keys of bytes.
use Rattle.std.proofs.Common.{◌≡◌, ℕ, zero, suc, ◌+◌, ◌-◌, ◌*◌, ◌/◌, ◌%◌, ◌<◌, Bool, true, false, cond, eqb, ltb, List, [], ◌∷◌, ◌++◌, length, get_or, refl, ◌∙◌, add-one, arith, lit<}
use lib.Bits.{bit_xor, xor_lt}
use Rattle.std.proofs.lemmas.Bool.{eqb-true}
use Rattle.block.specs.Bytes.{AreBytes}
use Rattle.field.specs.Field.{xtime}
use Rattle.field.proofs.Every.{every, passes}
use Rattle.field.proofs.FieldLaws.{s_box_byte, xtime_byte}
use Rattle.rijndael.specs.declared.schedule.TheConstants.{ROUND_CONSTANTS}
use Rattle.rijndael.specs.State.{table, at}
use Rattle.rijndael.specs.Schedule.{Doubling, doubled, constant, xor_word, rot_word, sub_word, change, next, more, words, schedule, round_key, round_keys}
use Rattle.rijndael.specs.Cipher.{key as key_of, KeysAreBytes}
use Rattle.rijndael.specs.StateLaws.{table_at, table_same}

-- the round constants
doubling : (t : List ℕ) → length t ≡ 14 → get_or t 0 0 ≡ 0x01 → every 13 (λ i. eqb (get_or t (i + 1) 0) (xtime (get_or t i 0))) ≡ true → Doubling t
doubling t a b d = record {
  long = a;
  starts = b;
  doubles = λ i h. eqb-true _ _ (passes 13 (λ i. eqb (get_or t (i + 1) 0) (xtime (get_or t i 0))) d i h);
}

pub constants_double : Doubling ROUND_CONSTANTS
unfolding xtime
constants_double = doubling ROUND_CONSTANTS refl refl refl

pub are_doubled : (t : List ℕ) → Doubling t → (k : ℕ) → k < 14 → get_or t k 0 ≡ doubled k
unfolding doubled
are_doubled t d zero h = d.starts
are_doubled t d (suc k) h =
    let e = are_doubled t d k (omega arith) in
    let f = rw add-one at (d.doubles k (omega arith)) in cc

-- words of bytes
abbrev WordsAreBytes : List (List ℕ) → Type 0
WordsAreBytes ws = (i j : ℕ) → at ws i j < 256

-- what holds of each entry of a table and of the default holds of what is read from it
read : {A : Type 0} (P : A → Type 0) (n : ℕ) (f : ℕ → A) (d : A) → ((k : ℕ) → P (f k)) → P d → (i : ℕ) → P (get_or (table n f) i d)
read P zero f d h z i = z
read P (suc n) f d h z zero = h 0
read P (suc n) f d h z (suc i) = read P n (λ k. f (suc k)) d (λ k. h (suc k)) z i

table_bytes : (n : ℕ) (f : ℕ → ℕ) → ((k : ℕ) → f k < 256) → AreBytes (table n f)
table_bytes n f h = read (λ b. b < 256) n f 0 h (lit< tt)

either : (t : Bool) (v w : List ℕ) → AreBytes v → AreBytes w → AreBytes (cond t v w)
either true v w h k = h
either false v w h k = k

doubled_byte : (n : ℕ) → doubled n < 256
unfolding doubled
doubled_byte zero = lit< tt
doubled_byte (suc n) = xtime_byte (doubled n) (doubled_byte n)

first_bytes : (b : ℕ) → b < 256 → AreBytes (b ∷ 0 ∷ 0 ∷ 0 ∷ [])
first_bytes b h zero = h
first_bytes b h (suc zero) = lit< tt
first_bytes b h (suc (suc zero)) = lit< tt
first_bytes b h (suc (suc (suc zero))) = lit< tt
first_bytes b h (suc (suc (suc (suc i)))) = lit< tt

xor_bytes : (v w : List ℕ) → AreBytes v → AreBytes w → AreBytes (xor_word v w)
unfolding xor_word
xor_bytes v w h k = table_bytes 4 (λ i. bit_xor (get_or v i 0) (get_or w i 0)) (λ i. xor_lt 8 _ _ (h i) (k i))

sub_bytes : (w : List ℕ) → AreBytes w → AreBytes (sub_word w)
unfolding sub_word
sub_bytes w h = table_bytes 4 _ (λ i. s_box_byte (get_or w i 0) (h i))

rot_bytes : (w : List ℕ) → AreBytes w → AreBytes (rot_word w)
unfolding rot_word
rot_bytes w h = table_bytes 4 (λ i. get_or w ((i + 1) % 4) 0) (λ i. h ((i + 1) % 4))

change_bytes : (i : ℕ) (v : List ℕ) → AreBytes v → AreBytes (change i v)
unfolding change
change_bytes i v h =
    either (eqb (i % 8) 0) _ _
    (xor_bytes _ _ (sub_bytes _ (rot_bytes v h)) (first_bytes (constant (i / 8)) (doubled_byte (i / 8 - 1))))
    (either (eqb (i % 8) 4) _ _ (sub_bytes v h) h)

next_bytes : (key : List ℕ) (i : ℕ) (ws : List (List ℕ)) → AreBytes key → WordsAreBytes ws → AreBytes (next key i ws)
unfolding next
next_bytes key i ws h k =
    either (ltb i 8) _ _ (table_bytes 4 (λ j. get_or key (4 * i + j) 0) (λ j. h (4 * i + j)))
    (xor_bytes _ _ (k (i - 8)) (change_bytes i _ (k (i - 1))))

push_bytes : (ws : List (List ℕ)) (w : List ℕ) → WordsAreBytes ws → AreBytes w → WordsAreBytes (ws ++ (w ∷ []))
push_bytes [] w h k zero j = k j
push_bytes [] w h k (suc i) j = lit< tt
push_bytes (v ∷ ws) w h k zero j = h 0 j
push_bytes (v ∷ ws) w h k (suc i) j = push_bytes ws w (λ i. h (suc i)) k i j

words_bytes : (key : List ℕ) → AreBytes key → (n : ℕ) → WordsAreBytes (words key n)
unfolding words more
words_bytes key h zero = λ i j. lit< tt
words_bytes key h (suc n) = push_bytes (words key n) (next key n (words key n)) (words_bytes key h n) (next_bytes key n (words key n) h (words_bytes key h n))

schedule_bytes : (key : List ℕ) → AreBytes key → WordsAreBytes (schedule key)
unfolding schedule
schedule_bytes key h = words_bytes key h 120

-- round keys
round_key_bytes : (ws : List (List ℕ)) → WordsAreBytes ws → (n : ℕ) → WordsAreBytes (round_key ws n)
unfolding round_key
round_key_bytes ws h n =
    read AreBytes 4 (λ r. table 8 (λ c. at ws (8 * n + c) r)) []
    (λ r. table_bytes 8 (λ c. at ws (8 * n + c) r) (λ c. h (8 * n + c) r)) (λ _. lit< tt)

pub round_keys_bytes : (key : List ℕ) → AreBytes key → KeysAreBytes (round_keys key)
unfolding round_keys
round_keys_bytes key h =
    read AreBytes 60 (λ i. get_or (round_key (schedule key) (i / 4)) (i % 4) [])
    [] (λ i. round_key_bytes (schedule key) (schedule_bytes key h) (i / 4) (i % 4)) (λ _. lit< tt)

rows : (ws : List (List ℕ)) (n : ℕ) → table 4 (λ r. get_or (round_key ws n) r []) ≡ round_key ws n
unfolding round_key
rows ws n = refl

pub key_is : (k : List ℕ) (n : ℕ) → n < 15 → key_of (round_keys k) n ≡ round_key (schedule k) n
unfolding key_of round_keys
key_is k n h =
    table_same 4 (λ r. get_or (table 60 (λ i. get_or (round_key (schedule k) (i / 4)) (i % 4) [])) (4 * n + r) []) (λ r. get_or (round_key (schedule k) n) r [])
    (λ r l.
    let d : (4 * n + r) / 4 ≡ n = omega arith in
    let m : (4 * n + r) % 4 ≡ r = omega arith in
    table_at 60 (λ i. get_or (round_key (schedule k) (i / 4)) (i % 4) []) (4 * n + r) [] (omega arith) ∙ cc)
    ∙ rows (schedule k) n
