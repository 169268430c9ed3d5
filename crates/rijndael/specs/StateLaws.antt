-- Each step of a round has its inverse.
use Rattle.std.specs.Prelude.{◌≡◌, ℕ, zero, suc, ◌+◌, ◌-◌, ◌*◌, ◌/◌, ◌%◌, ◌<◌, Bool, true, cond, eqb, List, [], ◌∷◌, length, get_or, ◌==◌, refl}
use Rattle.std.proofs.Common.{sym, ◌∙◌, ap, subst, le_of_suc-le-suc, not-suc-le-zero, arith, lit<, ⊎_elim}
use Rattle.std.specs.Int.Bits.{bit_xor, xor_assoc, xor_zero_r, xor_self}
use Rattle.std.proofs.Math.ListN.{get_or-eq_default}
use Rattle.block.specs.Bytes.{AreBytes}
use Rattle.field.specs.Field.{xtime, product, mul, s_box, un_s_box}
use Rattle.rijndael.specs.State.{table, sum, state, at, load, store, sub, unsub, shift, unshift, places, matrix, mix_by, forth_row, back_row, mix, unmix, add}
use Rattle.std.proofs.lemmas.Nat.{mod_below, div_below, xor_comm, xor_lt}
use Rattle.std.proofs.lemmas.Bool.{eqb-true}
use Rattle.std.proofs.lemmas.Bool.Decides.{leb_tells}
use Rattle.field.proofs.Every.{every, passes}
use Rattle.field.proofs.FieldLaws.{swap, by_01, by_02, by_03, by_09, by_0b, by_0d, by_0e, s_box_byte, un_s_box_byte, un_s_box_s_box, s_box_un_s_box, mul_xor, mul_by_zero, mul_byte}

-- tables
pub table_at {ℓ} : {A : Type ℓ} (n : ℕ) (f : ℕ → A) (k : ℕ) (d : A) → k < n → get_or (table n f) k d ≡ f k
table_at zero f k d h = absurd (not-suc-le-zero h)
table_at (suc n) f zero d h = refl
table_at (suc n) f (suc k) d h = table_at n (λ i. f (suc i)) k d (le_of_suc-le-suc h)

pub table_same {ℓ} : {A : Type ℓ} (n : ℕ) (f g : ℕ → A) → ((k : ℕ) → k < n → f k ≡ g k) → table n f ≡ table n g
table_same zero f g h = refl
table_same (suc n) f g h =
    let e = h 0 (omega arith) in
    let r = table_same n (λ i. f (suc i)) (λ i. g (suc i)) (λ k l. h (suc k) (omega arith)) in cc

pub table_of : (x : List ℕ) → table (length x) (λ i. get_or x i 0) ≡ x
table_of [] = refl
table_of (a ∷ x) = ap (λ (t : List ℕ). a ∷ t) (table_of x)

-- states
pub at_state : (f : ℕ → ℕ → ℕ) (r c : ℕ) → r < 4 → c < 8 → at (state f) r c ≡ f r c
at_state f r c h k = ap (λ (t : List ℕ). get_or t c 0) (table_at 4 (λ r. table 8 (f r)) r [] h) ∙ table_at 8 (f r) c 0 k

pub state_same : (f g : ℕ → ℕ → ℕ) → ((r c : ℕ) → r < 4 → c < 8 → f r c ≡ g r c) → state f ≡ state g
state_same f g h = table_same 4 (λ r. table 8 (f r)) (λ r. table 8 (g r)) (λ r k. table_same 8 (f r) (g r) (λ c l. h r c k l))

pub record IsState (s : List (List ℕ)) : Type 0 where
  pub whole : state (at s) ≡ s
  pub bytes : (r c : ℕ) → r < 4 → c < 8 → at s r c < 256

pub of_bytes : (f : ℕ → ℕ → ℕ) → ((r c : ℕ) → r < 4 → c < 8 → f r c < 256) → IsState (state f)
of_bytes f h = record { whole = refl; bytes = λ r c k l. rw (at_state f r c k l) (h r c k l) }

-- substitution
pub sub_state : (s : List (List ℕ)) → IsState s → IsState (sub s)
unfolding sub
sub_state s h = of_bytes (λ r c. s_box (at s r c)) (λ r c k l. s_box_byte (at s r c) (h.bytes r c k l))

pub unsub_state : (s : List (List ℕ)) → IsState s → IsState (unsub s)
unfolding unsub
unsub_state s h = of_bytes (λ r c. un_s_box (at s r c)) (λ r c k l. un_s_box_byte (at s r c) (h.bytes r c k l))

pub unsub_sub : (s : List (List ℕ)) → IsState s → unsub (sub s) ≡ s
unfolding sub unsub
unsub_sub s h =
    state_same (λ r c. un_s_box (s_box (at s r c))) (at s) (λ r c k l. un_s_box_s_box (at s r c) (h.bytes r c k l)) ∙ h.whole

pub sub_unsub : (s : List (List ℕ)) → IsState s → sub (unsub s) ≡ s
unfolding sub unsub
sub_unsub s h =
    state_same (λ r c. s_box (un_s_box (at s r c))) (at s) (λ r c k l. s_box_un_s_box (at s r c) (h.bytes r c k l)) ∙ h.whole

-- the row shift
pub shift_state : (s : List (List ℕ)) → IsState s → IsState (shift s)
unfolding shift
shift_state s h = of_bytes (λ r c. at s r ((c + places r) % 8)) (λ r c k l. h.bytes r ((c + places r) % 8) k (mod_below _ 8 (lit< tt)))

pub unshift_state : (s : List (List ℕ)) → IsState s → IsState (unshift s)
unfolding unshift
unshift_state s h = of_bytes (λ r c. at s r ((c + (8 - places r)) % 8)) (λ r c k l. h.bytes r ((c + (8 - places r)) % 8) k (mod_below _ 8 (lit< tt)))

pub unshift_shift : (s : List (List ℕ)) → IsState s → unshift (shift s) ≡ s
unfolding shift unshift
unshift_shift s h = h.whole

pub shift_unshift : (s : List (List ℕ)) → IsState s → shift (unshift s) ≡ s
unfolding shift unshift
shift_unshift s h = h.whole

-- key addition
cancel : (a k : ℕ) → bit_xor (bit_xor a k) k ≡ a
cancel a k = xor_assoc a k k ∙ ap (λ (t : ℕ). bit_xor a t) (xor_self k) ∙ xor_zero_r a

pub add_add : (k s : List (List ℕ)) → IsState s → add k (add k s) ≡ s
unfolding add
add_add k s h =
    state_same (λ r c. bit_xor (bit_xor (at s r c) (at k r c)) (at k r c)) (at s) (λ r c _ _. cancel (at s r c) (at k r c)) ∙ h.whole

pub add_state : (k s : List (List ℕ)) → ((r c : ℕ) → r < 4 → at k r c < 256) → IsState s → IsState (add k s)
unfolding add
add_state k s b h = of_bytes (λ r c. bit_xor (at s r c) (at k r c)) (λ r c i j. xor_lt 8 _ _ (h.bytes r c i j) (b r c i))

-- loading and storing
pub load_store : (s : List (List ℕ)) → IsState s → load (store s) ≡ s
unfolding load store
load_store s h = h.whole

pub store_load : (x : List ℕ) → length x ≡ 32 → store (load x) ≡ x
unfolding load store
store_load x h = subst (λ (n : ℕ). table n (λ i. get_or x i 0) ≡ x) h (table_of x)

pub load_state : (x : List ℕ) → AreBytes x → IsState (load x)
unfolding load
load_state x h = of_bytes (λ r c. get_or x (4 * c + r) 0) (λ r c k l. h (4 * c + r))

-- sums
sum_same : (n : ℕ) (f g : ℕ → ℕ) → ((k : ℕ) → k < n → f k ≡ g k) → sum n f ≡ sum n g
sum_same zero f g h = refl
sum_same (suc n) f g h =
    let e = h 0 (omega arith) in
    let r = sum_same n (λ i. f (suc i)) (λ i. g (suc i)) (λ k l. h (suc k) (omega arith)) in cc

sum_byte : (n : ℕ) (f : ℕ → ℕ) → ((k : ℕ) → k < n → f k < 256) → sum n f < 256
sum_byte zero f h = lit< tt
sum_byte (suc n) f h = xor_lt 8 _ _ (h 0 (omega arith)) (sum_byte n (λ i. f (suc i)) (λ k l. h (suc k) (omega arith)))

sum_zero : (n : ℕ) → sum n (λ _. 0) ≡ 0
sum_zero zero = refl
sum_zero (suc n) = sum_zero n

sum_xor : (n : ℕ) (f g : ℕ → ℕ) → sum n (λ i. bit_xor (f i) (g i)) ≡ bit_xor (sum n f) (sum n g)
sum_xor zero f g = refl
sum_xor (suc n) f g =
    let r = sum_xor n (λ i. f (suc i)) (λ i. g (suc i)) in
    let w = swap (f 0) (g 0) (sum n (λ i. f (suc i))) (sum n (λ i. g (suc i))) in cc

sum_turn : (n m : ℕ) (f : ℕ → ℕ → ℕ) → sum n (λ i. sum m (λ j. f i j)) ≡ sum m (λ j. sum n (λ i. f i j))
sum_turn zero m f = sym (sum_zero m)
sum_turn (suc n) m f =
    ap (λ (t : ℕ). bit_xor (sum m (f 0)) t) (sum_turn n m (λ i. f (suc i))) ∙ sym (sum_xor m (f 0) (λ j. sum n (λ i. f (suc i) j)))

mul_sum : (a n : ℕ) (f : ℕ → ℕ) → ((k : ℕ) → k < n → f k < 256) → mul a (sum n f) ≡ sum n (λ i. mul a (f i))
mul_sum a zero f h = mul_by_zero a
mul_sum a (suc n) f h =
    mul_xor a (f 0) (sum n (λ i. f (suc i))) (h 0 (omega arith)) (sum_byte n (λ i. f (suc i)) (λ k l. h (suc k) (omega arith)))
    ∙ ap (λ (t : ℕ). bit_xor (mul a (f 0)) t) (mul_sum a n (λ i. f (suc i)) (λ k l. h (suc k) (omega arith)))

-- the product of the two matrices is the unit matrix, tested at each byte
entry : List ℕ → List ℕ → ℕ → ℕ → ℕ → ℕ
entry p q r k b = sum 4 (λ j. mul (matrix p r j) (mul (matrix q j k) b))

unit : ℕ → ℕ → ℕ → ℕ
unit r k b = cond (r == k) b 0

tests : List ℕ → List ℕ → Bool
tests p q = every 4 (λ r. every 4 (λ k. every 256 (λ b. eqb (entry p q r k b) (unit r k b))))

tested : (p q : List ℕ) → tests p q ≡ true → (r k b : ℕ) → r < 4 → k < 4 → b < 256 → entry p q r k b ≡ unit r k b
unfolding tests
tested p q t r k b h l m =
    eqb-true (entry p q r k b) (unit r k b)
    (passes 256 (λ b. eqb (entry p q r k b) (unit r k b))
    (passes 4 (λ k. every 256 (λ b. eqb (entry p q r k b) (unit r k b)))
    (passes 4 (λ r. every 4 (λ k. every 256 (λ b. eqb (entry p q r k b) (unit r k b)))) t r h) k l) b m)

back_forth : tests back_row forth_row ≡ true
unfolding tests entry unit mul product xtime
back_forth = refl

forth_back : tests forth_row back_row ≡ true
unfolding tests entry unit mul product xtime
forth_back = refl

sum_unit : (v : ℕ → ℕ) (r : ℕ) → r < 4 → sum 4 (λ k. unit r k (v k)) ≡ v r
unfolding unit
sum_unit v zero h = xor_zero_r (v 0)
sum_unit v (suc zero) h = xor_zero_r (v 1)
sum_unit v (suc (suc zero)) h = xor_zero_r (v 2)
sum_unit v (suc (suc (suc zero))) h = xor_zero_r (v 3)
sum_unit v (suc (suc (suc (suc r)))) h = absurd (omega arith)

column : (p q : List ℕ) → tests p q ≡ true → (v : ℕ → ℕ) → ((k : ℕ) → k < 4 → v k < 256) → (r : ℕ) → r < 4
    → sum 4 (λ j. mul (matrix p r j) (sum 4 (λ k. mul (matrix q j k) (v k)))) ≡ v r
unfolding entry
column p q t v b r h =
    sum_same 4 (λ j. mul (matrix p r j) (sum 4 (λ k. mul (matrix q j k) (v k)))) (λ j. sum 4 (λ k. mul (matrix p r j) (mul (matrix q j k) (v k))))
    (λ j l. mul_sum (matrix p r j) 4 (λ k. mul (matrix q j k) (v k)) (λ k m. mul_byte (matrix q j k) (v k) (b k m)))
    ∙ sum_turn 4 4 (λ j k. mul (matrix p r j) (mul (matrix q j k) (v k)))
    ∙ sum_same 4 (λ k. entry p q r k (v k)) (λ k. unit r k (v k)) (λ k m. tested p q t r k (v k) h m (b k m))
    ∙ sum_unit v r h

pub mix_state : (p : List ℕ) (s : List (List ℕ)) → IsState s → IsState (mix_by p s)
unfolding mix_by
mix_state p s h =
    of_bytes (λ r c. sum 4 (λ j. mul (matrix p r j) (at s j c)))
    (λ r c k l. sum_byte 4 (λ j. mul (matrix p r j) (at s j c)) (λ j m. mul_byte (matrix p r j) (at s j c) (h.bytes j c m l)))

mix_by_undone : (p q : List ℕ) → tests p q ≡ true → (s : List (List ℕ)) → IsState s → mix_by p (mix_by q s) ≡ s
unfolding mix_by
mix_by_undone p q t s h =
    state_same (λ r c. sum 4 (λ j. mul (matrix p r j) (sum 4 (λ k. mul (matrix q j k) (at s k c))))) (at s)
    (λ r c k l. column p q t (λ i. at s i c) (λ i m. h.bytes i c m l) r k) ∙ h.whole

pub unmix_mix : (s : List (List ℕ)) → IsState s → unmix (mix s) ≡ s
unmix_mix = mix_by_undone back_row forth_row back_forth

pub mix_unmix : (s : List (List ℕ)) → IsState s → mix (unmix s) ≡ s
mix_unmix = mix_by_undone forth_row back_row forth_back

-- row r of a mixed state, with the first row of the matrix from row r of the state on
turn : (a b c d : ℕ) → bit_xor a (bit_xor b (bit_xor c (bit_xor d 0))) ≡ bit_xor b (bit_xor c (bit_xor d (bit_xor a 0)))
turn a b c d = xor_comm a (bit_xor b (bit_xor c (bit_xor d 0))) ∙ simp (xor_assoc, xor_zero_r)

turned : (p : List ℕ) (s : List (List ℕ)) (r c : ℕ) → r < 4
    → sum 4 (λ j. mul (get_or p j 0) (at s ((r + j) % 4) c)) ≡ sum 4 (λ j. mul (matrix p r j) (at s j c))
turned p s zero c h = refl
turned p s (suc zero) c h =
    let m : ℕ → ℕ → ℕ = λ j i. mul (get_or p j 0) (at s i c) in sym (turn (m 3 0) (m 0 1) (m 1 2) (m 2 3))
turned p s (suc (suc zero)) c h =
    let m : ℕ → ℕ → ℕ = λ j i. mul (get_or p j 0) (at s i c) in
    turn (m 0 2) (m 1 3) (m 2 0) (m 3 1) ∙ turn (m 1 3) (m 2 0) (m 3 1) (m 0 2)
turned p s (suc (suc (suc zero))) c h =
    let m : ℕ → ℕ → ℕ = λ j i. mul (get_or p j 0) (at s i c) in turn (m 0 3) (m 1 0) (m 2 1) (m 3 2)
turned p s (suc (suc (suc (suc r)))) c h = absurd (omega arith)

rows_mixed : (p : List ℕ) (s : List (List ℕ)) → state (λ r c. sum 4 (λ j. mul (get_or p j 0) (at s ((r + j) % 4) c))) ≡ mix_by p s
unfolding mix_by
rows_mixed p s =
    state_same (λ r c. sum 4 (λ j. mul (get_or p j 0) (at s ((r + j) % 4) c))) (λ r c. sum 4 (λ j. mul (matrix p r j) (at s j c)))
    (λ r c h _. turned p s r c h)

pair_sum : (a b c d : ℕ) → bit_xor (bit_xor a b) (bit_xor c d) ≡ bit_xor a (bit_xor b (bit_xor c (bit_xor d 0)))
pair_sum a b c d = simp (xor_assoc, xor_zero_r)

-- the multiples of a state that the two matrices ask for, by doubling
pub rows_summed : (a b c d : List ℕ)
    → table 8 (λ k. bit_xor (bit_xor (get_or a k 0) (get_or b k 0)) (bit_xor (get_or c k 0) (get_or d k 0)))
    ≡ table 8 (λ k. sum 4 (λ j. at (a ∷ b ∷ c ∷ d ∷ []) j k))
rows_summed a b c d =
    table_same 8 (λ k. bit_xor (bit_xor (get_or a k 0) (get_or b k 0)) (bit_xor (get_or c k 0) (get_or d k 0)))
    (λ k. sum 4 (λ j. at (a ∷ b ∷ c ∷ d ∷ []) j k))
    (λ k _. pair_sum (get_or a k 0) (get_or b k 0) (get_or c k 0) (get_or d k 0))

-- a state whose column k has f j of the byte in row r + j
abbrev combined : (ℕ → ℕ → ℕ) → List (List ℕ) → ℕ → ℕ → ℕ
combined f s r k = sum 4 (λ j. f j (at s ((r + j) % 4) k))

multiples : (p : List ℕ) (f : ℕ → ℕ → ℕ) → ((j x : ℕ) → j < 4 → f j x ≡ mul (get_or p j 0) x) → (s : List (List ℕ)) → state (combined f s) ≡ mix_by p s
multiples p f h s =
    state_same (combined f s) (λ r k. sum 4 (λ j. mul (get_or p j 0) (at s ((r + j) % 4) k)))
    (λ r k _ _. sum_same 4 (λ j. f j (at s ((r + j) % 4) k)) (λ j. mul (get_or p j 0) (at s ((r + j) % 4) k)) (λ j l. h j (at s ((r + j) % 4) k) l))
    ∙ rows_mixed p s

abbrev forth : ℕ → ℕ → ℕ
forth zero x = xtime x
forth (suc zero) x = bit_xor x (xtime x)
forth (suc (suc j)) x = x

forth_is : (j x : ℕ) → j < 4 → forth j x ≡ mul (get_or forth_row j 0) x
forth_is zero x h = by_02 x
forth_is (suc zero) x h = by_03 x
forth_is (suc (suc zero)) x h = by_01 x
forth_is (suc (suc (suc zero))) x h = by_01 x
forth_is (suc (suc (suc (suc j)))) x h = absurd (omega arith)

pub multiples_mixed : (s : List (List ℕ)) → state (combined forth s) ≡ mix s
multiples_mixed = multiples forth_row forth forth_is

abbrev back : ℕ → ℕ → ℕ
back zero x = bit_xor (xtime x) (bit_xor (xtime (xtime x)) (xtime (xtime (xtime x))))
back (suc zero) x = bit_xor x (bit_xor (xtime x) (xtime (xtime (xtime x))))
back (suc (suc zero)) x = bit_xor x (bit_xor (xtime (xtime x)) (xtime (xtime (xtime x))))
back (suc (suc (suc j))) x = bit_xor x (xtime (xtime (xtime x)))

back_is : (j x : ℕ) → j < 4 → back j x ≡ mul (get_or back_row j 0) x
back_is zero x h = by_0e x
back_is (suc zero) x h = by_0b x
back_is (suc (suc zero)) x h = by_0d x
back_is (suc (suc (suc zero))) x h = by_09 x
back_is (suc (suc (suc (suc j)))) x h = absurd (omega arith)

pub multiples_unmixed : (s : List (List ℕ)) → state (combined back s) ≡ unmix s
multiples_unmixed = multiples back_row back back_is

-- the stored block
pub store_length : (s : List (List ℕ)) → length (store s) ≡ 32
unfolding store
store_length s = refl

pub store_byte : (s : List (List ℕ)) → IsState s → AreBytes (store s)
unfolding store
store_byte s h i =
    ⊎_elim
    (λ p. rw (table_at 32 (λ i. at s (i % 4) (i / 4)) i 0 p.1) (h.bytes (i % 4) (i / 4) (mod_below i 4 (lit< tt)) (div_below i 4 8 (lit< tt) p.1)))
    (λ p. rw (get_or-eq_default (table 32 (λ i. at s (i % 4) (i / 4))) 0 {n = i} (le_of_suc-le-suc p.1)) (lit< tt))
    (leb_tells (suc i) 32)
