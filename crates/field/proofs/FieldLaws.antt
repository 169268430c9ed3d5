-- Laws of the field, by tests of each byte that antt computes.
use mathlib.Core.Path.{◌≡◌, refl, sym, ◌∙◌, ap}
use mathlib.Core.Bool.{Bool, true, false, cond}
use Prim.Native.Nat.{ℕ, zero, suc, ◌*◌, ◌/◌, ◌%◌, ◌<◌}
use native.Mathlib.Nat.{add-zero}
use native.Mathlib.Omega.{arith}
use lib.Bits.{bit_and, bit_xor, xor_assoc, xor_comm, xor_block, xor_shr, xor_lt, xor_zero_r}
use lib.Dec.{eqb, lit<}
use Rattle.std.proofs.lemmas.Bool.{eqb-true}
use Rattle.field.specs.Field.{xtime, product, mul, power, inverse, bit, affine_bit, unaffine_bit, of_bits, affine, unaffine, s_box, un_s_box}
use Rattle.field.proofs.Every.{agree, under, every, passes}

pub xtime_byte : (b : ℕ) → b < 256 → xtime b < 256
unfolding xtime
xtime_byte = under xtime 256 refl

-- products made from doublings
pub without_branch : (b : ℕ) → b < 256 → bit_xor (bit_and b 127 * 2 % 256) (b / 128 * 27) ≡ xtime b
unfolding xtime
without_branch = agree (λ b. bit_xor (bit_and b 127 * 2 % 256) (b / 128 * 27)) xtime refl

pub by_01 : (b : ℕ) → b ≡ mul 0x01 b
unfolding product mul
by_01 b = sym (xor_zero_r b)

pub by_02 : (b : ℕ) → xtime b ≡ mul 0x02 b
unfolding product mul
by_02 b = sym (xor_zero_r (xtime b))

pub by_03 : (b : ℕ) → bit_xor b (xtime b) ≡ mul 0x03 b
unfolding product mul
by_03 b = simp xor_zero_r

pub by_09 : (b : ℕ) → bit_xor b (xtime (xtime (xtime b))) ≡ mul 0x09 b
unfolding product mul
by_09 b = simp xor_zero_r

pub by_0b : (b : ℕ) → bit_xor b (bit_xor (xtime b) (xtime (xtime (xtime b)))) ≡ mul 0x0b b
unfolding product mul
by_0b b = simp xor_zero_r

pub by_0d : (b : ℕ) → bit_xor b (bit_xor (xtime (xtime b)) (xtime (xtime (xtime b)))) ≡ mul 0x0d b
unfolding product mul
by_0d b = simp xor_zero_r

pub by_0e : (b : ℕ) → bit_xor (xtime b) (bit_xor (xtime (xtime b)) (xtime (xtime (xtime b)))) ≡ mul 0x0e b
unfolding product mul
by_0e b = simp xor_zero_r

-- inverses
pub inverse_is : (b : ℕ) → b < 256 → mul b (inverse b) ≡ cond (eqb b 0) 0 1
unfolding xtime product mul power inverse
inverse_is = agree (λ b. mul b (inverse b)) (λ b. cond (eqb b 0) 0 1) refl

pub inverse_zero : inverse 0 ≡ 0
unfolding xtime product mul power inverse
inverse_zero = refl

pub s_box_byte : (b : ℕ) → b < 256 → s_box b < 256
unfolding xtime product mul power inverse bit affine_bit of_bits affine s_box
s_box_byte = under s_box 256 refl

pub un_s_box_byte : (b : ℕ) → b < 256 → un_s_box b < 256
unfolding xtime product mul power inverse bit unaffine_bit of_bits unaffine un_s_box
un_s_box_byte = under un_s_box 256 refl

pub un_s_box_s_box : (b : ℕ) → b < 256 → un_s_box (s_box b) ≡ b
unfolding xtime product mul power inverse bit affine_bit unaffine_bit of_bits affine unaffine s_box un_s_box
un_s_box_s_box = agree (λ b. un_s_box (s_box b)) (λ b. b) refl

pub s_box_un_s_box : (b : ℕ) → b < 256 → s_box (un_s_box b) ≡ b
unfolding xtime product mul power inverse bit affine_bit unaffine_bit of_bits affine unaffine s_box un_s_box
s_box_un_s_box = agree (λ b. s_box (un_s_box b)) (λ b. b) refl

-- the product is linear in its second factor
pub swap : (a b c d : ℕ) → bit_xor (bit_xor a b) (bit_xor c d) ≡ bit_xor (bit_xor a c) (bit_xor b d)
swap a b c d =
    xor_assoc a b (bit_xor c d)
    ∙ ap (λ (t : ℕ). bit_xor a t) (sym (xor_assoc b c d) ∙ ap (λ (t : ℕ). bit_xor t d) (xor_comm b c) ∙ xor_assoc c b d)
    ∙ sym (xor_assoc a c (bit_xor b d))

xtime_split : (b : ℕ) → b < 256 → xtime b ≡ bit_xor (b * 2) (b / 128 * 283)
unfolding xtime
xtime_split = agree xtime (λ b. bit_xor (b * 2) (b / 128 * 283)) refl

double_xor : (x y : ℕ) → bit_xor x y * 2 ≡ bit_xor (x * 2) (y * 2)
double_xor x y = let e = xor_block 1 x y 0 0 (lit< tt) (lit< tt) in simp add-zero at (sym e)

carry_xor : (p q : ℕ) → p < 2 → q < 2 → bit_xor p q * 283 ≡ bit_xor (p * 283) (q * 283)
carry_xor p q h k =
    eqb-true _ _ (passes 2 (λ q. eqb (bit_xor p q * 283) (bit_xor (p * 283) (q * 283)))
    (passes 2 (λ p. every 2 (λ q. eqb (bit_xor p q * 283) (bit_xor (p * 283) (q * 283)))) refl p h) q k)

pub xtime_xor : (x y : ℕ) → x < 256 → y < 256 → xtime (bit_xor x y) ≡ bit_xor (xtime x) (xtime y)
xtime_xor x y h k =
    let f = xtime_split (bit_xor x y) (xor_lt 8 x y h k) in
    let g = xtime_split x h in
    let i = xtime_split y k in
    let d = double_xor x y in
    let s : bit_xor x y / 128 ≡ bit_xor (x / 128) (y / 128) = xor_shr x y 7 in
    let q = carry_xor (x / 128) (y / 128) (omega arith) (omega arith) in
    let w = swap (x * 2) (y * 2) (x / 128 * 283) (y / 128 * 283) in
    cc

cond_xor : (t : Bool) (x y : ℕ) → cond t (bit_xor x y) 0 ≡ bit_xor (cond t x 0) (cond t y 0)
cond_xor true x y = refl
cond_xor false x y = refl

product_xor : (n a x y : ℕ) → x < 256 → y < 256 → product n a (bit_xor x y) ≡ bit_xor (product n a x) (product n a y)
unfolding product
product_xor zero a x y h k = refl
product_xor (suc n) a x y h k =
    let t = cond_xor (eqb (a % 2) 1) x y in
    let e = xtime_xor x y h k in
    let r = product_xor n (a / 2) (xtime x) (xtime y) (xtime_byte x h) (xtime_byte y k) in
    let w = swap (cond (eqb (a % 2) 1) x 0) (cond (eqb (a % 2) 1) y 0) (product n (a / 2) (xtime x)) (product n (a / 2) (xtime y)) in
    cc

same_cond : (t : Bool) → ◌≡◌ {A = ℕ} (cond t 0 0) 0
same_cond true = refl
same_cond false = refl

product_zero : (n a : ℕ) → product n a 0 ≡ 0
unfolding product xtime
product_zero zero a = refl
product_zero (suc n) a = let r = product_zero n (a / 2) in let t = same_cond (eqb (a % 2) 1) in cc

pub mul_xor : (a x y : ℕ) → x < 256 → y < 256 → mul a (bit_xor x y) ≡ bit_xor (mul a x) (mul a y)
unfolding mul
mul_xor a x y h k = product_xor 8 a x y h k

cond_byte : (t : Bool) (b : ℕ) → b < 256 → cond t b 0 < 256
cond_byte true b h = h
cond_byte false b h = lit< tt

product_byte : (n a b : ℕ) → b < 256 → product n a b < 256
unfolding product
product_byte zero a b h = lit< tt
product_byte (suc n) a b h = xor_lt 8 _ _ (cond_byte (eqb (a % 2) 1) b h) (product_byte n (a / 2) (xtime b) (xtime_byte b h))

pub mul_byte : (a b : ℕ) → b < 256 → mul a b < 256
unfolding mul
mul_byte a b h = product_byte 8 a b h

pub mul_by_zero : (a : ℕ) → mul a 0 ≡ 0
unfolding mul
mul_by_zero a = product_zero 8 a
