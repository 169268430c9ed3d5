-- The two tables hold the two substitutions, by one computed test each.
use mathlib.Core.Path.{◌≡◌, refl}
use Prim.Native.Nat.{ℕ, ◌<◌}
use lib.ListN.{get_or}
use Rattle.field.specs.declared.field.TheConstants.{SBOX, SBOX_INVERSE}
use Rattle.field.specs.Field.{xtime, product, mul, power, inverse, bit, affine_bit, unaffine_bit, of_bits, affine, unaffine, s_box, un_s_box}
use Rattle.field.proofs.Every.{agree}

pub s_box_table : (b : ℕ) → b < 256 → get_or SBOX b 0 ≡ s_box b
unfolding xtime product mul power inverse bit affine_bit of_bits affine s_box
s_box_table = agree (λ b. get_or SBOX b 0) s_box refl

pub un_s_box_table : (b : ℕ) → b < 256 → get_or SBOX_INVERSE b 0 ≡ un_s_box b
unfolding xtime product mul power inverse bit unaffine_bit of_bits unaffine un_s_box
un_s_box_table = agree (λ b. get_or SBOX_INVERSE b 0) un_s_box refl
