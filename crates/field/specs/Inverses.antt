-- What is an inverse in the field, and what the two substitutions are to each other.
use Rattle.std.specs.Prelude.{cond, ◌≡◌, ℕ, ◌<◌, eqb}
use Rattle.field.specs.Field.{mul, inverse, s_box, un_s_box}

pub record InverseLaws : Type 0 where
  -- a byte times its inverse is 1, and 0 is kept
  pub product_is_one : (b : ℕ) → b < 256 → mul b (inverse b) ≡ cond (eqb b 0) 0 1
  pub zero_kept : inverse 0 ≡ 0
  pub un_s_box_s_box : (b : ℕ) → b < 256 → un_s_box (s_box b) ≡ b
  pub s_box_un_s_box : (b : ℕ) → b < 256 → s_box (un_s_box b) ≡ b
