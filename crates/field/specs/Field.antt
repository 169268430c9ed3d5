-- The field of 256 elements: bytes as polynomials over GF(2), modulo x⁸ + x⁴ + x³ + x + 1.
use Rattle.std.specs.Prelude.{cond, ℕ, zero, suc, ◌+◌, ◌*◌, ◌/◌, ◌%◌, ltb, eqb}
use Rattle.std.specs.Int.Bits.{bit_xor}

-- x times a
unfoldable pub xtime : ℕ → ℕ
xtime a = cond (ltb a 128) (a * 2) (bit_xor (a * 2) 0x11b)

-- the sum of b, x b, x² b, .. at the n lowest bits of a
unfoldable pub product : ℕ → ℕ → ℕ → ℕ
product zero a b = 0
product (suc n) a b = bit_xor (cond (eqb (a % 2) 1) b 0) (product n (a / 2) (xtime b))

unfoldable pub mul : ℕ → ℕ → ℕ
mul a b = product 8 a b

-- a to the power n, for n of m bits
unfoldable pub power : ℕ → ℕ → ℕ → ℕ
power zero a n = 1
power (suc m) a n = mul (cond (eqb (n % 2) 1) a 1) (power m (mul a a) (n / 2))

-- the inverse, with 0 kept
unfoldable pub inverse : ℕ → ℕ
inverse a = power 8 a 254

-- bit i of a
unfoldable pub bit : ℕ → ℕ → ℕ
bit zero a = a % 2
bit (suc i) a = bit i (a / 2)

-- the number of the bits f 0 .. f (n - 1)
unfoldable pub of_bits : ℕ → (ℕ → ℕ) → ℕ
of_bits zero f = 0
of_bits (suc n) f = f 0 + 2 * of_bits n (λ i. f (suc i))

-- bit i is the sum of bits i, i+4, i+5, i+6, i+7 (all mod 8) and bit i of 63
unfoldable pub affine_bit : ℕ → ℕ → ℕ
affine_bit a i = (bit i a + bit ((i + 4) % 8) a + bit ((i + 5) % 8) a + bit ((i + 6) % 8) a + bit ((i + 7) % 8) a + bit i 0x63) % 2

unfoldable pub affine : ℕ → ℕ
affine a = of_bits 8 (affine_bit a)

-- the other way: bit i is the sum of bits i+2, i+5, i+7 (all mod 8) and bit i of 05
unfoldable pub unaffine_bit : ℕ → ℕ → ℕ
unaffine_bit a i = (bit ((i + 2) % 8) a + bit ((i + 5) % 8) a + bit ((i + 7) % 8) a + bit i 0x05) % 2

unfoldable pub unaffine : ℕ → ℕ
unaffine a = of_bits 8 (unaffine_bit a)

-- the substitution of a byte, and its inverse
unfoldable pub s_box : ℕ → ℕ
s_box a = affine (inverse a)

unfoldable pub un_s_box : ℕ → ℕ
un_s_box a = inverse (unaffine a)
