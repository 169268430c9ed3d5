-- Which kind an index has, and which sizes are refused.
use Rattle.std.proofs.Common.{◌≡◌, ℕ, ◌≤◌, Bool, true, false, cond, ltb, nat_eq, ◌||◌, List, [], ◌∷◌, refl, ap, arith}
use Rattle.std.specs.List.{list_any}
use Rattle.std.proofs.lemmas.Bool.{le-ltb, ltb-false, or_from, or_parts}
use Rattle.milenage.specs.Functions.{Kind, authentication, response, session_key, anonymity_key, resynchronisation_key, kind_of, outside, bad_size}
use Rattle.milenage.specs.Grounds.{holds_zero, size_ground}

pub is_within : (low high n : ℕ) → (low ≤ n) × (n ≤ high) → outside low high n ≡ false
is_within low high n h = or_from (ltb n low) (ltb high n) (le-ltb n low h.0) (le-ltb high n h.1)

pub within : (low high n : ℕ) → outside low high n ≡ false → (low ≤ n) × (n ≤ high)
within low high n h = let u = or_parts (ltb n low) (ltb high n) h in (ltb-false n low u.0, ltb-false high n u.1)

-- no output is longer than a block
pub size_in_block : (k : Kind) (n : ℕ) → bad_size k n ≡ false → n ≤ 32
unfolding bad_size
size_in_block authentication n h = (within 8 32 n h).1
size_in_block response n h = (within 4 32 n h).1
size_in_block session_key n h = (within 16 32 n h).1
size_in_block anonymity_key n h = omega (arith, (within 6 12 n h).1)
size_in_block resynchronisation_key n h = omega (arith, (within 6 12 n h).1)

size_free : (a b : Bool) → ◌≡◌ {A = ℕ} (cond a 5 (cond b 6 0)) 0 → b ≡ false
size_free true b h = absurd (omega arith)
size_free false true h = absurd (omega arith)
size_free false false h = refl

pub size_taken : (i n : ℕ) → size_ground i n ≡ 0 → (size_ground i n ≡ 0) × (n ≤ 32)
size_taken i n h = (h, size_in_block (kind_of i) n (size_free (ltb 7 i) (bad_size (kind_of i) n) h))

-- the search of a slice finds the byte 00 where the name holds it
pub zero_found : (name : List ℕ) → list_any (λ b. nat_eq b 0) name ≡ holds_zero name
zero_found [] = refl
zero_found (b ∷ bs) = ap (λ t. nat_eq b 0 || t) (zero_found bs)
