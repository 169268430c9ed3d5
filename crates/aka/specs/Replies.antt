-- What a card hands back after a receive.
use Rattle.std.specs.Prelude.{◌≡◌, ℕ, cond, List, [], ◌∷◌, length, take, Ok, Err, Result, ◌==◌, nat_lt}
use Rattle.std.specs.Borrow.{Bor}
use Rattle.block.specs.declared.refusal.Refusal.{Refusal}
use Rattle.block.specs.Refusals.{number, ◌when◌, first}
use Rattle.aka.specs.declared.sizes.Sizes.{Sizes}
use Rattle.aka.specs.Tokens.{auts_size}

-- a buffer that is too short for its part
abbrev pub short_ground : ℕ → List ℕ → ℕ
short_ground n buffer = first ((12 when nat_lt (length buffer) n) ∷ [])

-- the first n bytes of a buffer: they lie where it lies
pub record Front (n : ℕ) (buffer part : Bor (List ℕ)) : Type 0 where
  pub bytes : part.now ≡ take n buffer.now
  pub place : part.ref_ptr ≡ buffer.ref_ptr

-- the AUTS after 17, and otherwise nothing of the answer buffer
abbrev pub reply_ground : Sizes → Result (Unit {0}) Refusal → List ℕ → List ℕ → ℕ
reply_ground z (Ok u) answer auts = short_ground z.res answer
reply_ground z (Err e) answer auts = cond (number e == 17) (short_ground (auts_size z) auts) 0

abbrev pub Replies : Sizes → Result (Unit {0}) Refusal → Bor (List ℕ) → Bor (List ℕ) → Bor (List ℕ) → Type 0
Replies z (Ok u) answer auts part = Front z.res answer part
Replies z (Err e) answer auts part = cond (number e == 17) (Front (auts_size z) auts part) (Front 0 answer part)
