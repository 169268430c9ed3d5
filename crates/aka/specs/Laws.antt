-- What holds of the numbers and the tokens.
use Rattle.std.specs.Prelude.{◌≡◌, ℕ, true, false, ◌⊎◌, List, length, take, drop}
use Rattle.block.specs.Bytes.{AreBytes, ◌⊕◌}
use Rattle.aka.specs.Numbers.{next_number, all_ff, exceeds, larger}
use Rattle.aka.specs.Setup.{Setup, SoundSetup, f1, f2, f5, ak_star, mac_s}
use Rattle.aka.specs.Tokens.{autn, auts, answers, vector, answers_size, autn_size, auts_size, autn_place, vector_size, autn_masked, autn_amf, autn_mac, auts_masked, auts_mac, autn_number, auts_number}

pub record NumberLaws : Type 0 where
  -- the next number is as long, and exceeds the number unless that is all ff, which no number of its length exceeds
  pub next_long : (n : List ℕ) → length (next_number n) ≡ length n
  pub next_bytes : (n : List ℕ) → AreBytes (next_number n)
  pub next_exceeds : (n : List ℕ) → AreBytes n → all_ff n ≡ false → exceeds (next_number n) n ≡ true
  pub last : (n m : List ℕ) → AreBytes n → AreBytes m → length m ≡ length n → all_ff n ≡ true → exceeds m n ≡ false
  -- exceeding is strict, and numbers of one length neither of which exceeds the other are equal
  pub not_itself : (n : List ℕ) → exceeds n n ≡ false
  pub through : (n m k : List ℕ) → exceeds n m ≡ true → exceeds m k ≡ true → exceeds n k ≡ true
  pub one_way : (n m : List ℕ) → exceeds n m ≡ true → exceeds m n ≡ false
  pub equal : (n m : List ℕ) → AreBytes n → AreBytes m → length n ≡ length m → exceeds n m ≡ false → exceeds m n ≡ false → n ≡ m
  -- the larger of two is one of them, and neither exceeds it
  pub larger_one : (n m : List ℕ) → (larger n m ≡ n) ⊎ (larger n m ≡ m)
  pub larger_first : (n m : List ℕ) → exceeds n (larger n m) ≡ false
  pub larger_second : (n m : List ℕ) → exceeds m (larger n m) ≡ false

-- a number and an AMF as an end writes them
abbrev pub Written : Setup → List ℕ → List ℕ → Type 0
Written s amf sqn = (length amf ≡ 2) × (length sqn ≡ s.sizes.sqn)

-- What one end writes into a token, the other reads out of it, field by field.
pub record TokenLaws : Type 0 where
  pub autn_long : (s : Setup) (rand amf sqn : List ℕ) → SoundSetup s → Written s amf sqn → length (autn s rand amf sqn) ≡ autn_size s.sizes
  pub autn_masked_is : (s : Setup) (rand amf sqn : List ℕ) → SoundSetup s → Written s amf sqn → autn_masked s.sizes (autn s rand amf sqn) ≡ sqn ⊕ f5 s rand
  pub autn_amf_is : (s : Setup) (rand amf sqn : List ℕ) → SoundSetup s → Written s amf sqn → autn_amf s.sizes (autn s rand amf sqn) ≡ amf
  pub autn_mac_is : (s : Setup) (rand amf sqn : List ℕ) → SoundSetup s → Written s amf sqn → autn_mac s.sizes (autn s rand amf sqn) ≡ f1 s rand amf sqn
  pub autn_number_is : (s : Setup) (rand amf sqn : List ℕ) → SoundSetup s → Written s amf sqn → autn_number s rand (autn s rand amf sqn) ≡ sqn
  pub auts_long : (s : Setup) (rand sqn : List ℕ) → SoundSetup s → length sqn ≡ s.sizes.sqn → length (auts s rand sqn) ≡ auts_size s.sizes
  pub auts_masked_is : (s : Setup) (rand sqn : List ℕ) → SoundSetup s → length sqn ≡ s.sizes.sqn → auts_masked s.sizes (auts s rand sqn) ≡ sqn ⊕ ak_star s rand (mac_s s rand sqn)
  pub auts_mac_is : (s : Setup) (rand sqn : List ℕ) → SoundSetup s → length sqn ≡ s.sizes.sqn → auts_mac s.sizes (auts s rand sqn) ≡ mac_s s rand sqn
  pub auts_number_is : (s : Setup) (rand sqn : List ℕ) → SoundSetup s → length sqn ≡ s.sizes.sqn → auts_number s rand (auts s rand sqn) ≡ sqn
  -- where RAND, the answers and AUTN lie in a vector, and RES in the answers
  pub vector_long : (s : Setup) (rand amf sqn : List ℕ) → SoundSetup s → Written s amf sqn → length rand ≡ s.sizes.rand → length (vector s rand amf sqn) ≡ vector_size s.sizes
  pub vector_rand : (s : Setup) (rand amf sqn : List ℕ) → length rand ≡ s.sizes.rand → take s.sizes.rand (vector s rand amf sqn) ≡ rand
  pub vector_answers : (s : Setup) (rand amf sqn : List ℕ) → SoundSetup s → length rand ≡ s.sizes.rand → take (answers_size s.sizes) (drop s.sizes.rand (vector s rand amf sqn)) ≡ answers s rand
  pub vector_autn : (s : Setup) (rand amf sqn : List ℕ) → SoundSetup s → length rand ≡ s.sizes.rand → drop (autn_place s.sizes) (vector s rand amf sqn) ≡ autn s rand amf sqn
  pub answers_long : (s : Setup) (rand : List ℕ) → SoundSetup s → length (answers s rand) ≡ answers_size s.sizes
  pub answers_res : (s : Setup) (rand : List ℕ) → SoundSetup s → take s.sizes.res (answers s rand) ≡ f2 s rand
