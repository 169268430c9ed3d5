-- What the functions promise, over the ends, tickets and logs that they are handed.
use Rattle.std.specs.Prelude.{ℕ, List, vec_items, Result, Vec, MatchResult}
use Rattle.std.specs.declared.alloc.AllocError.{AllocError}
use Rattle.std.specs.declared.alloc.Global.{Global}
use Rattle.aka.specs.declared.network.NetworkEnd.{NetworkEnd}
use Rattle.aka.specs.declared.card.CardEnd.{CardEnd}
use Rattle.aka.specs.declared.sizes.Sizes.{Sizes}
use Rattle.aka.specs.Views.{network_setup, card_setup, handed_in}
use Rattle.driver.specs.declared.types.Noted.{Noted}
use Rattle.driver.specs.declared.types.Stopped.{Stopped}
use Rattle.driver.specs.Seen.{logged, pair_of}
use Rattle.driver.specs.Driven.{Choices, Drove, Halted}
use Rattle.driver.specs.Runs.{Forth}
use Rattle.driver.specs.Opened.{pair_ground, one_key_ground, Answers, fresh_pair, Ran, Agree}

module _ {K L : Type 0} (f : Forth K) (g : Forth L) (n : NetworkEnd K) (c : CardEnd L) where
  -- the pair is driven, or there is no memory and the ends are as after some session
  abbrev pub Drives : {T : Type 0} → Choices T → ℕ → T → Result (Vec Noted Global) AllocError → T → NetworkEnd K → CardEnd L → Type 0
  Drives chooses turns who r last n' c' =
      MatchResult r (λ log. Drove chooses (network_setup f n) (card_setup g c) turns who (pair_of n c) last (pair_of n' c') (logged (vec_items log)))
      (λ _. Halted (network_setup f n) (card_setup g c) (pair_of n c) (pair_of n' c'))

-- a pair on two kernels is opened and driven; the laws show where the kernels agree on every block
abbrev pub RunsPair : {T : Type 0} → Choices T → (List ℕ → List ℕ) → (List ℕ → List ℕ) → List ℕ → List ℕ → Sizes → List ℕ → List ℕ → ℕ → T → Result (Vec Noted Global) Stopped → T → Type 0
RunsPair chooses f g opc constants z n m turns who r last =
    Answers (pair_ground opc constants z n m) r
    (λ log. Ran chooses (handed_in f opc constants z) (handed_in g opc constants z) turns who (fresh_pair n m) last (logged (vec_items log)) (Agree f g))

-- a pair on two kernels of one key is opened and driven, and the laws show
abbrev pub RunsOneKey : {T : Type 0} → Choices T → (List ℕ → List ℕ) → List ℕ → List ℕ → List ℕ → Sizes → List ℕ → List ℕ → ℕ → T → Result (Vec Noted Global) Stopped → T → Type 0
RunsOneKey chooses f key opc constants z n m turns who r last =
    Answers (one_key_ground key opc constants z n m) r
    (λ log. Ran chooses (handed_in f opc constants z) (handed_in f opc constants z) turns who (fresh_pair n m) last (logged (vec_items log)) (Unit {0}))
