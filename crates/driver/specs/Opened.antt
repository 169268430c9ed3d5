-- A pair that is opened and then driven.
use Rattle.std.specs.Prelude.{◌≡◌, ℕ, not, ◌||◌, List, [], ◌∷◌, Ok, Err, Result, ◌==◌}
use Rattle.block.specs.Bytes.{IsBlock}
use Rattle.block.specs.Refusals.{number, Ground, ◌when◌, first}
use Rattle.aka.specs.declared.sizes.Sizes.{Sizes}
use Rattle.aka.specs.Setup.{Setup}
use Rattle.aka.specs.Calls.{differs}
use Rattle.aka.specs.Opening.{bad_sizes}
use Rattle.aka.specs.Views.{fresh_network}
use Rattle.session.specs.Log.{Pair, Entry, Session}
use Rattle.session.specs.Laws.{Shows}
use Rattle.driver.specs.declared.types.Stopped.{Stopped}
use Rattle.driver.specs.declared.types.Stopped.TheVariants.{Refused, Memory}
use Rattle.driver.specs.Seen.{pair_at}
use Rattle.driver.specs.Driven.{Choices, Driven}

-- on which grounds one of the ends is not opened: OPc, constants and sizes are those of both
abbrev pub pair_grounds : List ℕ → List ℕ → Sizes → List ℕ → List ℕ → List Ground
pair_grounds opc constants z network_number card_number =
    (2 when differs opc 32)
    ∷ (3 when differs constants 128)
    ∷ (6 when bad_sizes z)
    ∷ (7 when not (z.ak == z.sqn))
    ∷ (8 when (differs network_number z.sqn || differs card_number z.sqn))
    ∷ []

abbrev pub pair_ground : List ℕ → List ℕ → Sizes → List ℕ → List ℕ → ℕ
pair_ground opc constants z network_number card_number = first (pair_grounds opc constants z network_number card_number)

-- the same where both kernels are made of one key
abbrev pub one_key_ground : List ℕ → List ℕ → List ℕ → Sizes → List ℕ → List ℕ → ℕ
one_key_ground key opc constants z network_number card_number = first ((1 when differs key 32) ∷ pair_grounds opc constants z network_number card_number)

-- What a run answers: a log that meets P, if there is no ground; the refusal of the ground; or that there was no memory, if there is no ground.
abbrev pub Answers : {A : Type 0} → ℕ → Result A Stopped → (A → Type 0) → Type 0
Answers n (Ok log) P = (n ≡ 0) × P log
Answers n (Err (Refused e)) P = number e ≡ n
Answers n (Err Memory) P = n ≡ 0

-- the pair of two ends that were just opened with their numbers
abbrev pub fresh_pair : List ℕ → List ℕ → Pair
fresh_pair network_number card_number = pair_at (fresh_network network_number) card_number

-- What a run makes of a pair: the log is what the technician's choices make, it is a session,
-- and under a hypothesis it shows the laws.
pub record Ran {T : Type 0} (chooses : Choices T) (s t : Setup) (turns : ℕ) (who : T) (p : Pair) (last : T) (log : List Entry) (Alike : Type 0) : Type 0 where
  pub driven : Driven chooses s t turns who p [] [] last log
  pub session : Session s t p log
  pub shows : Alike → Shows s log

-- two kernels agree on every block
abbrev pub Agree : (List ℕ → List ℕ) → (List ℕ → List ℕ) → Type 0
Agree f g = (x : List ℕ) → IsBlock x → f x ≡ g x
