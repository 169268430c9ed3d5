-- What an end asks is never refused: the sizes that it was opened with fit.
use Rattle.std.proofs.Common.{◌≡◌, ℕ, zero, suc, ◌<◌, ◌≤◌, List, length, take, ap, ◌∙◌, arith}
use Rattle.std.proofs.lemmas.Bool.Decides.{nat_tests}
use Rattle.milenage.specs.declared.question.Question.{Question as Held}
use Rattle.milenage.specs.Functions.{kind_of, bad_size, bad_carried}
use Rattle.milenage.specs.Grounds.{question_ground}
use Rattle.milenage.specs.Blocks.{temp, answer, block, output}
use Rattle.milenage.proofs.QuestionLaws.{told_input}
use Rattle.milenage.specs.Calls.{asked, Tells, input_of}
use Rattle.aka.specs.Setup.{Setup, keyed, ask}

pub fits_mac : (index rand size carried : ℕ) → index < 2 → (16 ≤ rand) × (rand ≤ 32) → (8 ≤ size) × (size ≤ 32) → (8 ≤ carried) × (carried ≤ 14) → question_ground index rand size carried ≡ 0
unfolding kind_of bad_size bad_carried
fits_mac zero rand size carried h r s c = grind (arith, nat_tests)
fits_mac (suc zero) rand size carried h r s c = grind (arith, nat_tests)
fits_mac (suc (suc i)) rand size carried h r s c = absurd (omega arith)

-- the front of the answer block at TEMP is the function's output
pub output_is : (s : Setup) (rand t : List ℕ) (h : Held) (index n size : ℕ) (carried r : List ℕ) → length rand ≡ n → t ≡ temp (keyed s) rand
    → Tells h (asked index n size carried) → r ≡ answer (keyed s) t (input_of s.constants h) → take size r ≡ ask s index rand size carried
unfolding ask output block
output_is s rand t h index n size carried r l e q a =
    ap (λ x. take size x) (a ∙ rw (e, l) (ap (answer (keyed s) (temp (keyed s) rand)) (told_input s.constants h (asked index n size carried) q)))
