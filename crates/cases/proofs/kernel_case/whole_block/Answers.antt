use Rattle.std.proofs.Common.{rules, ◌≡◌, ℕ, length, List, sym, ap, ◌∙◌}
use Rattle.std.proofs.lemmas.List.{take_at}
use Rattle.block.specs.Bytes.{filled, zeros}
use Rattle.cases.proofs.kernel_case.whole_block.Goals as goal

-- a list of 32 is its own block
whole : (x y : List ℕ) → length y ≡ 32 → y ≡ x → y ≡ filled x
unfolding filled
whole x y long same = same ∙ sym (take_at x (zeros 32) 32 (sym (ap length same) ∙ long))

pub returns-clause-filled : goal.returns-clause-filled
returns-clause-filled c = search (rules, whole)
