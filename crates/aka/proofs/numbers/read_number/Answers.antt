use Rattle.std.proofs.Common.{ℕ, List, length, ap, ◌∙◌, rules}
use Rattle.block.specs.Bytes.{AreBytes}
use Rattle.block.specs.Numbers.{bytes_of}
use Rattle.block.proofs.NumberLaws.{bytes_of_value, value_below}
use Rattle.aka.proofs.numbers.read_number.Goals as goal

pub returns-clause-below : goal.returns-clause-below
returns-clause-below c =
    let x : List ℕ = c.args.bytes.now in
    let b : AreBytes x = search rules in
    rw ((rw c.unwrap.ensures at c.number_of.ensures).1) (value_below x b)

pub returns-clause-again : goal.returns-clause-again
returns-clause-again c =
    let x : List ℕ = c.args.bytes.now in
    let b : AreBytes x = search rules in
    ap (λ (n : ℕ). bytes_of (length x) n) ((rw c.unwrap.ensures at c.number_of.ensures).1) ∙ bytes_of_value x b
