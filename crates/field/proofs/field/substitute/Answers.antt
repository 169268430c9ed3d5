use borrow.Author.Rules.{rules}
use Rattle.field.proofs.Tables.{s_box_table}
use Rattle.field.proofs.field.substitute.Goals as goal

pub returns : goal.returns
returns c = rw c.from.ensures (s_box_table c.args.b (search rules))
