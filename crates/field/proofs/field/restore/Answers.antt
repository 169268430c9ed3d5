use borrow.Author.Rules.{rules}
use Rattle.field.proofs.Tables.{un_s_box_table}
use Rattle.field.proofs.field.restore.Goals as goal

pub returns : goal.returns
returns c = rw c.from.ensures (un_s_box_table c.args.b (search rules))
