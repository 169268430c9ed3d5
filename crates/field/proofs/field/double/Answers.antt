use borrow.Author.Rules.{rules}
use Rattle.field.proofs.FieldLaws.{without_branch}
use Rattle.field.proofs.field.double.Goals as goal

pub returns : goal.returns
returns c = without_branch c.args.b (search rules)
