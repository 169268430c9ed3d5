use Rattle.std.proofs.Common.{rules}
use Rattle.milenage.specs.Functions.{index_of}
use Rattle.milenage.proofs.SizeLaws.{size_taken}
use Rattle.milenage.proofs.sizes.has_size.Goals as goal

pub returns-in-Ok : goal.returns-in-Ok
returns-in-Ok c = size_taken (index_of c.args.function) c.args.size (search rules)

pub returns-in-Ok-2 : goal.returns-in-Ok-2
returns-in-Ok-2 c = size_taken (index_of c.args.function) c.args.size (search rules)
