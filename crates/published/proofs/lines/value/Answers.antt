use Rattle.published.proofs.NoValue.{undivided}
use Rattle.published.proofs.lines.value.Goals as goal

pub returns-in_err-label : goal.returns-in_err-label
returns-in_err-label c = rw c.from_residual.ensures (undivided c.args.line.now c.in_err-label.ensures.cases)
