use Rattle.session.proofs.Example.{worked_run}
use Rattle.session.proofs.worked_run_stands.Goals as goal

pub returns : goal.returns
returns c = worked_run
