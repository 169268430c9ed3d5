use Rattle.session.proofs.Every.{tokens_tell}
use Rattle.session.proofs.tokens_tell_their_numbers.Goals as goal

pub returns : goal.returns
returns c = tokens_tell
