use Rattle.session.proofs.Every.{every_session_shows}
use Rattle.session.proofs.every_session_shows_the_laws.Goals as goal

pub returns : goal.returns
returns c = every_session_shows
