-- What the answers of the calls tell.
use Rattle.std.specs.Prelude.{Bool, Ok, Err, Result}
use Rattle.block.specs.declared.refusal.Refusal.{Refusal}
use Rattle.block.specs.Refusals.{number}
use Rattle.aka.specs.declared.ticket.Ticket.{Ticket}
use Rattle.aka.specs.declared.network.Resynced.{Resynced}
use Rattle.aka.specs.declared.network.Resynced.TheVariants.{Raised, Kept}
use Rattle.aka.specs.States.{Yield, issued, confirmed, raised, kept, lapsed, accepted, traced, refused}

abbrev pub told_challenge : Result Ticket Refusal → Yield
told_challenge (Ok t) = issued t.serial
told_challenge (Err e) = refused (number e)

abbrev pub told_confirm : Result Bool Refusal → Yield
told_confirm (Ok b) = confirmed b
told_confirm (Err e) = refused (number e)

abbrev pub told_lapse : Result (Unit {0}) Refusal → Yield
told_lapse (Ok u) = lapsed
told_lapse (Err e) = refused (number e)

abbrev pub told_receive : Result (Unit {0}) Refusal → Yield
told_receive (Ok u) = accepted
told_receive (Err e) = refused (number e)

abbrev pub told_trace : Result (Unit {0}) Refusal → Yield
told_trace (Ok u) = traced
told_trace (Err e) = refused (number e)

abbrev pub told_resync : Result Resynced Refusal → Yield
told_resync (Ok Raised) = raised
told_resync (Ok Kept) = kept
told_resync (Err e) = refused (number e)
