-- What calls yielded, in the words of the log.
use Rattle.std.specs.Prelude.{Ok, Err, Result}
use Rattle.block.specs.declared.refusal.Refusal.{Refusal}
use Rattle.block.specs.Refusals.{number}
use Rattle.aka.specs.States.{Yield, issued, confirmed, raised, kept, lapsed, accepted, traced, refused}
use Rattle.driver.specs.declared.types.Outcome.{Outcome}
use Rattle.driver.specs.declared.types.Outcome.TheVariants.{Issued, Confirmed, Raised, Kept, Lapsed, Accepted, Traced}

abbrev pub yield_of : Result Outcome Refusal → Yield
yield_of (Ok (Issued serial)) = issued serial
yield_of (Ok (Confirmed b)) = confirmed b
yield_of (Ok Raised) = raised
yield_of (Ok Kept) = kept
yield_of (Ok Lapsed) = lapsed
yield_of (Ok Accepted) = accepted
yield_of (Ok Traced) = traced
yield_of (Err e) = refused (number e)
