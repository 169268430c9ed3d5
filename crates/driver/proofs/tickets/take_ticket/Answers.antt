use Rattle.std.proofs.Common.{vec_items, refl, ap, ◌∙◌, rules, tests}
use Rattle.std.proofs.lemmas.Iterator.{IsFirst-from_position, YieldsList-from_slice}
use Rattle.std.proofs.lemmas.Option.{MatchOption-at_some, MatchOption-at_none}
use Rattle.driver.specs.Seen.{serials}
use Rattle.driver.proofs.Holding
use Rattle.driver.proofs.tickets.take_ticket.Goals as goal

pub returns-in_err-place : goal.returns-in_err-place
returns-in_err-place c =
    let ts = vec_items c.args.tickets.now in
    let first = IsFirst-from_position _ _ c.position.result (Holding.Of c.args.serial) (Holding.Other c.args.serial) c.position.ensures.ran
    (YieldsList-from_slice ts (cc)) (λ x q k. search (rules, tests)) (λ x q k. search (rules, tests)) in
    rw c.from_residual.ensures (Holding.nowhere c.args.serial ts (MatchOption-at_none _ _ c.in_err-place.was first), refl)

pub returns : goal.returns
returns c =
    let ts = vec_items c.args.tickets.now in
    let first = IsFirst-from_position _ _ c.position.result (Holding.Of c.args.serial) (Holding.Other c.args.serial) c.position.ensures.ran
    (YieldsList-from_slice ts (cc)) (λ x q k. search (rules, tests)) (λ x q k. search (rules, tests)) in
    let at = MatchOption-at_some _ _ c.in_ok-place.place c.in_ok-place.was first in
    let out = Holding.first_out c.args.serial ts c.in_ok-place.place at.0 at.1 at.2 in
    (out.0, rw c.remove.ensures.value (at.1 c.remove.result), ap serials c.remove.ensures.items ∙ out.1)
