use Rattle.std.proofs.Common.{◌≡◌, ℕ, suc, ◌+◌, ◌-◌, ◌<◌, ◌∙◌, arith}
use Rattle.aka.specs.Setup.{Setup}
use Rattle.aka.specs.Views.{network_setup, card_setup}
use Rattle.session.specs.Log.{Call}
use Rattle.driver.specs.Seen.{call_of}
use Rattle.driver.specs.Driven.{turn}
use Rattle.driver.specs.Runs.{pair_in, held_in, log_in}
use Rattle.driver.proofs.Driving
use Rattle.driver.proofs.run.Run.perform_all.Goals as goal

-- one turn is left before the turns that are left after it
turns_left : (n i : ℕ) → i < n → suc (n - (i + 1)) ≡ n - i
turns_left n i h = omega arith

pub returns-in-None-clause-drives : goal.returns-in-None-clause-drives
returns-in-None-clause-drives g c =
    let s : Setup = network_setup g.K.Kernel.forth c.args.self.now.network.now in
    let t : Setup = card_setup g.L.Kernel.forth c.args.self.now.card.now in
    let r = c.loop-turn.self in
    let chosen = rw c.in-None.is at c.in_ok-step.ensures in
    c.loop-turn.invariant.completes _ _
    (rw (← turns_left c.args.turns c.loop-turn._turn c.loop-turn-test.true)
    (Driving.stopped s t g.T.Technician.chooses (c.args.turns - (c.loop-turn._turn + 1)) c.loop-turn.technician c.next.new.self (pair_in r) (held_in r) (log_in r) chosen))

pub loop-turn-preserved : goal.loop-turn-preserved
loop-turn-preserved g c =
    let s : Setup = network_setup g.K.Kernel.forth c.args.self.now.network.now in
    let t : Setup = card_setup g.L.Kernel.forth c.args.self.now.card.now in
    let r = c.loop-turn.self in
    let r' = c.perform.new.self in
    let call : Call = call_of c.in-Some.step in
    let chosen = rw c.in-Some.is at c.in_ok-step.ensures in
    let inv = c.loop-turn.invariant in
    let ends = c.perform.ensures.ends in
    let turned = rw (inv.ends.network_setup, inv.ends.card_setup) at c.in_ok-perform-in-Some.ensures.turns in
    record {
      ends = record {
        network_named = ends.network_named ∙ inv.ends.network_named;
        card_named = ends.card_named ∙ inv.ends.card_named;
        tickets_named = ends.tickets_named ∙ inv.ends.tickets_named;
        log_named = ends.log_named ∙ inv.ends.log_named;
        network_setup = ends.network_setup ∙ inv.ends.network_setup;
        card_setup = ends.card_setup ∙ inv.ends.card_setup;
      };
      completes = λ last final d. inv.completes last final
          (rw (← turns_left c.args.turns c.loop-turn._turn c.loop-turn-test.true)
          (Driving.went_on s t g.T.Technician.chooses (c.args.turns - (c.loop-turn._turn + 1)) c.loop-turn.technician c.next.new.self last
          (pair_in r) (pair_in r') (held_in r) (held_in r') (log_in r) (log_in r') final call chosen turned d));
      leads = λ start h. Driving.leads_on s t start (pair_in r) (pair_in r') (held_in r) (held_in r') (turn s t (pair_in r) (held_in r) call) (log_in r) (log_in r') turned (inv.leads start h);
    }

pub returns-clause-drives : goal.returns-clause-drives
returns-clause-drives g c =
    let s : Setup = network_setup g.K.Kernel.forth c.args.self.now.network.now in
    let t : Setup = card_setup g.L.Kernel.forth c.args.self.now.card.now in
    let r = c.loop-turn.self in
    let none : 0 ≡ c.args.turns - c.loop-turn._turn = omega (arith, c.loop-turn-test.false) in
    c.loop-turn.invariant.completes _ _
    (rw (← none) (Driving.ended s t g.T.Technician.chooses c.loop-turn.technician (pair_in r) (held_in r) (log_in r)))
