use Rattle.std.proofs.Common.{◌-◌}
use Rattle.aka.specs.Setup.{Setup}
use Rattle.aka.specs.Views.{network_setup, card_setup}
use Rattle.driver.specs.Runs.{SameEnds, LeadsOn, pair_in, held_in, log_in}
use Rattle.driver.proofs.Driving.{Completes}
use Rattle.driver.proofs.run.Run.perform_all.Given as goal

-- What the turns left make of the pair as it is, all the turns make of the pair as it was.
abbrev pub invariant-loop-turn : goal.invariant-loop-turn
invariant-loop-turn g l =
    let s : Setup = network_setup g.K.Kernel.forth l.initial.self.network.now in
    let t : Setup = card_setup g.L.Kernel.forth l.initial.self.card.now in
    record {
      ends : SameEnds g.K.Kernel.forth g.L.Kernel.forth l.initial.self l.self;
      completes : Completes s t g.T.Technician.chooses
          (l.turns - l._turn) l.technician (pair_in l.self) (held_in l.self) (log_in l.self)
          l.turns l.initial.technician (pair_in l.initial.self) (held_in l.initial.self) (log_in l.initial.self);
      leads : LeadsOn g.K.Kernel.forth g.L.Kernel.forth l.initial.self l.self;
    }
