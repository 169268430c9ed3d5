use Rattle.std.proofs.Common.{◌≡◌, ℕ, List, ◌++◌, OnOk}
use Rattle.std.specs.Vec.Iter.{into_iter_items, into_iter_len}
use Rattle.aka.specs.Setup.{Setup}
use Rattle.aka.specs.Views.{network_setup}
use Rattle.session.specs.Log.{after}
use Rattle.driver.specs.Seen.{pair_at, serials}
use Rattle.driver.specs.Driven.{lapses}
use Rattle.driver.specs.Runs.{LapsesTickets, network_in, held_in, log_in}
use Rattle.driver.proofs.run.Run.lapse_left.Given as goal

-- What is noted, with the lapses that are left, is what was noted with all of them; and so for the end.
abbrev pub invariant-loop-ticket : goal.invariant-loop-ticket
invariant-loop-ticket g l =
    let s : Setup = network_setup g.K.Kernel.forth l.fn.self.network.now in
    record {
      same : LapsesTickets g.K.Kernel.forth l.fn.self l.self;
      ends : (t : Setup) (k : List ℕ)
          → after s t (pair_at (network_in l.self) k) (lapses s t (pair_at (network_in l.self) k) (serials (into_iter_items l.left)))
          ≡ after s t (pair_at (network_in l.fn.self) k) (lapses s t (pair_at (network_in l.fn.self) k) (held_in l.fn.self));
      notes : OnOk l.all ((t : Setup) (k : List ℕ)
          → log_in l.self ++ lapses s t (pair_at (network_in l.self) k) (serials (into_iter_items l.left))
          ≡ log_in l.fn.self ++ lapses s t (pair_at (network_in l.fn.self) k) (held_in l.fn.self));
    }

abbrev pub decreases-loop-ticket : goal.decreases-loop-ticket
decreases-loop-ticket g l = into_iter_len l.left
