use Rattle.std.proofs.Common.{◌∙◌}
use Rattle.block.specs.Refusals.{number}
use Rattle.block.proofs.NumberLaws.{length_bytes_of}
use Rattle.aka.specs.Setup.{Setup}
use Rattle.aka.specs.States.{Network}
use Rattle.aka.specs.Views.{network_setup, network_of}
use Rattle.driver.proofs.Cutting
use Rattle.driver.proofs.run.Run.challenge_with.Goals as goal
use Rattle.driver.proofs.run.Run.challenge_with.Goals.{in-Ok, in-Err}

pub returns-clause-wrote : goal.returns-clause-wrote
returns-clause-wrote g c =
    let s : Setup = network_setup g.K.Kernel.forth c.args.self.now.network.now in
    let p : Network = network_of c.args.self.now.network.now in
    let long = c.challenge.auto.out ∙ c.deref_mut.ensures.len in
    elim c.match-challenge.branch [
      | in-Ok w ↦ rw (w.yielded'-is, w.self-is, w.serial-serial.ensures, ← c.deref_mut.ensures.len)
          (Cutting.challenge_given s p c.args.rand.now c.args.amf.now _ _ (network_of c.challenge.new.self) _ c.challenge.new.out _
          c.is_sound.ensures w.in-Ok.ticket.serial (length_bytes_of _ _) w.in-Ok.ensures.shows
          (Cutting.left c.challenge.new.out _ _ c.args.wrote.now.len _ _ long c.vector_size-size.ensures (rw w.yielded'-is at c.keep.ensures)))
      | in-Err w ↦ rw (w.yielded'-is, w.self-is, ← c.deref_mut.ensures.len)
          (Cutting.challenge_denied s p c.args.rand.now c.args.amf.now _ _ (network_of c.challenge.new.self) _ c.challenge.new.out _
          (number w.in-Err.e) w.in-Err.ensures.shows (rw w.yielded'-is at c.keep.ensures))
    ]
