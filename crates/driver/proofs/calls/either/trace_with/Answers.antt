use Rattle.std.proofs.Common.{rules, ◌∙◌}
use Rattle.std.proofs.lemmas.Grind.{common_steps}
use Rattle.aka.specs.Setup.{Setup}
use Rattle.driver.proofs.Cutting
use Rattle.driver.proofs.calls.either.trace_with.Goals as goal

pub returns-clause-wrote : goal.returns-clause-wrote
returns-clause-wrote g c =
    let s : Setup = g.E.PairEnd.setup c.args.end.now in
    rw (← c.deref_mut.ensures.len)
    (Cutting.trace_kept s c.is_sound.ensures (g.met.E.PairEnd.forth_block c.args.end.now) c.args.index c.args.rand.now c.args.size c.args.carried.now _ _ _ c.trace.new.out _
    c.trace.result c.map-yielded.result _ c.args.wrote.now.len (c.trace.auto.out ∙ c.deref_mut.ensures.len) (λ i. (c.type_inv.rand i).fits) (λ i. (c.type_inv.carried i).fits)
    c.trace.ensures.shows (search (rules, common_steps)) c.keep.ensures)
