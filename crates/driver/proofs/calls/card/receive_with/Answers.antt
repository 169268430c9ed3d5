use Rattle.std.proofs.Common.{List, ℕ, rules, ◌∙◌}
use Rattle.std.proofs.lemmas.Grind.{common_steps}
use Rattle.block.proofs.NumberLaws.{length_bytes_of}
use Rattle.aka.specs.Setup.{Setup}
use Rattle.aka.specs.Views.{card_setup, card_number}
use Rattle.driver.proofs.Cutting
use Rattle.driver.proofs.calls.card.receive_with.Goals as goal

pub returns-clause-wrote : goal.returns-clause-wrote
returns-clause-wrote g c =
    let s : Setup = card_setup g.K.Kernel.forth c.args.card.now in
    let own : List ℕ = card_number c.args.card.now in
    rw (← c.deref_mut.ensures.len, ← c.deref_mut-2.ensures.len)
    (Cutting.receive_kept s c.is_sound.ensures own c.args.rand.now c.args.autn.now _ _ _ (length_bytes_of _ _) _ _ c.receive.new.answer _ c.receive.new.auts _ _
    c.receive.result c.map-yielded.result _ _ c.args.wrote.now.len c.args.wrote_auts.now.len _ c.auts_written.result
    (c.receive.auto.answer ∙ c.deref_mut.ensures.len) (c.receive.auto.auts ∙ c.deref_mut-2.ensures.len) c.answers_size-answers.ensures
    c.receive.ensures.shows (search (rules, common_steps)) c.keep.ensures
    (λ e. c.auts_written.ensures.behind e ∙ c.auts_size-auts.ensures) c.auts_written.ensures.other c.truncate.ensures.items)
