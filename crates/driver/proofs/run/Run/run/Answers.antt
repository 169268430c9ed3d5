use Rattle.std.proofs.Common.{Ok, Err, Result, OnOk, MatchResult, ap}
use Rattle.std.specs.Result.{result_and}
use Rattle.std.specs.declared.alloc.AllocError.{AllocError}
use Rattle.aka.specs.Setup.{Setup}
use Rattle.aka.specs.Views.{network_setup, card_setup}
use Rattle.session.specs.Laws.{Undo}
use Rattle.session.proofs.Every.{every_session_shows}
use Rattle.driver.specs.Seen.{logged}
use Rattle.driver.specs.Runs.{pair_in, log_in}
use Rattle.driver.proofs.Driving
use Rattle.driver.proofs.run.Run.run.Goals as goal

-- both results are fine, or there was no memory
both_cases : {P Q D H : Type 0} (a b : Result (Unit {0}) AllocError) → OnOk a P → OnOk b Q → (P → Q → D) → H → MatchResult (result_and a b) (λ _. D) (λ _. H)
both_cases (Ok x) (Ok y) p q d h = d p q
both_cases (Ok x) (Err e) p q d h = h
both_cases (Err e) b p q d h = h

pub returns-clause-drives : goal.returns-clause-drives
returns-clause-drives g c =
    let r = c.args.self.now in
    let r' = c.perform_all-done.new.self in
    let r'' = c.lapse_left-left.new.self in
    let s : Setup = network_setup g.K.Kernel.forth r.network.now in
    let t : Setup = card_setup g.L.Kernel.forth r.card.now in
    let f = g.K.Kernel.forth in
    let h = g.L.Kernel.forth in
    let ends = c.perform_all-done.ensures.ends in
    let lapsed = c.lapse_left-left.ensures.same in
    let new = ap logged c.requires.log in
    let led = Driving.all_leads f h r r' r'' ends lapsed new c.perform_all-done.ensures.leads c.lapse_left-left.ensures.ends in
    let k = r.network.now.core.kernel in
    let undo : Undo s.forth (g.K.Kernel.back k) =
    record {
      forth_block = g.met.K.Kernel.forth_block k;
      back_block = g.met.K.Kernel.back_block k;
      back_forth = g.met.K.Kernel.back_forth k;
      forth_back = g.met.K.Kernel.forth_back k;
    } in
    rw c.and.ensures
    (both_cases c.perform_all-done.result c.lapse_left-left.result c.perform_all-done.ensures.drives c.lapse_left-left.ensures.notes
    (λ driven notes.
    let noted = Driving.all_noted f h r r' r'' ends lapsed notes in
    let leads = rw noted at led in
    record {
      driven = rw (noted, c.requires.tickets, c.requires.log) at driven;
      leads = leads;
      shows = λ fresh alike. every_session_shows s t (g.K.Kernel.back k) (pair_in r) (log_in r'') undo c.is_sound.ensures alike fresh leads.session;
    })
    (record { entries = _; leads = led }))
