use Rattle.std.proofs.Common.{List, [], ◌∷◌, ◌++◌, vec_items, MutBor, Vec, ap, ◌∙◌}
use Rattle.std.specs.declared.alloc.Global.{Global}
use Rattle.aka.specs.Setup.{Setup}
use Rattle.aka.specs.Views.{network_setup, card_setup}
use Rattle.driver.specs.declared.types.Noted.{Noted}
use Rattle.driver.specs.Seen.{call_of}
use Rattle.driver.specs.Runs.{pair_in, held_in}
use Rattle.driver.proofs.Turning
use Rattle.driver.proofs.run.Run.perform.Goals as goal

pub returns-in-Some-clause-turns : goal.returns-in-Some-clause-turns
returns-in-Some-clause-turns g c =
    let r = c.args.self.now in
    let r' = c.make_call.new.self in
    let s : Setup = network_setup g.K.Kernel.forth r.network.now in
    let t : Setup = card_setup g.L.Kernel.forth r.card.now in
    let kept = ap (λ (m : MutBor (Vec Noted Global)). vec_items m.now) c.make_call.ensures.log ∙ c.reserve.ensures.items in
    let came = rw c.in-Some.is at c.in_ok-answer.ensures.answers in
    Turning.turned_made s t (pair_in r) (pair_in r') (held_in r) (held_in r') c.args.step c.in-Some.answer (vec_items r.log.now) (vec_items c.push_reserved.new.self) came
    (c.push_reserved.ensures.items ∙ ap (λ (l : List Noted). l ++ record { call = c.args.step; answer = c.in-Some.answer } ∷ []) kept)

pub returns-in_default-clause-turns : goal.returns-in_default-clause-turns
returns-in_default-clause-turns g c =
    let r = c.args.self.now in
    let r' = c.make_call.new.self in
    let s : Setup = network_setup g.K.Kernel.forth r.network.now in
    let t : Setup = card_setup g.L.Kernel.forth r.card.now in
    let kept = ap (λ (m : MutBor (Vec Noted Global)). vec_items m.now) c.make_call.ensures.log ∙ c.reserve.ensures.items in
    let came = rw c.in_default.is at c.in_ok-answer.ensures.answers in
    Turning.turned_none s t (pair_in r) (pair_in r') (held_in r) (held_in r') (call_of c.args.step) (vec_items r.log.now) (vec_items r'.log.now) came kept
