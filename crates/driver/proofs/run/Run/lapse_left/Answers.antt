use Rattle.std.proofs.Common.{◌≡◌, ℕ, List, [], ◌∷◌, length, vec_len, MutBor, Vec, Ok, Err, Result, OnOk, sym, ap, ◌∙◌, arith}
use Rattle.std.specs.Result.{result_and}
use Rattle.std.proofs.lemmas.Result.{on_ok_weaker}
use Rattle.std.specs.Vec.Iter.{into_iter_items}
use Rattle.std.specs.declared.alloc.AllocError.{AllocError}
use Rattle.std.specs.declared.alloc.Global.{Global}
use Rattle.aka.specs.Setup.{Setup}
use Rattle.aka.specs.Views.{network_setup}
use Rattle.aka.specs.declared.ticket.Ticket.{Ticket}
use Rattle.driver.specs.Seen.{serials}
use Rattle.driver.specs.Runs.{network_in, log_in}
use Rattle.driver.proofs.Driving
use Rattle.driver.proofs.run.Run.lapse_left.Goals as goal

-- what two results come to that both have to be fine
both_ok : {P Q R : Type 0} (a b : Result (Unit {0}) AllocError) → OnOk a P → OnOk b Q → (P → Q → R) → OnOk (result_and a b) R
both_ok (Ok x) b p q f = on_ok_weaker b (f p) q
both_ok (Err e) b p q f = tt

none_held : (ts : List Ticket) → length ts ≡ 0 → serials ts ≡ []
none_held [] h = cc
none_held (x ∷ xs) h = absurd (omega arith)

pub loop-ticket-preserved : goal.loop-ticket-preserved
loop-ticket-preserved g c =
    let s : Setup = network_setup g.K.Kernel.forth c.args.self.now.network.now in
    let r = c.loop-ticket.self in
    let r' = c.note_lapse-noted.new.self in
    let first = ap serials c.in-Some.ensures.items in
    let held : List ℕ = serials (into_iter_items c.loop-ticket.left) in
    let behind : List ℕ = serials (into_iter_items c.next.new.self) in
    let inv = c.loop-ticket.invariant in
    let more = c.note_lapse-noted.ensures in
    record {
      same = record {
        named = more.same.named ∙ inv.same.named;
        setup = more.same.setup ∙ inv.same.setup;
        log_named = more.same.log_named ∙ inv.same.log_named;
        card = more.same.card ∙ inv.same.card;
        tickets_named = ap (λ (m : MutBor (Vec Ticket Global)). m.ghost_name) more.same.tickets ∙ inv.same.tickets_named;
        none_left = ap (λ (m : MutBor (Vec Ticket Global)). vec_len m.now) more.same.tickets ∙ inv.same.none_left;
      };
      ends = λ t k. Driving.ends_more s t k (network_in r) (network_in r') c.in-Some.ticket.serial held behind first more.left ∙ inv.ends t k;
      notes = rw c.and-all.ensures (both_ok c.loop-ticket.all c.note_lapse-noted.result inv.notes more.notes
          (λ so noted t k. Driving.notes_more s t k (network_in r) (network_in r') c.in-Some.ticket.serial held behind first more.left
          (log_in r) (log_in r') (noted s t k) ∙ so t k));
    }

pub returns-clause-ends : goal.returns-clause-ends
returns-clause-ends g c =
    let none : serials (into_iter_items c.loop-ticket.left) ≡ [] = none_held _ (omega (arith, c.loop-ticket.left.rest.ok.0, c.in_default.ensures.cases)) in
    λ t k. sym (Driving.none_left (network_setup g.K.Kernel.forth c.args.self.now.network.now) t k (network_in c.loop-ticket.self) _ none)
    ∙ c.loop-ticket.invariant.ends t k

pub returns-clause-notes : goal.returns-clause-notes
returns-clause-notes g c =
    let none : serials (into_iter_items c.loop-ticket.left) ≡ [] = none_held _ (omega (arith, c.loop-ticket.left.rest.ok.0, c.in_default.ensures.cases)) in
    on_ok_weaker c.loop-ticket.all
    (λ so t k. sym (Driving.none_noted (network_setup g.K.Kernel.forth c.args.self.now.network.now) t k (network_in c.loop-ticket.self) _ none _) ∙ so t k)
    c.loop-ticket.invariant.notes
