use Rattle.std.proofs.Common.{◌≡◌, ℕ, false, ltb, List, length, Some, Err, sym, ap, ap₂, ◌∙◌, rules}
use Rattle.std.proofs.lemmas.Bool.{lt-ltb, le-ltb}
use Rattle.block.specs.Bytes.{over}
use Rattle.block.specs.Numbers.{bytes_of}
use Rattle.aka.specs.Numbers.{exceeds}
use Rattle.aka.specs.Setup.{Setup}
use Rattle.aka.specs.Tokens.{answers, auts, autn_number}
use Rattle.aka.specs.Parts.{right_mac_a, TellsAutn}
use Rattle.aka.specs.Views.{card_setup, card_number, setup_at, rand_at}
use Rattle.block.specs.declared.refusal.Refusal.TheVariants.{Mac}
use Rattle.aka.proofs.Stepping.{exceeds_bytes_of}
use Rattle.aka.proofs.Received.{shows_not_received, shows_wrong_mac, shows_accepted, shows_behind}
use Rattle.aka.proofs.card.CardEnd.receive.Goals as goal

pub returns-in_err-temp-clause-shows : goal.returns-in_err-temp-clause-shows
returns-in_err-temp-clause-shows g c =
    let e = c.args.self.now in
    let h : c.from_residual.result ≡ Err c.in_err-temp.field-0.0 = search rules in
    rw h (shows_not_received (card_setup g.K.Kernel.forth e) (card_number e) c.args.rand.now c.args.autn.now (length c.args.answer.now) (length c.args.auts.now) (length c.args.scratch.now)
    c.in_err-temp.field-0.0 c.args.answer.now c.args.auts.now c.in_err-temp.ensures)

pub returns-in_err-functions-clause-shows : goal.returns-in_err-functions-clause-shows
returns-in_err-functions-clause-shows g c =
    let e = c.args.self.now in
    let h : c.from_residual-in_err-functions.result ≡ Err Mac = search rules in
    let wrong : right_mac_a (card_setup g.K.Kernel.forth e) c.args.rand.now c.args.autn.now ≡ false = search rules in
    rw h (shows_wrong_mac (card_setup g.K.Kernel.forth e) (card_number e) c.args.rand.now c.args.autn.now (length c.args.answer.now) (length c.args.auts.now) (length c.args.scratch.now)
    c.args.answer.now c.args.auts.now c.in_ok-temp.ensures.0 wrong)

pub returns-then-number-self-clause-shows : goal.returns-then-number-self-clause-shows
returns-then-number-self-clause-shows g c =
    let e = c.args.self.now in
    let s : Setup = card_setup g.K.Kernel.forth e in
    let own : List ℕ = card_number e in
    let r : List ℕ = c.args.rand.now in
    let u : List ℕ = c.args.autn.now in
    let o : List ℕ = c.args.answer.now in
    let h : (setup_at g.K.Kernel.forth c.in_ok-functions.functions ≡ s) × (rand_at c.in_ok-functions.functions ≡ r) × TellsAutn s r u (Some c.in_ok-functions.number) = search rules in
    let q : exceeds (autn_number s r u) own ≡ ltb e.number c.in_ok-functions.number =
    ap (λ (x : List ℕ). exceeds x own) (sym h.2.1) ∙ exceeds_bytes_of s.sizes.sqn c.in_ok-functions.number e.number h.2.2 e.numbered in
    shows_accepted s own _ r u (length o) (length c.args.auts.now) (length c.args.scratch.now) o c.write_answers.new.out c.args.auts.now c.in_ok-temp.ensures.0 h.2.0
    (q ∙ lt-ltb e.number c.in_ok-functions.number c.if-number-self.true)
    (c.write_answers.ensures ∙ ap₂ (λ (x : Setup) (y : List ℕ). over (answers x y) o) h.0 h.1) h.2.1

pub returns-clause-shows : goal.returns-clause-shows
returns-clause-shows g c =
    let e = c.args.self.now in
    let s : Setup = card_setup g.K.Kernel.forth e in
    let own : List ℕ = card_number e in
    let r : List ℕ = c.args.rand.now in
    let u : List ℕ = c.args.autn.now in
    let o : List ℕ = c.args.auts.now in
    let h : (setup_at g.K.Kernel.forth c.in_ok-functions.functions ≡ s) × (rand_at c.in_ok-functions.functions ≡ r) × TellsAutn s r u (Some c.in_ok-functions.number) = search rules in
    let q : exceeds (autn_number s r u) own ≡ ltb e.number c.in_ok-functions.number =
    ap (λ (x : List ℕ). exceeds x own) (sym h.2.1) ∙ exceeds_bytes_of s.sizes.sqn c.in_ok-functions.number e.number h.2.2 e.numbered in
    shows_behind s own r u (length c.args.answer.now) (length o) (length c.args.scratch.now) c.args.answer.now o c.write_auts.new.out c.in_ok-temp.ensures.0 h.2.0
    (q ∙ le-ltb e.number c.in_ok-functions.number c.if-number-self.false)
    (c.write_auts.ensures ∙ ap₂ (λ (x : Setup) (y : List ℕ). over (auts x y (bytes_of x.sizes.sqn e.number)) o) h.0 h.1)
