use Rattle.std.proofs.Common.{◌≡◌, ℕ, ◌+◌, List, length, take, Err, ap, ap₂, ◌∙◌, subst, arith, rules}
use Rattle.block.specs.Bytes.{over}
use Rattle.block.specs.Numbers.{bytes_of}
use Rattle.block.proofs.ByteLaws.{take_filled}
use Rattle.aka.specs.Setup.{Setup, f2}
use Rattle.aka.specs.Tokens.{vector}
use Rattle.aka.specs.Views.{network_setup, network_of, setup_at}
use Rattle.aka.proofs.Stepping.{power_below, next_bytes_of}
use Rattle.aka.proofs.Challenged.{shows_given, shows_not_given}
use Rattle.aka.proofs.network.NetworkEnd.challenge.Goals as goal

pub overflow_add-number : goal.overflow_add-number
overflow_add-number g c =
    let e = c.args.self.now in
    let p = power_below e.core.admitted.sizes.sqn e.core.admitted.sqn_high in
    let n = e.numbered in
    omega arith

pub returns-in_err-amf-clause-shows : goal.returns-in_err-amf-clause-shows
returns-in_err-amf-clause-shows g c =
    let e = c.args.self.now in
    let h : c.from_residual.result ≡ Err c.in_err-amf.field-0.0 = search rules in
    rw h (shows_not_given (network_setup g.K.Kernel.forth e) (network_of e) c.args.rand.now c.args.amf.now (length c.args.out.now) (length c.args.scratch.now) c.in_err-amf.field-0.0 c.args.out.now
    c.in_err-amf.ensures)

pub returns-clause-shows : goal.returns-clause-shows
returns-clause-shows g c =
    let e = c.args.self.now in
    let s : Setup = network_setup g.K.Kernel.forth e in
    let r : List ℕ = c.args.rand.now in
    let o : List ℕ = c.args.out.now in
    let m : ℕ = e.book.number + 1 in
    let may = c.in_ok-amf.ensures in
    let f = c.at.result in
    let x : take s.sizes.rand c.fill_block.result ≡ r =
    ap (λ (b : List ℕ). take s.sizes.rand b) c.fill_block.ensures ∙ take_filled s.sizes.rand r may.4 e.core.admitted.rand_high in
    let P : Setup → List ℕ → Type 0 = λ y z. take y.sizes.res c.write_vector-xres.result ≡ f2 y z in
    let v : P s r = subst (λ y. P y r) c.at.ensures.setup (subst (λ z. P (setup_at g.K.Kernel.forth f) z) c.at.ensures.rand c.write_vector-xres.ensures.value) in
    let a : c.write_vector-xres.new.out ≡ over (vector s r c.args.amf.now (bytes_of s.sizes.sqn m)) o =
    c.write_vector-xres.ensures.after
    ∙ ap₂ (λ (y : Setup) (z : List ℕ). over (vector y z c.in_ok-amf.amf (bytes_of y.sizes.sqn m)) o) c.at.ensures.setup c.at.ensures.rand
    ∙ ap (λ (z : List ℕ). over (vector s r z (bytes_of s.sizes.sqn m)) o) may.3 in
    shows_given s (network_of e) _ r c.args.amf.now (length o) (length c.args.scratch.now) c.issue.result.serial (bytes_of s.sizes.sqn m) o c.write_vector-xres.new.out may.0
    (next_bytes_of s.sizes.sqn e.book.number e.numbered) c.issue.ensures a (cc)
