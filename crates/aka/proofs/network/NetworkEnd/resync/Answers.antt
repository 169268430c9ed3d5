use Rattle.std.proofs.Common.{◌≡◌, ℕ, ◌^◌, ◌<◌, Bool, false, not, ltb, List, length, take, Some, None, Err, sym, ap, ap₂, ◌∙◌, subst, rules}
use Rattle.std.specs.Result.{is_ok}
use Rattle.std.proofs.lemmas.Bool.{lt-ltb, le-ltb, not-false}
use Rattle.block.specs.declared.refusal.Refusal.TheVariants.{Mac}
use Rattle.block.specs.Numbers.{bytes_of}
use Rattle.aka.specs.Numbers.{exceeds}
use Rattle.aka.specs.Setup.{Setup}
use Rattle.aka.specs.Tokens.{auts_number}
use Rattle.aka.specs.States.{Network, stale, pending_rand}
use Rattle.aka.specs.Parts.{TellsAuts}
use Rattle.aka.specs.Grounds.{resync_ground}
use Rattle.aka.specs.Views.{network_setup, network_of, setup_at, rand_at}
use Rattle.aka.proofs.Stepping.{exceeds_bytes_of}
use Rattle.aka.proofs.Closed.{rand_of_open, spent_open, spent_number}
use Rattle.aka.proofs.Resumed.{shows_not_resynced, shows_wrong_mac_s, shows_raised, shows_kept}
use Rattle.aka.proofs.network.NetworkEnd.resync.Goals as goal

pub returns-in_err-temp-clause-shows : goal.returns-in_err-temp-clause-shows
returns-in_err-temp-clause-shows g c =
    let e = c.args.self.now in
    let f = c.close-closed.new.self in
    let s : Setup = network_setup g.K.Kernel.forth e in
    let p : Network = network_of e in
    let m : ℕ = c.spend.result in
    let u : List ℕ = c.args.auts.now in
    let t : ℕ = length c.args.scratch.now in
    let y : stale m p.pending ≡ not (is_ok c.close-closed.result) = c.close-closed.ensures.told in
    let gr : resync_ground f.core.admitted.sizes (not (is_ok c.close-closed.result)) (length u) t ≡ resync_ground s.sizes (stale m p.pending) (length u) t =
    ap₂ (λ (x : Setup) (b : Bool). resync_ground x.sizes b (length u) t) c.close-closed.ensures.setup (sym y) in
    let h : c.from_residual.result ≡ Err c.in_err-temp.field-0.0 = search rules in
    rw h (shows_not_resynced s p _ m c.args.ticket.serial u t c.in_err-temp.field-0.0 c.spend.ensures (c.in_err-temp.ensures ∙ gr) c.close-closed.ensures.left)

pub returns-in_err-number-clause-shows : goal.returns-in_err-number-clause-shows
returns-in_err-number-clause-shows g c =
    let e = c.args.self.now in
    let f = c.close-closed.new.self in
    let s : Setup = network_setup g.K.Kernel.forth e in
    let p : Network = network_of e in
    let m : ℕ = c.spend.result in
    let u : List ℕ = c.args.auts.now in
    let t : ℕ = length c.args.scratch.now in
    let y : stale m p.pending ≡ not (is_ok c.close-closed.result) = c.close-closed.ensures.told in
    let gr : resync_ground f.core.admitted.sizes (not (is_ok c.close-closed.result)) (length u) t ≡ resync_ground s.sizes (stale m p.pending) (length u) t =
    ap₂ (λ (x : Setup) (b : Bool). resync_ground x.sizes b (length u) t) c.close-closed.ensures.setup (sym y) in
    let may = c.in_ok-temp.ensures in
    let k : resync_ground s.sizes (stale m p.pending) (length u) t ≡ 0 = sym gr ∙ may.0 in
    let st : stale m p.pending ≡ false = y ∙ may.1 in
    let was : e.book.pending ≡ Some m = c.close-closed.ensures.was (not-false (is_ok c.close-closed.result) may.1) in
    let r : rand_at c.at-functions.result ≡ pending_rand p.pending =
    c.at-functions.ensures.rand ∙ ap (λ (x : Setup). take x.sizes.rand e.book.rand) c.close-closed.ensures.setup ∙ sym (rand_of_open s.sizes e.book.pending e.book.rand e.book.xres m was) in
    let set : setup_at g.K.Kernel.forth c.at-functions.result ≡ s = c.at-functions.ensures.setup ∙ c.close-closed.ensures.setup in
    let none : TellsAuts (setup_at g.K.Kernel.forth c.at-functions.result) (rand_at c.at-functions.result) u None = search rules in
    let h : TellsAuts s (pending_rand p.pending) u None =
    subst (λ (x : List ℕ). TellsAuts s x u None) r (subst (λ (x : Setup). TellsAuts x (rand_at c.at-functions.result) u None) set none) in
    let e : c.from_residual-in_err-number.result ≡ Err Mac = search rules in
    rw e (shows_wrong_mac_s s p _ m c.args.ticket.serial u t c.spend.ensures k h c.close-closed.ensures.left)

pub returns-then-number-self-clause-shows : goal.returns-then-number-self-clause-shows
returns-then-number-self-clause-shows g c =
    let e = c.args.self.now in
    let f = c.close-closed.new.self in
    let s : Setup = network_setup g.K.Kernel.forth e in
    let p : Network = network_of e in
    let m : ℕ = c.spend.result in
    let u : List ℕ = c.args.auts.now in
    let t : ℕ = length c.args.scratch.now in
    let y : stale m p.pending ≡ not (is_ok c.close-closed.result) = c.close-closed.ensures.told in
    let gr : resync_ground f.core.admitted.sizes (not (is_ok c.close-closed.result)) (length u) t ≡ resync_ground s.sizes (stale m p.pending) (length u) t =
    ap₂ (λ (x : Setup) (b : Bool). resync_ground x.sizes b (length u) t) c.close-closed.ensures.setup (sym y) in
    let may = c.in_ok-temp.ensures in
    let k : resync_ground s.sizes (stale m p.pending) (length u) t ≡ 0 = sym gr ∙ may.0 in
    let st : stale m p.pending ≡ false = y ∙ may.1 in
    let was : e.book.pending ≡ Some m = c.close-closed.ensures.was (not-false (is_ok c.close-closed.result) may.1) in
    let r : rand_at c.at-functions.result ≡ pending_rand p.pending =
    c.at-functions.ensures.rand ∙ ap (λ (x : Setup). take x.sizes.rand e.book.rand) c.close-closed.ensures.setup ∙ sym (rand_of_open s.sizes e.book.pending e.book.rand e.book.xres m was) in
    let set : setup_at g.K.Kernel.forth c.at-functions.result ≡ s = c.at-functions.ensures.setup ∙ c.close-closed.ensures.setup in
    let n : ℕ = c.in_ok-number.number in
    let some : TellsAuts (setup_at g.K.Kernel.forth c.at-functions.result) (rand_at c.at-functions.result) u (Some n) = search rules in
    let h : TellsAuts s (pending_rand p.pending) u (Some n) =
    subst (λ (x : List ℕ). TellsAuts s x u (Some n)) r (subst (λ (x : Setup). TellsAuts x (rand_at c.at-functions.result) u (Some n)) set some) in
    let j : ℕ = f.core.admitted.sizes.sqn in
    let jj : j ≡ s.sizes.sqn = ap (λ (x : Setup). x.sizes.sqn) c.close-closed.ensures.setup in
    let num : bytes_of j n ≡ auts_number s (pending_rand p.pending) u = ap (λ (i : ℕ). bytes_of i n) jj ∙ h.1 in
    let old : bytes_of j f.book.number ≡ p.number = ap (λ (x : Network). x.number) c.close-closed.ensures.left ∙ spent_number p m p.number in
    let q : exceeds (auts_number s (pending_rand p.pending) u) p.number ≡ ltb f.book.number n =
    ap₂ exceeds (sym num) (sym old) ∙ exceeds_bytes_of j n f.book.number (subst (λ (i : ℕ). n < 256 ^ i) (sym jj) h.2) f.numbered in
    let left : network_of f ≡ record { number = p.number; given = p.given; pending = None } = c.close-closed.ensures.left ∙ spent_open p m p.number st in
    shows_raised s p _ m c.args.ticket.serial u t c.spend.ensures k h.0 (q ∙ lt-ltb f.book.number n c.if-number-self.true) st
    (ap (λ (x : Network). record { number = bytes_of j n; given = x.given; pending = x.pending }) left ∙ ap (λ (x : List ℕ). record { number = x; given = p.given; pending = None }) num)

pub returns-clause-shows : goal.returns-clause-shows
returns-clause-shows g c =
    let e = c.args.self.now in
    let f = c.close-closed.new.self in
    let s : Setup = network_setup g.K.Kernel.forth e in
    let p : Network = network_of e in
    let m : ℕ = c.spend.result in
    let u : List ℕ = c.args.auts.now in
    let t : ℕ = length c.args.scratch.now in
    let y : stale m p.pending ≡ not (is_ok c.close-closed.result) = c.close-closed.ensures.told in
    let gr : resync_ground f.core.admitted.sizes (not (is_ok c.close-closed.result)) (length u) t ≡ resync_ground s.sizes (stale m p.pending) (length u) t =
    ap₂ (λ (x : Setup) (b : Bool). resync_ground x.sizes b (length u) t) c.close-closed.ensures.setup (sym y) in
    let may = c.in_ok-temp.ensures in
    let k : resync_ground s.sizes (stale m p.pending) (length u) t ≡ 0 = sym gr ∙ may.0 in
    let st : stale m p.pending ≡ false = y ∙ may.1 in
    let was : e.book.pending ≡ Some m = c.close-closed.ensures.was (not-false (is_ok c.close-closed.result) may.1) in
    let r : rand_at c.at-functions.result ≡ pending_rand p.pending =
    c.at-functions.ensures.rand ∙ ap (λ (x : Setup). take x.sizes.rand e.book.rand) c.close-closed.ensures.setup ∙ sym (rand_of_open s.sizes e.book.pending e.book.rand e.book.xres m was) in
    let set : setup_at g.K.Kernel.forth c.at-functions.result ≡ s = c.at-functions.ensures.setup ∙ c.close-closed.ensures.setup in
    let n : ℕ = c.in_ok-number.number in
    let some : TellsAuts (setup_at g.K.Kernel.forth c.at-functions.result) (rand_at c.at-functions.result) u (Some n) = search rules in
    let h : TellsAuts s (pending_rand p.pending) u (Some n) =
    subst (λ (x : List ℕ). TellsAuts s x u (Some n)) r (subst (λ (x : Setup). TellsAuts x (rand_at c.at-functions.result) u (Some n)) set some) in
    let j : ℕ = f.core.admitted.sizes.sqn in
    let jj : j ≡ s.sizes.sqn = ap (λ (x : Setup). x.sizes.sqn) c.close-closed.ensures.setup in
    let num : bytes_of j n ≡ auts_number s (pending_rand p.pending) u = ap (λ (i : ℕ). bytes_of i n) jj ∙ h.1 in
    let old : bytes_of j f.book.number ≡ p.number = ap (λ (x : Network). x.number) c.close-closed.ensures.left ∙ spent_number p m p.number in
    let q : exceeds (auts_number s (pending_rand p.pending) u) p.number ≡ ltb f.book.number n =
    ap₂ exceeds (sym num) (sym old) ∙ exceeds_bytes_of j n f.book.number (subst (λ (i : ℕ). n < 256 ^ i) (sym jj) h.2) f.numbered in
    shows_kept s p _ m c.args.ticket.serial u t c.spend.ensures k h.0 (q ∙ le-ltb f.book.number n c.if-number-self.false) c.close-closed.ensures.left
