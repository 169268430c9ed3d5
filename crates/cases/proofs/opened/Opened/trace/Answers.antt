use Rattle.std.proofs.Common.{◌≡◌, ℕ, Bool, true, false, cond, List, length, refl, ap, ◌∙◌, arith}
use Rattle.block.specs.Bytes.{over, zeros}
use Rattle.milenage.specs.Blocks.{trace_of}
use Rattle.milenage.specs.Calls.{asked}
use Rattle.aka.specs.Setup.{Setup, keyed}
use Rattle.aka.specs.Views.{network_setup}
use Rattle.rijndael.specs.Cipher.{encrypt}
use Rattle.aka.specs.States.{Done, traced, refused, silent}
use Rattle.aka.specs.Calls.{does_trace}
use Rattle.cases.proofs.opened.Opened.trace.Goals as goal

-- a call that told a trace wrote what it writes where nothing stands against it
told-traced : {S : Type 0} (b : Bool) (d : Done S) (n : ℕ) (p : S) → traced ≡ (cond b d (silent (refused n) p)).yields → (cond b d (silent (refused n) p)).writes ≡ d.writes
told-traced true d n p h = refl
told-traced false d n p h = absurd (let z : ◌≡◌ {A = ℕ} 0 1 = cc in omega arith)

wrote-trace : (s : Setup) (index : ℕ) (rand : List ℕ) (size : ℕ) (carried : List ℕ) (room scratch : ℕ)
    → traced ≡ (does_trace s index rand size carried room scratch).yields
    → (does_trace s index rand size carried room scratch).writes ≡ trace_of (keyed s) rand (asked index (length rand) size carried)
unfolding does_trace
wrote-trace s index rand size carried room scratch h = told-traced _ _ _ _ h

pub returns : goal.returns
returns c =
    let shown = c.in_ok-trace.ensures.shows in
    let w = wrote-trace (network_setup (λ k. encrypt k.keys) c.args.self.now.end) c.index.result c.deref.result.now c.args.size c.carried.result.now 192 96 shown.told in
    let i = c.index.ensures in
    let r = c.deref.ensures.value in
    let a = c.deref-2.ensures.value in
    let k = c.carried.ensures in
    shown.wrote ∙ ap (λ t. over t (zeros 192)) w ∙ (cc)
