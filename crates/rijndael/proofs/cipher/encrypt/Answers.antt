use Rattle.std.proofs.Common.{◌≡◌, ◌<◌, ℕ, suc, List, [], length, get_or, refl, ap, ◌∙◌, arith}
use Rattle.rijndael.specs.State.{sub, shift, mix, add}
use Rattle.rijndael.specs.StateLaws.{table_at}
use Rattle.rijndael.specs.Cipher.{key, round, rounds, encrypt}
use Rattle.rijndael.proofs.RoundKeys.{inner}
use Rattle.rijndael.proofs.cipher.encrypt.Goals as goal

step : (ks : List (List ℕ)) (n : ℕ) (k r s t : List (List ℕ)) → k ≡ key ks (suc n) → r ≡ rounds ks n s → t ≡ add k (mix (shift (sub r))) → t ≡ rounds ks (suc n) s
unfolding round rounds
step ks n k r s t d e f = f ∙ ap (λ (k : List (List ℕ)). add k (mix (shift (sub r)))) d ∙ ap (λ (r : List (List ℕ)). add (key ks (suc n)) (mix (shift (sub r)))) e

pub loop-k-init : goal.loop-k-init
unfolding rounds
loop-k-init c = refl

pub loop-k-preserved : goal.loop-k-preserved
loop-k-preserved c =
    let ks = c.args.keys.now in
    let i = c.loop-k.k-index in
    let e = inner ks _ c.split-round_keys.ensures in
    let l : i < 13 = omega (arith, ap length e, c.loop-k-test.true) in
    let t = ap (λ (t : List (List (List ℕ))). get_or t i []) e ∙ table_at 13 (λ i. key ks (suc i)) i [] l in
    step ks i _ _ _ _ t c.loop-k.invariant c.round-t.ensures ∙ ap (λ (j : ℕ). rounds ks j c.add-s.result) (omega arith)

pub returns : goal.returns
unfolding encrypt
returns c =
    let ks = c.args.keys.now in
    let e = inner ks _ c.split-round_keys.ensures in
    let n : c.loop-k.k-index ≡ 13 = omega (arith, ap length e, c.loop-k-test.false, c.loop-k.auto.k-index-end) in
    let a : get_or c.split-round_keys.result.now 0 [] ≡ key ks 0 = ap (λ (t : List (List (List ℕ))). get_or t 0 []) c.split-round_keys.ensures in
    let b : get_or c.split-round_keys.result.now 14 [] ≡ key ks 14 = ap (λ (t : List (List (List ℕ))). get_or t 14 []) c.split-round_keys.ensures in cc
