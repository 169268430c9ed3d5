use Rattle.std.proofs.Common.{◌≡◌, ℕ, suc, List, [], length, get_or, sym, ap, ◌∙◌, arith, subst}
use Rattle.std.proofs.lemmas.List.{length_push}
use Rattle.rijndael.specs.State.{table}
use Rattle.rijndael.specs.Cipher.{key, unround, unrounds, decrypt}
use Rattle.rijndael.proofs.RoundKeys.{inner, last}
use Rattle.rijndael.proofs.cipher.decrypt.Goals as goal

step : (ks : List (List ℕ)) (n m : ℕ) (s : List (List ℕ)) → n ≡ suc m → unrounds ks n s ≡ unrounds ks m (unround ks (suc m) s)
unfolding unrounds
step ks n m s e = rw e

none : (ks : List (List ℕ)) (n : ℕ) (s : List (List ℕ)) → n ≡ 0 → unrounds ks n s ≡ s
unfolding unrounds
none ks n s e = rw e

pub loop-k-init : goal.loop-k-init
loop-k-init c =
    let ks = c.args.keys.now in
    let e = inner ks _ c.split-round_keys.ensures in
    let a = c.into_iter-k-iterator.ensures.into_iter_gives in
    let b = c.rev-k-items.ensures.source in
    let d : c.into_iter-k-iterator.result.iter.rest.now ≡ table 13 (λ i. key ks (suc i)) = ap (λ r. r.iter.rest.now) a ∙ ap (λ r. r.rest.now) b ∙ c.iter.ensures.rest ∙ e in
    (ap (λ (t : List (List (List ℕ))). unrounds ks (length t) c.unsub-s.result) d, d ∙ ap (λ (t : List (List (List ℕ))). table (length t) (λ i. key ks (suc i))) (sym d))

pub loop-k-preserved : goal.loop-k-preserved
unfolding unround
loop-k-preserved c =
    let ks = c.args.keys.now in
    let a = c.in-Some.ensures.steps in
    let r = last (λ (i : ℕ). key ks (suc i)) c.next.new.self.iter.rest.now c.in-Some.k.now (subst (λ (t : List (List (List ℕ))). t ≡ table (length t) (λ i. key ks (suc i))) a c.loop-k.invariant.1) in
    let n : length c.loop-k.k-iterator.iter.rest.now ≡ suc (length c.next.new.self.iter.rest.now) = omega (arith, ap length a, length_push c.next.new.self.iter.rest.now c.in-Some.k.now) in
    let s = step ks _ _ c.loop-k.s n in
    let i = c.loop-k.invariant.0 in
    (cc, r.0)

pub returns : goal.returns
unfolding decrypt
returns c =
    let a : get_or c.split-round_keys.result.now 0 [] ≡ key c.args.keys.now 0 = ap (λ (t : List (List (List ℕ))). get_or t 0 []) c.split-round_keys.ensures in
    let b : get_or c.split-round_keys.result.now 14 [] ≡ key c.args.keys.now 14 = ap (λ (t : List (List (List ℕ))). get_or t 14 []) c.split-round_keys.ensures in
    let z = none c.args.keys.now _ c.loop-k.s c.in-None.ensures.steps.0 in
    let i = c.loop-k.invariant.0 in cc
