use Rattle.std.proofs.Common.{◌≡◌, ℕ, suc, ◌+◌, ◌-◌, ◌<◌, true, false, ltb, List, [], ◌∷◌, ◌++◌, length, get_or, take, refl, inl, inr, add-one, arith, length-set}
use Rattle.std.proofs.lemmas.Bool.Decides.{leb_tells}
use Rattle.std.proofs.lemmas.List.{take_more_set, take_all, get_or-take}
use Rattle.rijndael.specs.Schedule.{words, more, next, schedule}
use Rattle.rijndael.proofs.schedule.schedule.Goals as goal

-- word i looks only at the words before it
looks : (key : List ℕ) (i : ℕ) (ws : List (List ℕ)) → next key i (take i ws) ≡ next key i ws
unfolding next
looks key i ws = elim (leb_tells (suc i) 8) [
  | inl p ↦ let t : ltb i 8 ≡ true = p.0 in rw t
  | inr p ↦ let t : ltb i 8 ≡ false = p.0 in
      let a : get_or (take i ws) (i - 8) [] ≡ get_or ws (i - 8) [] = get_or-take i ws (i - 8) [] (omega arith) in
      let b : get_or (take i ws) (i - 1) [] ≡ get_or ws (i - 1) [] = get_or-take i ws (i - 1) [] (omega arith) in rw t (cc)
]

step : (key : List ℕ) (n : ℕ) → words key (n + 1) ≡ words key n ++ (next key n (words key n) ∷ [])
unfolding words more
step key n = rw add-one

pub loop-i-init : goal.loop-i-init
unfolding words
loop-i-init c = (refl, refl)

pub loop-i-preserved : goal.loop-i-preserved
loop-i-preserved c =
    let lt : c.loop-i.i < length c.loop-i.words = omega arith in
    let t = take_more_set c.loop-i.words c.loop-i.i c.next.result lt in
    let n = looks c.args.key.now c.loop-i.i c.loop-i.words in
    let s = step c.args.key.now c.loop-i.i in
    (simp length-set c.loop-i.invariant.0, cc)

pub returns : goal.returns
unfolding schedule
returns c =
    let e : c.loop-i.i ≡ 120 = omega arith in
    let a = take_all c.loop-i.i c.loop-i.words (omega arith) in cc
