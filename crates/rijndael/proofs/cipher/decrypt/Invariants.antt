use Rattle.std.proofs.Common.{◌≡◌, suc, length}
use Rattle.rijndael.specs.State.{table}
use Rattle.rijndael.specs.Cipher.{key, unrounds}
use Rattle.rijndael.proofs.cipher.decrypt.Given as goal

abbrev pub invariant-loop-k : goal.invariant-loop-k
invariant-loop-k l =
    (unrounds l.keys (length l.k-iterator.iter.rest.now) l.s ≡ unrounds l.keys 13 l.initial.s)
    × (l.k-iterator.iter.rest.now ≡ table (length l.k-iterator.iter.rest.now) (λ i. key l.keys (suc i)))
