use Rattle.std.proofs.Common.{◌≡◌}
use Rattle.rijndael.specs.Cipher.{rounds}
use Rattle.rijndael.proofs.cipher.encrypt.Given as goal

abbrev pub invariant-loop-k : goal.invariant-loop-k
invariant-loop-k l = l.s ≡ rounds l.keys l.k-index l.initial.s
