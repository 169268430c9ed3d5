use Rattle.std.proofs.Common.{◌≡◌, length, take}
use Rattle.rijndael.specs.Schedule.{words}
use Rattle.rijndael.proofs.schedule.schedule.Given as goal

abbrev pub invariant-loop-i : goal.invariant-loop-i
invariant-loop-i l = (length l.words ≡ 120) × (take l.i l.words ≡ words l.key l.i)
