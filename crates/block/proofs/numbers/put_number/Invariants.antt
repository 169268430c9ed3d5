use Rattle.std.proofs.Common.{◌≡◌, ◌-◌, ◌++◌, length, take, reverse}
use Rattle.block.specs.Numbers.{bytes_of}
use Rattle.block.proofs.numbers.put_number.Given as goal

abbrev pub invariant-loop-byte : goal.invariant-loop-byte
invariant-loop-byte l =
    bytes_of (length l.initial.out) l.n
    ≡ bytes_of (length l.initial.out - l.byte-index) l.rest ++ reverse (take l.byte-index l.out)
