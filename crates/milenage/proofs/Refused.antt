-- The grounds that are reported.
use Rattle.std.proofs.Common.{◌<◌, lit<}
use Rattle.block.specs.declared.refusal.Refusal.{Refusal}
use Rattle.block.specs.declared.refusal.Refusal.TheVariants.{Key, OperatorField, Constants, Name, Index, Size, Mask, Number, Rand, Amf, Carried, Buffer, Spent, Stale, Message, Mac, Behind}
use Rattle.block.specs.Refusals.{number}

-- a refusal's number is no 0
pub number_above_0 : (e : Refusal) → 0 < number e
number_above_0 Key = lit< tt
number_above_0 OperatorField = lit< tt
number_above_0 Constants = lit< tt
number_above_0 Name = lit< tt
number_above_0 Index = lit< tt
number_above_0 Size = lit< tt
number_above_0 Mask = lit< tt
number_above_0 Number = lit< tt
number_above_0 Rand = lit< tt
number_above_0 Amf = lit< tt
number_above_0 Carried = lit< tt
number_above_0 Buffer = lit< tt
number_above_0 Spent = lit< tt
number_above_0 Stale = lit< tt
number_above_0 Message = lit< tt
number_above_0 Mac = lit< tt
number_above_0 Behind = lit< tt
