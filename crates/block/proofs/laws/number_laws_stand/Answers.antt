use Rattle.block.proofs.NumberLaws.{length_bytes_of, bytes_bytes_of, value_bytes_of, bytes_of_value, value_below}
use Rattle.block.proofs.laws.number_laws_stand.Goals as goal

pub returns : goal.returns
returns c = record { long = length_bytes_of; are_bytes = bytes_bytes_of; number_again = value_bytes_of; bytes_again = bytes_of_value; below = value_below }
