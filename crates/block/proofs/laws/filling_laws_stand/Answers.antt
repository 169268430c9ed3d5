use Rattle.block.proofs.ByteLaws.{length_filled, filled_zeros, bytes_filled}
use Rattle.block.proofs.laws.filling_laws_stand.Goals as goal

pub returns : goal.returns
returns c = record { long = length_filled; zeros_behind = filled_zeros; stays_bytes = bytes_filled }
