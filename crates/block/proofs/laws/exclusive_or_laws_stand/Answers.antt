use Rattle.block.proofs.ByteLaws.{⊕_undoes_itself, length_⊕, bytes_⊕, filled_⊕}
use Rattle.block.proofs.laws.exclusive_or_laws_stand.Goals as goal

pub returns : goal.returns
returns c = record { undoes_itself = ⊕_undoes_itself; long = length_⊕; stays_bytes = bytes_⊕; fills = filled_⊕ }
