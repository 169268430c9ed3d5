-- Turning every bit over twice gives the block again.
use Rattle.std.specs.Prelude.{◌≡◌, ℕ, zero, suc, List, replicate, refl}
use Rattle.std.proofs.Common.{lit<}
use Rattle.block.specs.Bytes.{AreBytes, IsBlock}
use Rattle.block.proofs.ByteLaws.{⊕_undoes_itself, block_⊕}
use Rattle.client.specs.Complement.{turned}

ones_bytes : (n : ℕ) → AreBytes (replicate n 0xff)
ones_bytes zero i = lit< tt
ones_bytes (suc n) zero = lit< tt
ones_bytes (suc n) (suc i) = ones_bytes n i

pub turned_twice : (x : List ℕ) → IsBlock x → turned (turned x) ≡ x
turned_twice x h = ⊕_undoes_itself x (replicate 32 0xff) h.long

pub turned_block : (x : List ℕ) → IsBlock x → IsBlock (turned x)
turned_block x h = block_⊕ x (replicate 32 0xff) h (record { long = refl; bytes = ones_bytes 32 })
