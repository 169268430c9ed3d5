use Rattle.std.proofs.Common.{◌≡◌, Bool, true, false, ◌&&◌, T, List, [], ◌∷◌, Decides, refl}
use Rattle.std.specs.Str.{bytes_eq}
use Rattle.std.proofs.lemmas.Slice.Eq.{bytes_eq-Decides}
use Rattle.field.specs.Field.{xtime, product, mul, power, inverse, bit, affine_bit, of_bits, affine, s_box}
use Rattle.rijndael.specs.State.{mix_by}
use Rattle.rijndael.specs.Schedule.{doubled, xor_word, rot_word, sub_word, change, next, more, words}
use Rattle.aka.specs.Numbers.{next_number}
use Rattle.block.specs.Numbers.{bytes_of}
use Rattle.block.specs.Bytes.{◌⊕◌, filled}
use Rattle.milenage.specs.Functions.{kind_of}
use Rattle.milenage.specs.Question.{byte0, byte1, header, input}
use Rattle.milenage.specs.Blocks.{version_block}
use Rattle.examples.specs.Rows.{Row, rows, EveryRowYields}
use Rattle.examples.proofs.worked_examples_stand.Goals as goal

abbrev test : List Row → Bool
test [] = true
test (r ∷ rs) = bytes_eq r.yields r.published && test rs

left : (a b : Bool) → T (a && b) → T a
left true b t = tt
left false b t = t

right : (a b : Bool) → T (a && b) → T b
right true b t = t
right false b t = absurd t

from-decides : (b : Bool) (P : Type 0) → Decides b P → T b → P
from-decides true P d t = d.0 refl
from-decides false P d t = absurd t

tested : (rs : List Row) → T (test rs) → EveryRowYields rs
tested [] t = tt
tested (r ∷ rs) t =
    let same : Bool = bytes_eq r.yields r.published in
    (from-decides same (r.yields ≡ r.published) (bytes_eq-Decides r.yields r.published) (left same (test rs) t), tested rs (right same (test rs) t))

pub returns : goal.returns
unfolding xtime product mul power inverse bit affine_bit of_bits affine s_box mix_by doubled xor_word rot_word sub_word change next more words ◌⊕◌ filled kind_of byte0 byte1 header input version_block bytes_of next_number
returns c = tested rows tt
