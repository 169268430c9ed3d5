-- The six blocks of a trace, by their places.
use Rattle.std.specs.Prelude.{ℕ, List, take, drop, codes}
use Rattle.cases.specs.declared.traced.Traced.{Traced}
use Rattle.cases.specs.declared.traced.Traced.TheVariants.{FirstInput, FirstOutput, In, SecondInput, SecondOutput, Answer}

-- where a block begins
abbrev pub start_of : Traced → ℕ
start_of FirstInput = 0
start_of FirstOutput = 32
start_of In = 64
start_of SecondInput = 96
start_of SecondOutput = 128
start_of Answer = 160

-- the block at a place
abbrev pub placed : Traced → List ℕ → List ℕ
placed place trace = take 32 (drop (start_of place) trace)

-- what a block is called in print
abbrev pub label_of : Traced → List ℕ
label_of FirstInput = codes "PRF_in1"
label_of FirstOutput = codes "PRF_out1"
label_of In = codes "IN"
label_of SecondInput = codes "PRF_in2"
label_of SecondOutput = codes "PRF_out2"
label_of Answer = codes "block"
