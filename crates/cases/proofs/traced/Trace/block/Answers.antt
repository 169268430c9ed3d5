use Rattle.std.proofs.Common.{◌≡◌, ℕ, ◌/◌, length, List, [], slice_index_or, refl, ap, ◌∙◌, arith}
use Rattle.std.specs.Simd.{first_chunks}
use Rattle.std.proofs.lemmas.List.{drop-drop}
use Rattle.cases.specs.Places.{placed}
use Rattle.cases.specs.declared.traced.Traced.{Traced}
use Rattle.cases.specs.declared.traced.Traced.TheVariants.{FirstInput, FirstOutput, In, SecondInput, SecondOutput, Answer}
use Rattle.cases.specs.contracts.traced.Traced.{the_type}
use Rattle.cases.proofs.traced.Trace.block.Goals as goal
use denote.Enum.Declared.{tag_of}

-- the chunk that a place's number counts is the block that begins at its start
chunk_at : (place : Traced) (xs : List ℕ) → slice_index_or (first_chunks 32 6 xs) (tag_of the_type place) [] ≡ placed place xs
chunk_at FirstInput xs = refl
chunk_at FirstOutput xs = refl
chunk_at In xs = search (drop-drop)
chunk_at SecondInput xs = search (drop-drop)
chunk_at SecondOutput xs = search (drop-drop)
chunk_at Answer xs = search (drop-drop)

pub returns : goal.returns
returns c =
    let place = c.args.place in
    let six : length c.args.self.now.blocks / 32 ≡ 6 = omega arith in
    ap (λ l. slice_index_or l (tag_of the_type place) []) c.as_chunks.ensures.front
    ∙ ap (λ n. slice_index_or (first_chunks 32 n c.args.self.now.blocks) (tag_of the_type place) []) six
    ∙ chunk_at place c.args.self.now.blocks
