-- Answer blocks, and what they tell.
use Rattle.std.proofs.Common.{◌≡◌, ℕ, ◌≤◌, List, [], ◌∷◌, ◌++◌, length, drop, sym, refl, ap, ◌∙◌, append_assoc, append-nil, arith, length-append}
use Rattle.std.specs.List.{concat}
use Rattle.std.proofs.lemmas.List.{drop_at, length-take-le}
use Rattle.block.specs.Bytes.{AreBytes, IsBlock, ◌⊕◌, filled}
use Rattle.block.proofs.ByteLaws.{length_⊕, ⊕_comm, ⊕_apart, block_⊕, block_filled}
use Rattle.milenage.specs.declared.question.Question.{Question as Held}
use Rattle.milenage.specs.Question.{Question, Admissible, input}
use Rattle.milenage.specs.Blocks.{Keyed, temp, answer, block, output, trace_of}
use Rattle.milenage.specs.Calls.{Tells, input_of}
use Rattle.milenage.specs.Laws.{Sound}
use Rattle.milenage.proofs.QuestionLaws.{block_input, told_input}

-- ── lengths ──

pub length_temp : (m : Keyed) (rand : List ℕ) → length m.opc ≡ 32 → 32 ≤ length (temp m rand)
unfolding temp
length_temp m rand h = omega (arith, length_⊕ (m.forth (filled rand ⊕ m.opc)) m.opc)

pub length_answer : (m : Keyed) (t inn : List ℕ) → length m.opc ≡ 32 → 32 ≤ length (answer m t inn)
unfolding answer
length_answer m t inn h = omega (arith, length_⊕ (m.forth (t ⊕ inn)) m.opc)

pub length_block : (m : Keyed) (rand : List ℕ) (q : Question) → length m.opc ≡ 32 → 32 ≤ length (block m rand q)
unfolding block
length_block m rand q h = length_answer m (temp m rand) (input m.constants q) h

pub length_output : (m : Keyed) (rand : List ℕ) (q : Question) → length m.opc ≡ 32 → q.size ≤ 32 → length (output m rand q) ≡ q.size
unfolding output
length_output m rand q h k = length-take-le q.size (block m rand q) (omega (arith, length_block m rand q h))

-- ── blocks, where forth takes blocks to blocks ──

pub block_temp : (m : Keyed) → ((x : List ℕ) → IsBlock x → IsBlock (m.forth x)) → IsBlock m.opc
    → (rand : List ℕ) → AreBytes rand → IsBlock (temp m rand)
unfolding temp
block_temp m f o rand h = block_⊕ _ _ (f _ (block_⊕ _ _ (block_filled rand h) o)) o

pub block_answer : (m : Keyed) → ((x : List ℕ) → IsBlock x → IsBlock (m.forth x)) → IsBlock m.opc
    → (t inn : List ℕ) → IsBlock t → IsBlock inn → IsBlock (answer m t inn)
unfolding answer
block_answer m f o t inn h k = block_⊕ _ _ (f _ (block_⊕ t inn h k)) o

pub block_block : (m : Keyed) → ((x : List ℕ) → IsBlock x → IsBlock (m.forth x)) → Sound m
    → (rand : List ℕ) (q : Question) → AreBytes rand → Admissible q → AreBytes q.carried → IsBlock (block m rand q)
unfolding block
block_block m f s rand q h a c =
    block_answer m f s.opc (temp m rand) (input m.constants q) (block_temp m f s.opc rand h)
    (block_input m.constants q s.constants_long s.constants_bytes a c)

-- ── what an answer block tells ──

-- at one TEMP, equal answer blocks come from equal INs
pub answer_tells : (m : Keyed) (back : List ℕ → List ℕ) → ((x : List ℕ) → IsBlock x → IsBlock (m.forth x))
    → ((x : List ℕ) → IsBlock x → back (m.forth x) ≡ x) → (t inn inn' : List ℕ) → IsBlock t → IsBlock inn → IsBlock inn'
    → answer m t inn ≡ answer m t inn' → inn ≡ inn'
unfolding answer
answer_tells m back f undone t inn inn' ht h h' e =
    let x : List ℕ = t ⊕ inn in
    let y : List ℕ = t ⊕ inn' in
    let hx : IsBlock x = block_⊕ t inn ht h in
    let hy : IsBlock y = block_⊕ t inn' ht h' in
    let s : m.forth x ≡ m.forth y = ⊕_apart (m.forth x) (m.forth y) m.opc ((f x hx).long ∙ sym (f y hy).long) e in
    let i : x ≡ y = sym (undone x hx) ∙ ap back s ∙ undone y hy in
    ⊕_apart inn inn' t (h.long ∙ sym h'.long) (⊕_comm inn t ∙ i ∙ ⊕_comm t inn')

-- RANDs that agree once filled have one TEMP
pub temp_same : (m : Keyed) (rand rand' : List ℕ) → filled rand ≡ filled rand' → temp m rand ≡ temp m rand'
unfolding temp
temp_same m rand rand' e = ap (λ (x : List ℕ). m.forth (x ⊕ m.opc) ⊕ m.opc) e

-- ── the trace ──

-- the trace ends with the answer block
pub trace_ends : (m : Keyed) → ((x : List ℕ) → IsBlock x → IsBlock (m.forth x)) → Sound m
    → (rand : List ℕ) (q : Question) → AreBytes rand → Admissible q → AreBytes q.carried → drop 160 (trace_of m rand q) ≡ block m rand q
unfolding trace_of
trace_ends m f s rand q h a c =
    let x : List ℕ = filled rand ⊕ m.opc in
    let inn : List ℕ = input m.constants q in
    let y : List ℕ = temp m rand ⊕ inn in
    let hx : IsBlock x = block_⊕ (filled rand) m.opc (block_filled rand h) s.opc in
    let hi : IsBlock inn = block_input m.constants q s.constants_long s.constants_bytes a c in
    let hy : IsBlock y = block_⊕ (temp m rand) inn (block_temp m f s.opc rand h) hi in
    drop_at (x ++ m.forth x ++ inn ++ y ++ m.forth y) (block m rand q) 160
    (simp length-append (omega (arith, hx.long, (f x hx).long, hi.long, hy.long, (f y hy).long)))

-- the six blocks as a computation makes them, from TEMP and what the code holds of a question
pub trace_made : (m n : Keyed) (rand t inn : List ℕ) (h : Held) (q : Question) → Tells h q → n ≡ m
    → t ≡ m.forth (filled rand ⊕ m.opc) ⊕ m.opc → inn ≡ input_of m.constants h
    → concat
    ((filled rand ⊕ m.opc)
    ∷ m.forth (filled rand ⊕ m.opc)
    ∷ inn
    ∷ (t ⊕ input_of n.constants h)
    ∷ n.forth (t ⊕ input_of n.constants h)
    ∷ answer n t (input_of n.constants h)
    ∷ [])
    ≡ trace_of m rand q
unfolding trace_of temp block
trace_made m n rand t inn h q held same e i =
    rw (same, e, i, told_input m.constants h q held) (simp (append_assoc, append-nil) refl)
