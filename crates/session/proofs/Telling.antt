-- A traced answer block tells its question.
use Rattle.std.proofs.Common.{◌≡◌, ℕ, List, ◌∷◌, ◌++◌, drop, sym, refl, ap, ◌∙◌, subst, arith, length-append, drop_at}
use Rattle.block.specs.Bytes.{AreBytes, ◌⊕◌, filled}
use Rattle.milenage.specs.Question.{Question, input}
use Rattle.milenage.specs.Blocks.{temp, answer, block, trace_of}
use Rattle.milenage.proofs.QuestionLaws.{input_tells, input_same}
use Rattle.milenage.proofs.BlockLaws.{answer_tells, temp_same}
use Rattle.aka.specs.Setup.{Setup, SoundSetup, keyed}
use Rattle.aka.specs.States.{traced, Done}
use Rattle.aka.specs.Calls.{does_trace}
use Rattle.session.specs.Log.{Pair, End, network, card, trace, Entry, at_neither, does, Handed, Notes, Session}
use Rattle.session.specs.Laws.{Traces, Holds, EqualBlocksSameQuestionInLog, Undo}
use Rattle.session.proofs.Refusing.{unless_yields}
use Rattle.session.proofs.Asked
use Rattle.session.proofs.Asked.{Fine, asks}
use Rattle.session.proofs.Agreeing.{trace_grounds, traced_by, trace_fine}
use Rattle.session.proofs.Sessions.{session_rest}

module _ (s : Setup) (ok : SoundSetup s) (back : List ℕ → List ℕ) (undo : Undo s.forth back) where
  last_block : (r : List ℕ) → AreBytes r → (q : Question) → Fine q → drop 160 (trace_of (keyed s) r q) ≡ block (keyed s) r q
  unfolding trace_of
  last_block r b q f =
      let x = filled r ⊕ s.opc in
      let y = temp (keyed s) r ⊕ input s.constants q in
      let hx = Asked.first_is_block s ok undo.forth_block r b in
      let hy = Asked.second_is_block s ok undo.forth_block r b q f in
      drop_at (x ++ s.forth x ++ input s.constants q ++ y ++ s.forth y) (block (keyed s) r q) 160
      (simp length-append
      (omega (arith, hx.long, (undo.forth_block x hx).long, (Asked.input_is_block s ok q f).long, hy.long, (undo.forth_block y hy).long)))

  -- what an entry that traces tells
  record Answered (r : List ℕ) (q : Question) (b : List ℕ) : Type 0 where
    rand_bytes : AreBytes r
    fine : Fine q
    is : b ≡ answer (keyed s) (temp (keyed s) r) (input s.constants q)

  one_end : (p : Pair) (end : End) (index : ℕ) (r : List ℕ) (size : ℕ) (carried : List ℕ) (room scratch : ℕ)
      → does s s p (trace end index r size carried room scratch) ≡ at_neither p (does_trace s index r size carried room scratch)
  one_end p network index r size carried room scratch = refl
  one_end p card index r size carried room scratch = refl

  traces_is : (p : Pair) (e : Entry) (r : List ℕ) (q : Question) (b : List ℕ) → Notes s s p e → Traces e r q b → Answered r q b
  unfolding does_trace block
  traces_is p e r q b n t =
      let c = ap (does s s p) t.call ∙ one_end p t.end q.index r q.size q.carried t.room t.scratch in
      let asked : Question = asks q.index r q.size q.carried in
      let same : asked ≡ q = ap (λ k. record { index = q.index; rand_size = k; size = q.size; carried = q.carried }) t.rand_size in
      let u = unless_yields (trace_grounds q.index r q.size q.carried t.room t.scratch) tt (traced_by s r asked) refl traced
      (ap (λ (d : Done Pair). d.yields) (sym c) ∙ sym n.yielded ∙ t.yielded) tt in
      let h = subst Handed t.call n.handed in
      let f : Fine asked = trace_fine q.index r q.size q.carried t.room t.scratch h.1 u.1 in
      record {
        rand_bytes = h.0;
        fine = subst Fine same f;
        is = sym t.wrote
            ∙ ap (λ (l : List ℕ). drop 160 l) (n.wrote ∙ ap (λ (d : Done Pair). d.writes) c ∙ ap (λ (d : Done (Unit {0})). d.writes) u.0)
            ∙ last_block r h.0 asked f ∙ ap (block (keyed s) r) same;
      }

  at : (p : Pair) (log : List Entry) (e : Entry) (r : List ℕ) (q : Question) (b : List ℕ) → Session s s p log → Holds log e → Traces e r q b → Answered r q b
  at p log e r q b h x t =
      let P : List Entry → Type 0 = λ l. Session s s p l in traces_is _ e r q b (session_rest s s p x.0 (e ∷ x.1) (subst P x.2 h)).0 t

  pub equal_blocks_same_question : (p : Pair) (log : List Entry) → Session s s p log → EqualBlocksSameQuestionInLog log
  equal_blocks_same_question p log h e f rand rand' q r b b' x y t t' filled-same =
      let m = at p log e rand q b h x t in
      let n = at p log f rand' r b' h y t' in
      let T : List ℕ = temp (keyed s) rand in
      let one : T ≡ temp (keyed s) rand' = temp_same (keyed s) rand rand' filled-same in
      let is' : b' ≡ answer (keyed s) T (input s.constants r) = n.is ∙ ap (λ (z : List ℕ). answer (keyed s) z (input s.constants r)) (sym one) in (
        (λ i. input_tells s.constants q r ok.constants_long m.fine.admissible n.fine.admissible
            (answer_tells (keyed s) back undo.forth_block undo.back_forth T (input s.constants q) (input s.constants r)
            (Asked.temp_is_block s ok undo.forth_block rand m.rand_bytes) (Asked.input_is_block s ok q m.fine) (Asked.input_is_block s ok r n.fine)
            (sym m.is ∙ i ∙ is'))),
        (λ i. m.is ∙ ap (answer (keyed s) T) (input_same s.constants q r i) ∙ sym is'),
      )
