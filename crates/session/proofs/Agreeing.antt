-- Ends that are set up alike do the same.
use Rattle.std.proofs.Common.{◌≡◌, ℕ, ◌<◌, Bool, true, false, cond, not, ◌||◌, ltb, List, [], ◌∷◌, ◌++◌, length, take, drop, sym, refl, ap, ◌∙◌, subst, ap₂, arith, lit<, length-drop, length-take-le}
use Rattle.std.specs.Str.{bytes_eq}
use Rattle.std.proofs.lemmas.Bool.{ltb-false}
use Rattle.block.specs.Bytes.{AreBytes, IsBlock, ◌⊕◌, filled}
use Rattle.block.specs.Refusals.{Ground, ◌when◌}
use Rattle.block.proofs.ByteLaws.{bytes_zeros, bytes_take, bytes_drop}
use Rattle.milenage.specs.Question.{Question, input}
use Rattle.milenage.specs.Blocks.{temp, answer, block, output, trace_of}
use Rattle.milenage.specs.Grounds.{question_grounds}
use Rattle.aka.specs.declared.sizes.ResyncMask.{ResyncMask}
use Rattle.aka.specs.declared.sizes.ResyncMask.TheVariants.{F5Star, F5StarStar}
use Rattle.aka.specs.declared.sizes.Sizes.{Sizes}
use Rattle.aka.specs.Numbers.{exceeds}
use Rattle.aka.specs.Setup.{Setup, SoundSetup, Alike, keyed, ask, f1, mask_by, ak_star, mac_s}
use Rattle.aka.specs.Tokens.{auts, answers, answers_size, autn_size, auts_size, autn_amf, autn_mac, autn_number}
use Rattle.aka.specs.States.{traced, accepted, refused, Done, unless}
use Rattle.aka.specs.Calls.{differs, short_scratch, does_receive, does_trace}
use Rattle.session.specs.Log.{Pair, Call, challenge, confirm, resync, lapse, receive, trace, network, card, Entry, at_card, at_neither, does, Handed, Session}
use Rattle.session.proofs.Refusing.{Pass, unless_agree, differs_false}
use Rattle.session.proofs.Asked
use Rattle.session.proofs.Asked.{Fine, asks}
use Rattle.session.proofs.Steps
use Rattle.session.proofs.Steps.{Stands, NumberStands, received}
use Rattle.session.proofs.Sessions.{then}

abbrev pub trace_grounds : ℕ → List ℕ → ℕ → List ℕ → ℕ → ℕ → List Ground
trace_grounds index rand size carried room scratch =
    question_grounds index (length rand) size (length carried) ((12 when (ltb room 192 || short_scratch scratch)) ∷ [])

abbrev pub traced_by : Setup → List ℕ → Question → Done (Unit {0})
traced_by s rand q = record { yields = traced; writes = trace_of (keyed s) rand q; writes_auts = []; after = tt }

-- a question that no ground refuses
pub trace_fine : (index : ℕ) (rand : List ℕ) (size : ℕ) (carried : List ℕ) (room scratch : ℕ) → AreBytes carried
    → Pass (trace_grounds index rand size carried room scratch) → Fine (asks index rand size carried)
trace_fine index rand size carried room scratch b u =
    record {
      admissible = record { index = omega (arith, ltb-false 7 index u.0); rand = u.1.1.0; size = u.1.0; carried = u.1.1.1.0 };
      bytes = b;
    }

-- what is done, and the last ground, matter only where the grounds before do not hold
receive_grounds_agree : {S : Type 0} (a b c d d' : Bool) (p : S) (e e' : Done S) → (a ≡ false → c ≡ false → (d ≡ d') × (e ≡ e'))
    → unless ((9 when a) ∷ (12 when b) ∷ (15 when c) ∷ (16 when d) ∷ []) p e ≡ unless ((9 when a) ∷ (12 when b) ∷ (15 when c) ∷ (16 when d') ∷ []) p e'
receive_grounds_agree true b c d d' p e e' h = refl
receive_grounds_agree false true c d d' p e e' h = refl
receive_grounds_agree false false true d d' p e e' h = refl
receive_grounds_agree {S} false false false d d' p e e' h =
    let u = h refl refl in ap₂ (λ (x : Bool) (y : Done S). unless ((16 when x) ∷ []) p y) u.0 u.1

module _ (s : Setup) (ok : SoundSetup s) (blocks : (x : List ℕ) → IsBlock x → IsBlock (s.forth x))
    (g : List ℕ → List ℕ) (same : (x : List ℕ) → IsBlock x → s.forth x ≡ g x) where
  -- the setup with another forth, which agrees on blocks
  abbrev pub other : Setup
  other = record { forth = g; opc = s.opc; constants = s.constants; sizes = s.sizes }

  module _ (r : List ℕ) (b : AreBytes r) where
    temp_agrees : temp (keyed other) r ≡ temp (keyed s) r
    unfolding temp
    temp_agrees = ap (λ (x : List ℕ). x ⊕ s.opc) (sym (same _ (Asked.first_is_block s ok blocks r b)))

    second_agrees : (q : Question) → Fine q → g (temp (keyed s) r ⊕ input s.constants q) ≡ s.forth (temp (keyed s) r ⊕ input s.constants q)
    second_agrees q f = sym (same _ (Asked.second_is_block s ok blocks r b q f))

    block_agrees : (q : Question) → Fine q → block (keyed other) r q ≡ block (keyed s) r q
    unfolding block answer
    block_agrees q f =
        ap (λ (x : List ℕ). g (x ⊕ input s.constants q) ⊕ s.opc) temp_agrees ∙ ap (λ (x : List ℕ). x ⊕ s.opc) (second_agrees q f)

    ask_agrees : (i n : ℕ) (m : List ℕ) → Fine (asks i r n m) → ask other i r n m ≡ ask s i r n m
    unfolding ask output
    ask_agrees i n m f = ap (λ (x : List ℕ). take n x) (block_agrees (asks i r n m) f)

    trace_agrees : (q : Question) → Fine q → trace_of (keyed other) r q ≡ trace_of (keyed s) r q
    unfolding trace_of
    trace_agrees q f =
        let one : g (filled r ⊕ s.opc) ≡ s.forth (filled r ⊕ s.opc) = sym (same _ (Asked.first_is_block s ok blocks r b)) in
        cc (one, temp_agrees, second_agrees q f, block_agrees q f)

    -- at a RAND of its size
    module _ (long : length r ≡ s.sizes.rand) where
      answers_agree : answers other r ≡ answers s r
      unfolding answers
      answers_agree =
          cc (
            ask_agrees 2 s.sizes.res [] (Asked.fine_f2 s ok r long),
            ask_agrees 3 s.sizes.ck [] (Asked.fine_f3 s ok r long),
            ask_agrees 4 s.sizes.ik [] (Asked.fine_f4 s ok r long),
          )

      number_agrees : (a : List ℕ) → autn_number other r a ≡ autn_number s r a
      unfolding autn_number
      number_agrees a = ap (λ (x : List ℕ). take s.sizes.sqn a ⊕ x) (ask_agrees 5 s.sizes.ak [] (Asked.fine_f5 s ok r long))

      mac_agrees : (i : ℕ) → i < 2 → (amf sqn : List ℕ) → length amf ≡ 2 → AreBytes amf → NumberStands s sqn
          → ask other i r s.sizes.mac (amf ++ sqn) ≡ ask s i r s.sizes.mac (amf ++ sqn)
      mac_agrees i h amf sqn l c w = ask_agrees i s.sizes.mac (amf ++ sqn) (Asked.fine_mac s ok r long i h amf sqn l c w.long w.bytes)

      mask_agrees : (k : ResyncMask) (mac : List ℕ) → length mac ≡ s.sizes.mac → AreBytes mac → mask_by k other r mac ≡ mask_by k s r mac
      mask_agrees F5Star mac l c = ask_agrees 6 s.sizes.ak [] (Asked.fine_f5* s ok r long)
      mask_agrees F5StarStar mac l c = ask_agrees 7 s.sizes.ak mac (Asked.fine_f5** s ok r long mac l c)

      auts_agree : (own : List ℕ) → NumberStands s own → auts other r own ≡ auts s r own
      unfolding auts ak_star mac_s
      auts_agree own w =
          let zero-amf : AreBytes (0 ∷ 0 ∷ []) = bytes_zeros 2 in
          let mac : List ℕ = ask s 0 r s.sizes.mac (0 ∷ 0 ∷ own) in
          let made : ask other 0 r s.sizes.mac (0 ∷ 0 ∷ own) ≡ mac = mac_agrees 0 (lit< tt) (0 ∷ 0 ∷ []) own refl zero-amf w in
          let fine : Fine (asks 0 r s.sizes.mac (0 ∷ 0 ∷ own)) = Asked.fine_mac s ok r long 0 (lit< tt) (0 ∷ 0 ∷ []) own refl zero-amf w.long w.bytes in
          ap (λ (x : List ℕ). (own ⊕ mask_by s.sizes.resync other r x) ++ x) made
          ∙ ap (λ (x : List ℕ). (own ⊕ x) ++ mac)
          (mask_agrees s.sizes.resync mac (Asked.length_ask s ok 0 s.sizes.mac r (0 ∷ 0 ∷ own) ok.sizes.mac.1)
          (Asked.bytes_ask s ok blocks 0 s.sizes.mac r (0 ∷ 0 ∷ own) b fine))

  pub receive_agrees : (own : List ℕ) → NumberStands s own → (rand token : List ℕ) (room auts_room scratch : ℕ) → AreBytes rand → AreBytes token
      → does_receive other own rand token room auts_room scratch ≡ does_receive s own rand token room auts_room scratch
  unfolding does_receive
  receive_agrees own w rand token room auts_room scratch b c =
      receive_grounds_agree (differs rand s.sizes.rand) (ltb room (answers_size s.sizes) || (ltb auts_room (auts_size s.sizes) || short_scratch scratch))
      (differs token (autn_size s.sizes))
      (not (bytes_eq (f1 other rand (autn_amf s.sizes token) (autn_number other rand token)) (autn_mac s.sizes token)))
      (not (bytes_eq (f1 s rand (autn_amf s.sizes token) (autn_number s rand token)) (autn_mac s.sizes token)))
      own (received other own rand token) (received s own rand token)
      (λ p q.
      let long = differs_false rand s.sizes.rand p in
      let l = differs_false token (autn_size s.sizes) q in
      let amf : List ℕ = autn_amf s.sizes token in
      let sqn : List ℕ = autn_number s rand token in
      let is : autn_number other rand token ≡ sqn = number_agrees rand b long token in
      let two : length amf ≡ 2 = length-take-le 2 (drop s.sizes.sqn token) (simp length-drop (omega arith)) in
      let stands : NumberStands s sqn = record { long = Asked.length_autn_number s ok rand token l; bytes = Asked.bytes_autn_number s ok blocks rand long b token c } in
      let mac : f1 other rand amf (autn_number other rand token) ≡ f1 s rand amf sqn =
      ap (f1 other rand amf) is
      ∙ mac_agrees rand b long 1 (lit< tt) amf sqn two (bytes_take 2 (drop s.sizes.sqn token) (bytes_drop s.sizes.sqn token c)) stands in (
        ap (λ (x : List ℕ). not (bytes_eq x (autn_mac s.sizes token))) mac,
        ap (λ (x : List ℕ). done x (answers other rand) (auts other rand own)) is
            ∙ ap₂ (λ (y z : List ℕ). done sqn y z) (answers_agree rand b long) (auts_agree rand b long own w),
      ))
    where
      done : List ℕ → List ℕ → List ℕ → Done (List ℕ)
      done x y z =
          cond (exceeds x own)
          (record { yields = accepted; writes = y; writes_auts = []; after = x })
          (record { yields = refused 17; writes = []; writes_auts = z; after = own })

  pub does_trace_agrees : (index : ℕ) (rand : List ℕ) (size : ℕ) (carried : List ℕ) (room scratch : ℕ) → AreBytes rand → AreBytes carried
      → does_trace other index rand size carried room scratch ≡ does_trace s index rand size carried room scratch
  unfolding does_trace
  does_trace_agrees index rand size carried room scratch b c =
      let q = asks index rand size carried in
      unless_agree (trace_grounds index rand size carried room scratch) tt (traced_by other rand q) (traced_by s rand q) refl
      (λ u. ap (λ (x : List ℕ). record { yields = traced; writes = x; writes_auts = []; after = tt })
      (trace_agrees rand b q (trace_fine index rand size carried room scratch c u)))

  does_agrees : (p : Pair) → Stands s p → (c : Call) → Handed c → does s other p c ≡ does s s p c
  does_agrees p w (challenge rand amf room scratch) h = refl
  does_agrees p w (confirm serial res) h = refl
  does_agrees p w (resync serial token scratch) h = refl
  does_agrees p w (lapse serial) h = refl
  does_agrees p w (receive rand token room auts_room scratch) h =
      ap (at_card p) (receive_agrees p.card w.card rand token room auts_room scratch h.0 h.1)
  does_agrees p w (trace network index rand size carried room scratch) h = refl
  does_agrees p w (trace card index rand size carried room scratch) h =
      ap (at_neither p) (does_trace_agrees index rand size carried room scratch h.0 h.1)

  session_agrees : (p : Pair) (log : List Entry) → Stands s p → Session s other p log → Session s s p log
  session_agrees p [] w h = tt
  session_agrees p (e ∷ es) w h =
      let n = h.0 in
      let same-done = does_agrees p w e.call n.handed in
      let P : Pair → Type 0 = λ x. Session s other x es in (
        record {
          handed = n.handed;
          yielded = n.yielded ∙ ap (λ (d : Done Pair). d.yields) same-done;
          wrote = n.wrote ∙ ap (λ (d : Done Pair). d.writes) same-done;
          wrote_auts = n.wrote_auts ∙ ap (λ (d : Done Pair). d.writes_auts) same-done;
        },
        session_agrees (then s s p e) es (Steps.moves s ok blocks p w e.call n.handed).stands (subst P (ap (λ (d : Done Pair). d.after) same-done) h.1),
      )

-- a session of ends that are set up alike is one of ends with one setup
pub one_setup : (s t : Setup) → SoundSetup s → ((x : List ℕ) → IsBlock x → IsBlock (s.forth x)) → Alike s t
    → (p : Pair) (log : List Entry) → Stands s p → Session s t p log → Session s s p log
one_setup s t ok blocks a p log w h =
    let is : t ≡ other s ok blocks t.forth a.forth =
    ap₂ (λ (x y : List ℕ). record { forth = t.forth; opc = x; constants = y; sizes = t.sizes }) (sym a.opc) (sym a.constants)
    ∙ ap (λ (z : Sizes). record { forth = t.forth; opc = s.opc; constants = s.constants; sizes = z }) (sym a.sizes) in
    session_agrees s ok blocks t.forth a.forth p log w (subst (λ (x : Setup). Session s x p log) is h)
