-- What a call wrote, once its buffers are cut.
use Rattle.std.proofs.Common.{◌≡◌, ℕ, ◌+◌, ◌<◌, Bool, true, false, eqb, List, [], ◌++◌, ap₂, length, take, drop, Some, Ok, Err, Result, sym, refl, ap, ◌∙◌, subst, arith, length-append, take_at}
use Rattle.block.specs.Bytes.{AreBytes, IsBlock, over, ◌⊕◌, filled}
use Rattle.block.proofs.ByteLaws.{length_⊕}
use Rattle.aka.specs.Numbers.{exceeds}
use Rattle.std.proofs.lemmas.Bool.{cond_both, eqb-true, eq-eqb, true≢false}
use Rattle.milenage.specs.Question.{Question, input}
use Rattle.milenage.specs.Blocks.{temp, trace_of}
use Rattle.milenage.proofs.BlockLaws.{block_block}
use Rattle.session.proofs.Asked.{Fine, asks}
use Rattle.session.proofs.Agreeing.{trace_grounds, traced_by, trace_fine}
use Rattle.std.specs.Prelude.{MatchResult}
use Rattle.block.specs.Refusals.{Ground, number}
use Rattle.block.specs.declared.refusal.Refusal.{Refusal}
use Rattle.block.specs.declared.refusal.Refusal.TheVariants.{Behind}
use Rattle.aka.specs.Numbers.{next_number}
use Rattle.aka.specs.Setup.{Setup, SoundSetup, keyed, f2, ak_star, mac_s}
use Rattle.aka.specs.Tokens.{vector, answers, auts, vector_size, answers_size, auts_size, autn_number}
use Rattle.aka.specs.States.{Network, Yield, issued, accepted, traced, refused, Done, silent, unless, Shows}
use Rattle.aka.specs.Calls.{does_challenge, does_receive, does_trace}
use Rattle.aka.specs.Grounds.{challenge_grounds}
use Rattle.session.proofs.Refusing
use Rattle.session.proofs.Asked
use Rattle.session.proofs.Steps
use Rattle.session.proofs.Counting
use Rattle.aka.specs.Told.{told_receive, told_trace}
use Rattle.driver.specs.declared.types.Outcome.{Outcome}
use Rattle.driver.specs.declared.types.Outcome.TheVariants.{Accepted, Traced}
use Rattle.driver.specs.Yields.{yield_of}
use Rattle.driver.specs.Called.{Wrote}

-- what was written at the front is what is left when the buffer is cut to its length
pub cut : (w before after : List ℕ) (n : ℕ) → after ≡ over w before → length w ≡ n → take n after ≡ w
cut w before after n h e = ap (take n) h ∙ take_at w (drop (length w) before) n e

-- what is left of a buffer whose front was handed out, and that is then cut
pub left : (out rest after : List ℕ) (room n m : ℕ) → length out ≡ room → m ≡ n → after ≡ take m (take room (out ++ rest)) → after ≡ take n out
left out rest after room n m long same h = h ∙ ap₂ take same (take_at out rest room long)

-- ── refusals write nothing ──

module _ {S : Type 0} (gs : List Ground) (p : S) (d : Done S) (listed : Refusing.listed gs ≡ true) where
  refused_silent : (n : ℕ) → (d.yields ≡ refused n → ⊥) → (unless gs p d).yields ≡ refused n
      → ((unless gs p d).writes ≡ []) × ((unless gs p d).writes_auts ≡ [])
  refused_silent n apart h =
      Refusing.unless_both gs p d (λ (x : Done S). x.yields ≡ refused n → (x.writes ≡ []) × (x.writes_auts ≡ [])) listed
      (λ _ e. absurd (apart e)) (λ _ _ _. (refl, refl)) h

  never_auts : d.writes_auts ≡ [] → (unless gs p d).writes_auts ≡ []
  never_auts h = Refusing.unless_both gs p d (λ (x : Done S). x.writes_auts ≡ []) listed (λ _. h) (λ _ _. refl)

-- ── challenge ──

module _ (s : Setup) (p : Network) (rand amf : List ℕ) (room scratch : ℕ) where
  abbrev grounds : List Ground
  grounds = challenge_grounds s.sizes p.number p.given (length rand) (length amf) room scratch

  abbrev given : Done Network
  given =
      record {
        yields = issued (p.given + 1);
        writes = vector s rand amf (next_number p.number);
        writes_auts = [];
        after = record { number = next_number p.number; given = p.given + 1; pending = Some (record { serial = p.given + 1; rand = rand; xres = f2 s rand }) };
      }

  vector_size_is : SoundSetup s → (serial : ℕ) → length p.number ≡ s.sizes.sqn
      → (does_challenge s p rand amf room scratch).yields ≡ issued serial
      → length (does_challenge s p rand amf room scratch).writes ≡ vector_size s.sizes
  unfolding vector
  vector_size_is ok serial long h =
      let i = Steps.issued_is s p rand amf room scratch serial h in
      let sqn = next_number p.number in
      let n : length sqn ≡ s.sizes.sqn = Counting.length_next p.number ∙ long in
      ap length i.writes
      ∙ simp length-append
      (omega (
        arith,
        simp length-append at (Asked.length_front s ok rand i.rand_size),
        Asked.length_autn s ok rand sqn n amf i.amf_size,
      ))

  apart : (n : ℕ) → given.yields ≡ refused n → ⊥
  apart n e = let z : ◌≡◌ {A = ℕ} 0 1 = cc in omega arith

  challenge_refused : (n : ℕ) → (does_challenge s p rand amf room scratch).yields ≡ refused n → (does_challenge s p rand amf room scratch).writes ≡ []
  unfolding does_challenge
  challenge_refused n h = (refused_silent grounds p given refl n (λ e. apart n e) h).0

  challenge_auts : (does_challenge s p rand amf room scratch).writes_auts ≡ []
  unfolding does_challenge
  challenge_auts = never_auts grounds p given refl refl

  module _ (q : Network) (before after wrote : List ℕ) where
    pub challenge_given : SoundSetup s → (serial : ℕ) → length p.number ≡ s.sizes.sqn
        → Shows (does_challenge s p rand amf room scratch) (issued serial) before after [] [] q
        → wrote ≡ take (vector_size s.sizes) after
        → Wrote (does_challenge s p rand amf room scratch) (issued serial) wrote [] q
    challenge_given ok serial long h e =
        record {
          told = h.told;
          writes = e ∙ cut _ before after (vector_size s.sizes) h.wrote (vector_size_is ok serial long (sym h.told));
          writes_auts = sym challenge_auts;
          left = h.left;
        }

    pub challenge_denied : (n : ℕ) → Shows (does_challenge s p rand amf room scratch) (refused n) before after [] [] q → wrote ≡ []
        → Wrote (does_challenge s p rand amf room scratch) (refused n) wrote [] q
    challenge_denied n h e =
        record { told = h.told; writes = e ∙ sym (challenge_refused n (sym h.told)); writes_auts = sym challenge_auts; left = h.left }

-- ── receive ──

length_answers : (s : Setup) → SoundSetup s → (rand : List ℕ) → length (answers s rand) ≡ answers_size s.sizes
unfolding answers
length_answers s ok rand =
    simp length-append
    (omega (
      arith,
      Asked.length_ask s ok 2 s.sizes.res rand [] ok.sizes.res.1,
      Asked.length_ask s ok 3 s.sizes.ck rand [] ok.sizes.ck.1,
      Asked.length_ask s ok 4 s.sizes.ik rand [] ok.sizes.ik.1,
    ))

length_auts : (s : Setup) → SoundSetup s → (rand own : List ℕ) → length own ≡ s.sizes.sqn → length (auts s rand own) ≡ auts_size s.sizes
unfolding auts
length_auts s ok rand own h =
    let mac = mac_s s rand own in
    simp length-append
    (omega (arith, length_⊕ own (ak_star s rand mac), Asked.length_ak_star s ok rand mac, Asked.length_mac_s s ok rand own))

by_eqb : (m n : ℕ) (P : Type 0) → (m ≡ n → P) → ((m ≡ n → ⊥) → P) → P
by_eqb m n P f g =
    let Q : Bool → Type 0 = λ b. eqb m n ≡ b → P in
    (elim (eqb m n) as Q [ true ↦ (λ e. f (eqb-true m n e)) | false ↦ (λ e. g (λ d. absurd (true≢false (sym (eq-eqb m n d) ∙ e)))) ]) refl

-- what each answer of a receive says of what is written
record Told (s : Setup) (x : Done (List ℕ)) : Type 0 where
  taken : x.yields ≡ accepted → (length x.writes ≡ answers_size s.sizes) × (x.writes_auts ≡ [])
  behind : x.yields ≡ refused 17 → (x.writes ≡ []) × (length x.writes_auts ≡ auts_size s.sizes)
  other : (n : ℕ) → (n ≡ 17 → ⊥) → x.yields ≡ refused n → (x.writes ≡ []) × (x.writes_auts ≡ [])

not_refused : (n : ℕ) → accepted ≡ refused n → ⊥
not_refused n e = let z : ◌≡◌ {A = ℕ} 0 1 = cc in omega arith

number_of : (m n : ℕ) → refused m ≡ refused n → m ≡ n
number_of m n e = cc

-- 17 is the number of one refusal
behind_of : (e : Refusal) → number e ≡ 17 → e ≡ Behind
behind_of e h = grind (arith)

module _ (s : Setup) (ok : SoundSetup s) (own rand token : List ℕ) (room auts_room scratch : ℕ) (long : length own ≡ s.sizes.sqn) where
  told_taken : Told s (Steps.taken s rand token)
  told_taken =
      record {
        taken = λ _. (length_answers s ok rand, refl);
        behind = λ e. absurd (not_refused 17 e);
        other = λ n _ e. absurd (not_refused n e);
      }

  told_behind : Told s (Steps.behind s own rand)
  told_behind =
      record {
        taken = λ e. absurd (not_refused 17 (sym e));
        behind = λ _. (refl, length_auts s ok rand own long);
        other = λ n apart e. absurd (apart (sym (number_of 17 n e)));
      }

  told_refused : (n : ℕ) → n < 17 → Told s (silent (refused n) own)
  told_refused n h =
      record {
        taken = λ e. absurd (not_refused n (sym e));
        behind = λ e. let k : n ≡ 17 = number_of n 17 e in absurd (omega arith);
        other = λ _ _ _. (refl, refl);
      }

  received_told : Told s (does_receive s own rand token room auts_room scratch)
  unfolding does_receive
  received_told =
      Refusing.unless_both (Steps.receive_grounds s rand token room auts_room scratch) own (Steps.received s own rand token) (Told s) refl
      (λ _. cond_both (exceeds (autn_number s rand token) own) (Steps.taken s rand token) (Steps.behind s own rand) (Told s) (λ _. told_taken) (λ _. told_behind))
      told_refused

  module _ (end before after auts_before auts_after wrote wrote_auts : List ℕ) where
    abbrev Ends : Yield → Type 0
    Ends y = Shows (does_receive s own rand token room auts_room scratch) y before after auts_before auts_after end

    abbrev Cut : Yield → Type 0
    Cut y = Wrote (does_receive s own rand token room auts_room scratch) y wrote wrote_auts end

    receive_taken : Ends accepted → wrote ≡ take (answers_size s.sizes) after → wrote_auts ≡ [] → Cut accepted
    receive_taken h i j =
        let k = received_told.taken (sym h.told) in
        record { told = h.told; writes = i ∙ cut _ before after _ h.wrote k.0; writes_auts = j ∙ sym k.1; left = h.left }

    receive_behind : Ends (refused 17) → wrote ≡ [] → wrote_auts ≡ take (auts_size s.sizes) auts_after → Cut (refused 17)
    receive_behind h i j =
        let k = received_told.behind (sym h.told) in
        record { told = h.told; writes = i ∙ sym k.0; writes_auts = j ∙ cut _ auts_before auts_after _ h.wrote_auts k.1; left = h.left }

    receive_refused : (n : ℕ) → (n ≡ 17 → ⊥) → Ends (refused n) → wrote ≡ [] → wrote_auts ≡ [] → Cut (refused n)
    receive_refused n apart h i j =
        let k = received_told.other n apart (sym h.told) in
        record { told = h.told; writes = i ∙ sym k.0; writes_auts = j ∙ sym k.1; left = h.left }

    receive_denied : (n : ℕ) → Ends (refused n) → wrote ≡ [] → (n ≡ 17 → wrote_auts ≡ take (auts_size s.sizes) auts_after)
        → ((n ≡ 17 → ⊥) → wrote_auts ≡ []) → Cut (refused n)
    receive_denied n h i behind other =
        by_eqb n 17 (Cut (refused n))
        (λ e. subst (λ (k : ℕ). Cut (refused k)) (sym e) (receive_behind (subst (λ (k : ℕ). Ends (refused k)) e h) i (behind e)))
        (λ d. receive_refused n d h i (other d))

    -- what is kept of both buffers, where m bytes are left of that of the AUTS
    pub receive_kept : (r : Result (Unit {0}) Refusal) (y : Result Outcome Refusal) (rest auts_rest : List ℕ) (n o k m : ℕ) → length after ≡ n → length auts_after ≡ o
        → k ≡ answers_size s.sizes → Ends (told_receive r)
        → MatchResult r (λ _. y ≡ Ok Accepted) (λ e. y ≡ Err e)
        → MatchResult y (λ _. wrote ≡ take k (take n (after ++ rest))) (λ _. wrote ≡ [])
        → (y ≡ Err Behind → m ≡ auts_size s.sizes) → ((y ≡ Err Behind → ⊥) → m ≡ 0)
        → wrote_auts ≡ take m (take o (auts_after ++ auts_rest)) → Cut (yield_of y)
    receive_kept (Ok u) y rest auts_rest n o k m long auts_long size h e w behind other cut_auts =
        rw e (receive_taken h (left after rest wrote n (answers_size s.sizes) k long size (rw e at w))
        (left auts_after auts_rest wrote_auts o 0 m auts_long (other (λ d. let f = sym e ∙ d in cc)) cut_auts))
    receive_kept (Err x) y rest auts_rest n o k m long auts_long size h e w behind other cut_auts =
        rw e (receive_denied (number x) h (rw e at w)
        (λ i. left auts_after auts_rest wrote_auts o (auts_size s.sizes) m auts_long (behind (e ∙ ap Err (behind_of x i))) cut_auts)
        (λ d. left auts_after auts_rest wrote_auts o 0 m auts_long (other (λ i. let f = sym e ∙ i in let g : number x ≡ 17 = cc in d g)) cut_auts))

-- ── trace ──

module _ (s : Setup) (ok : SoundSetup s) (blocks : (x : List ℕ) → IsBlock x → IsBlock (s.forth x)) where
  length_trace : (r : List ℕ) → AreBytes r → (q : Question) → Fine q → length (trace_of (keyed s) r q) ≡ 192
  unfolding trace_of
  length_trace r b q f =
      let x = filled r ⊕ s.opc in
      let y = temp (keyed s) r ⊕ input s.constants q in
      let hx = Asked.first_is_block s ok blocks r b in
      let hy = Asked.second_is_block s ok blocks r b q f in
      let hz = block_block (keyed s) blocks (Asked.sound s ok) r q b f.admissible f.bytes in
      simp length-append
      (omega (arith, hx.long, (blocks x hx).long, (Asked.input_is_block s ok q f).long, hy.long, (blocks y hy).long, hz.long))

  module _ (index : ℕ) (rand : List ℕ) (size : ℕ) (carried : List ℕ) (room scratch : ℕ) where
    trace_size : AreBytes rand → AreBytes carried → (does_trace s index rand size carried room scratch).yields ≡ traced
        → length (does_trace s index rand size carried room scratch).writes ≡ 192
    unfolding does_trace
    trace_size b c h =
        let asked : Question = asks index rand size carried in
        let u = Refusing.unless_yields (trace_grounds index rand size carried room scratch) tt (traced_by s rand asked) refl traced h tt in
        let f : Fine asked = trace_fine index rand size carried room scratch c u.1 in
        ap (λ (d : Done (Unit {0})). length d.writes) u.0 ∙ length_trace rand b asked f

    not_traced : (n : ℕ) → traced ≡ refused n → ⊥
    not_traced n e = let z : ◌≡◌ {A = ℕ} 0 1 = cc in omega arith

    trace_refused : (n : ℕ) → (does_trace s index rand size carried room scratch).yields ≡ refused n → (does_trace s index rand size carried room scratch).writes ≡ []
    unfolding does_trace
    trace_refused n h =
        (refused_silent (trace_grounds index rand size carried room scratch) tt (traced_by s rand (asks index rand size carried)) refl n (not_traced n) h).0

    trace_auts : (does_trace s index rand size carried room scratch).writes_auts ≡ []
    unfolding does_trace
    trace_auts = never_auts (trace_grounds index rand size carried room scratch) tt (traced_by s rand (asks index rand size carried)) refl refl

    module _ (before after wrote : List ℕ) where
      trace_given : AreBytes rand → AreBytes carried → Shows (does_trace s index rand size carried room scratch) traced before after [] [] tt
          → wrote ≡ take 192 after → Wrote (does_trace s index rand size carried room scratch) traced wrote [] tt
      trace_given b c h e =
          record { told = h.told; writes = e ∙ cut _ before after 192 h.wrote (trace_size b c (sym h.told)); writes_auts = sym trace_auts; left = h.left }

      trace_denied : (n : ℕ) → Shows (does_trace s index rand size carried room scratch) (refused n) before after [] [] tt → wrote ≡ []
          → Wrote (does_trace s index rand size carried room scratch) (refused n) wrote [] tt
      trace_denied n h e = record { told = h.told; writes = e ∙ sym (trace_refused n (sym h.told)); writes_auts = sym trace_auts; left = h.left }

      pub trace_kept : (r : Result (Unit {0}) Refusal) (y : Result Outcome Refusal) (rest : List ℕ) (n : ℕ) → length after ≡ n → AreBytes rand → AreBytes carried
          → Shows (does_trace s index rand size carried room scratch) (told_trace r) before after [] [] tt
          → MatchResult r (λ _. y ≡ Ok Traced) (λ e. y ≡ Err e)
          → MatchResult y (λ _. wrote ≡ take 192 (take n (after ++ rest))) (λ _. wrote ≡ [])
          → Wrote (does_trace s index rand size carried room scratch) (yield_of y) wrote [] tt
      trace_kept (Ok u) y rest n long b c h e k = rw e (trace_given b c h (left after rest wrote n 192 192 long refl (rw e at k)))
      trace_kept (Err x) y rest n long b c h e k = rw e (trace_denied (number x) h (rw e at k))
