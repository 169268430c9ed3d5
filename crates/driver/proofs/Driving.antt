-- Turn after turn.
use Rattle.std.proofs.Common.{MutBor, ◌≡◌, ℕ, suc, List, [], ◌∷◌, ◌++◌, Some, None, sym, refl, ap, ◌∙◌, subst, ap₂, append_assoc}
use Rattle.std.proofs.lemmas.List.{append-nil}
use Rattle.aka.specs.Setup.{Setup}
use Rattle.aka.specs.States.{Network}
use Rattle.aka.specs.Calls.{does_lapse}
use Rattle.session.specs.Log.{Pair, Call, lapse, Entry, does, Session, after}
use Rattle.session.proofs.Sessions
use Rattle.driver.specs.Seen.{pair_at}
use Rattle.driver.specs.Driven.{Turn, entry_at, turn, lapses, Choices, Driven, Leads}
use Rattle.aka.specs.Views.{network_setup, card_setup, card_number}
use Rattle.aka.specs.declared.card.CardEnd.{CardEnd}
use Rattle.driver.specs.declared.run.Run.{Run}
use Rattle.driver.specs.Called.{Turned}
use Rattle.driver.specs.Runs.{Forth, SameEnds, LeadsOn, LapsesTickets, LapsesEnd, LapsesNoted, network_in, pair_in, held_in, log_in}

module _ (s t : Setup) where
  -- ── sessions end to end ──

  pub leads_append : (p q r : Pair) (xs ys : List Entry) → Leads s t p xs q → Leads s t q ys r → Leads s t p (xs ++ ys) r
  leads_append p q r xs ys h k =
      record {
        session = Sessions.session_append s t p xs ys h.session (subst (λ (x : Pair). Session s t x ys) h.ends k.session);
        ends = k.ends ∙ ap (λ (x : Pair). after s t x ys) h.ends ∙ sym (Sessions.after_append s t p xs ys);
      }

  pub leads_none : (p : Pair) → Leads s t p [] p
  leads_none p = record { session = tt; ends = sym (Sessions.after_none s t p) }

  -- ── the tickets left over ──

  pub lapses_none : (p : Pair) → lapses s t p [] ≡ []
  unfolding lapses
  lapses_none p = refl

  pub lapses_more : (p : Pair) (n : ℕ) (ns : List ℕ) → lapses s t p (n ∷ ns) ≡ entry_at s t p (lapse n) ∷ lapses s t (does s t p (lapse n)).after ns
  unfolding lapses
  lapses_more p n ns = refl

  lapses_session : (p : Pair) (held : List ℕ) → Session s t p (lapses s t p held)
  unfolding lapses
  lapses_session p [] = tt
  lapses_session p (n ∷ ns) = (record { handed = tt; yielded = refl; wrote = refl; wrote_auts = refl }, lapses_session (does s t p (lapse n)).after ns)

  pub lapses_lead : (p q : Pair) (held : List ℕ) → q ≡ after s t p (lapses s t p held) → Leads s t p (lapses s t p held) q
  lapses_lead p q held h = record { session = lapses_session p held; ends = h }

  -- ── a turn more ──

  module _ {T : Type 0} (chooses : Choices T) where
    pub ended : (who : T) (p : Pair) (held : List ℕ) (log : List Entry) → Driven chooses s t 0 who p held log who (log ++ lapses s t p held)
    unfolding Driven
    ended who p held log = (refl, refl)

    pub stopped : (n : ℕ) (who next : T) (p : Pair) (held : List ℕ) (log : List Entry) → chooses who log None next
        → Driven chooses s t (suc n) who p held log next (log ++ lapses s t p held)
    unfolding Driven
    stopped n who next p held log h = (None, next, h, (refl, refl))

    pub went_on : (n : ℕ) (who next last : T) (p q : Pair) (held behind : List ℕ) (log more final : List Entry) (c : Call)
        → chooses who log (Some c) next → Turned s t p held (turn s t p held c) q behind log more
        → Driven chooses s t n next q behind more last final → Driven chooses s t (suc n) who p held log last final
    unfolding Driven
    went_on n who next last p q held behind log more final c h u d =
        let v : Turn = turn s t p held c in (
          Some c,
          next,
          h,
          rw (u.pair_is, u.held_is, u.log_is) at d,
        )

    -- what the turns left make, all the turns make
    abbrev pub Completes : ℕ → T → Pair → List ℕ → List Entry → ℕ → T → Pair → List ℕ → List Entry → Type 0
    Completes n who p held log m who' p' held' log' =
        (last : T) (final : List Entry) → Driven chooses s t n who p held log last final → Driven chooses s t m who' p' held' log' last final

  pub leads_on : (start p q : Pair) (held behind : List ℕ) (u : Turn) (log more : List Entry) → Turned s t p held u q behind log more
      → Leads s t start log p → Leads s t start more q
  leads_on start p q held behind u log more h k =
      subst (λ (l : List Entry). Leads s t start l q) (sym h.log_is) (leads_append start p q log u.entries k h.leads)

  -- ── one lapse more ──

  module _ (k : List ℕ) (before end : Network) (n : ℕ) (held behind : List ℕ) (first : held ≡ n ∷ behind) (left : end ≡ (does_lapse before n).after) where
    abbrev p : Pair
    p = pair_at before k

    pub ends_more : after s t (pair_at end k) (lapses s t (pair_at end k) behind) ≡ after s t (pair_at before k) (lapses s t (pair_at before k) held)
    ends_more =
        ap (λ (x : Network). after s t (pair_at x k) (lapses s t (pair_at x k) behind)) left
        ∙ sym (Sessions.after_cons s t p (entry_at s t p (lapse n)) (lapses s t (does s t p (lapse n)).after behind))
        ∙ ap (after s t p) (sym (lapses_more p n behind) ∙ ap (lapses s t p) (sym first))

    pub notes_more : (log more : List Entry) → more ≡ log ++ entry_at s t (pair_at before k) (lapse n) ∷ []
        → more ++ lapses s t (pair_at end k) behind ≡ log ++ lapses s t (pair_at before k) held
    notes_more log more e =
        ap₂ (λ (l : List Entry) (x : Network). l ++ lapses s t (pair_at x k) behind) e left
        ∙ append_assoc log (entry_at s t p (lapse n) ∷ []) (lapses s t (does s t p (lapse n)).after behind)
        ∙ ap (λ (l : List Entry). log ++ l) (sym (lapses_more p n behind) ∙ ap (lapses s t p) (sym first))

  module _ (k : List ℕ) (n : Network) (held : List ℕ) (none : held ≡ []) where
    pub none_left : after s t (pair_at n k) (lapses s t (pair_at n k) held) ≡ pair_at n k
    none_left =
        ap (λ (l : List ℕ). after s t (pair_at n k) (lapses s t (pair_at n k) l)) none
        ∙ ap (after s t (pair_at n k)) (lapses_none (pair_at n k)) ∙ Sessions.after_none s t (pair_at n k)

    pub none_noted : (log : List Entry) → log ++ lapses s t (pair_at n k) held ≡ log
    none_noted log =
        ap (λ (l : List ℕ). log ++ lapses s t (pair_at n k) l) none ∙ ap (λ (l : List Entry). log ++ l) (lapses_none (pair_at n k)) ∙ append-nil log

-- ── the whole ──

-- from a run with no entry and no ticket, over its turns, to the lapses of the tickets left over
module _ {K L : Type 0} (f : Forth K) (g : Forth L) (r r' r'' : Run K L) (ends : SameEnds f g r r') (lapsed : LapsesTickets f r' r'') where
  abbrev s : Setup
  s = network_setup f r.network.now

  abbrev t : Setup
  t = card_setup g r.card.now

  pub all_leads : log_in r ≡ [] → LeadsOn f g r r' → LapsesEnd f r' r''
      → Leads s t (pair_in r) (log_in r' ++ lapses s t (pair_in r') (held_in r')) (pair_in r'')
  all_leads new h e =
      let same : pair_in r'' ≡ pair_at (network_in r'') (card_number r'.card.now) =
      ap (λ (m : MutBor (CardEnd L)). pair_at (network_in r'') (card_number m.now)) lapsed.card in
      let left : pair_in r'' ≡ after s t (pair_in r') (lapses s t (pair_in r') (held_in r')) =
      subst (λ (x : Setup). pair_in r'' ≡ after x t (pair_in r') (lapses x t (pair_in r') (held_in r'))) ends.network_setup (same ∙ e t (card_number r'.card.now)) in
      leads_append s t (pair_in r) (pair_in r') (pair_in r'') (log_in r') (lapses s t (pair_in r') (held_in r'))
      (h (pair_in r) (rw new (leads_none s t (pair_in r))))
      (lapses_lead s t (pair_in r') (pair_in r'') (held_in r') left)

  pub all_noted : LapsesNoted f r' r'' → log_in r' ++ lapses s t (pair_in r') (held_in r') ≡ log_in r''
  all_noted e =
      subst (λ (x : Setup). log_in r' ++ lapses x t (pair_in r') (held_in r') ≡ log_in r'') ends.network_setup (sym (e t (card_number r'.card.now)))
