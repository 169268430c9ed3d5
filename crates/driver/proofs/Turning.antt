-- One turn, over plain values.
use Rattle.std.proofs.Common.{◌≡◌, ℕ, List, [], ◌∷◌, ◌++◌, Some, None, Vec, sym, refl, ap, ◌∙◌, subst}
use Rattle.std.proofs.lemmas.List.{append-nil, map-append}
use Rattle.std.specs.declared.alloc.Global.{Global}
use Rattle.aka.specs.Setup.{Setup}
use Rattle.session.specs.Log.{Pair, Call, Entry, does, Handed}
use Rattle.session.proofs.Sessions
use Rattle.driver.proofs.Driving
use Rattle.driver.specs.declared.types.Answer.{Answer}
use Rattle.driver.specs.declared.types.Noted.{Noted}
use Rattle.driver.specs.declared.types.Step.{Step}
use Rattle.driver.specs.Seen.{call_of, entry_of, logged}
use Rattle.driver.specs.Driven.{Turn, entry_at, turn, Leads}
use Rattle.driver.specs.Called.{CameTo, Turned}

-- ── the log ──

one_leads : (s t : Setup) (p : Pair) (c : Call) → Handed c → Leads s t p (entry_at s t p c ∷ []) (does s t p c).after
one_leads s t p c h =
    record {
      session = (record { handed = h; yielded = refl; wrote = refl; wrote_auts = refl }, tt);
      ends = sym (Sessions.after_cons s t p (entry_at s t p c) [] ∙ Sessions.after_none s t (does s t p c).after);
    }

-- a log of one entry more
one_more : (log more : List Noted) (n : Noted) (e : Entry) → more ≡ log ++ n ∷ [] → entry_of n ≡ e → logged more ≡ logged log ++ e ∷ []
one_more log more n e h i = ap logged h ∙ map-append entry_of log (n ∷ []) ∙ ap (λ (x : Entry). logged log ++ x ∷ []) i

pub turned_made : (s t : Setup) (p q : Pair) (held behind : List ℕ) (step : Step (Vec ℕ Global)) (a : Answer) (log more : List Noted)
    → CameTo s t p held (call_of step) (Some a) q behind → more ≡ log ++ record { call = step; answer = a } ∷ []
    → Turned s t p held (turn s t p held (call_of step)) q behind (logged log) (logged more)
turned_made s t p q held behind step a log more h grown =
    let c = call_of step in
    let told = h.1.told in
    let wrote = h.1.wrote in
    let wrote_auts = h.1.wrote_auts in
    let e : entry_of (record { call = step; answer = a }) ≡ entry_at s t p c = cc in
    subst (λ (x : Turn). Turned s t p held x q behind (logged log) (logged more)) (sym h.2)
    (record {
      pair_is = h.1.left;
      held_is = refl;
      log_is = one_more log more (record { call = step; answer = a }) (entry_at s t p c) grown e;
      leads = subst (λ (x : Pair). Leads s t p (entry_at s t p c ∷ []) x) (sym h.1.left) (one_leads s t p c h.0);
    })

pub turned_none : (s t : Setup) (p q : Pair) (held behind : List ℕ) (c : Call) (log more : List Noted)
    → CameTo s t p held c None q behind → more ≡ log → Turned s t p held (turn s t p held c) q behind (logged log) (logged more)
turned_none s t p q held behind c log more h same =
    let u = turn s t p held c in
    subst (λ (x : Turn). Turned s t p held x q behind (logged log) (logged more)) (sym h.1)
    (record {
      pair_is = h.0.end;
      held_is = h.0.tickets;
      log_is = ap logged same ∙ sym (append-nil (logged log));
      leads = subst (λ (x : Pair). Leads s t p [] x) (sym h.0.end) (Driving.leads_none s t p);
    })
