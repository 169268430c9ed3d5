-- What a resynchronisation shows.
use Rattle.std.proofs.Common.{◌≡◌, ℕ, Bool, true, false, cond, not, eqb, List, [], length, None, sym, refl, ap, ◌∙◌, subst, lit<}
use Rattle.std.proofs.lemmas.Bool.{cond-true, cond-false}
use Rattle.block.specs.declared.refusal.Refusal.{Refusal}
use Rattle.block.specs.declared.refusal.Refusal.TheVariants.{Mac}
use Rattle.block.specs.Refusals.{number}
use Rattle.milenage.proofs.Refused.{number_above_0}
use Rattle.aka.specs.Numbers.{exceeds, larger}
use Rattle.aka.specs.Setup.{Setup}
use Rattle.aka.specs.Tokens.{auts_size, auts_number}
use Rattle.aka.specs.States.{Network, Shows, raised, kept, refused, stale, spent, pending_rand}
use Rattle.aka.specs.Calls.{does_resync, short_scratch}
use Rattle.aka.specs.Parts.{right_mac_s}
use Rattle.aka.specs.Grounds.{resync_ground, resync_grounds}
use Rattle.aka.proofs.Closed.{spent_open}
use Rattle.aka.proofs.Shown.{no_ground, by_ground, shows_as, shows_refused, refused_still, passed}

abbrev bad_token : Setup → List ℕ → Bool
bad_token s token = not (eqb (length token) (auts_size s.sizes))

-- the RAND of the open challenge, and the number that an AUTS tells there
abbrev rand_of : Network → List ℕ
rand_of p = pending_rand p.pending

pub shows_not_resynced : (s : Setup) (p q : Network) (m serial : ℕ) (token : List ℕ) (scratch : ℕ) (e : Refusal) → m ≡ serial → number e ≡ resync_ground s.sizes (stale m p.pending) (length token) scratch → q ≡ spent m p p.number → Shows (does_resync s p serial token scratch) (refused (number e)) [] [] [] [] q
unfolding does_resync
shows_not_resynced s p q m serial token scratch e k h l =
    subst (λ (i : ℕ). Shows (does_resync s p i token scratch) (refused (number e)) [] [] [] [] q) k
    (shows_as (by_ground (resync_grounds s.sizes (stale m p.pending) (length token) scratch (right_mac_s s (rand_of p) token)) (spent m p p.number) _ e
    (refused_still (short_scratch scratch) (stale m p.pending) (bad_token s token) (not (right_mac_s s (rand_of p) token)) 12 14 15 16 (number e) (number_above_0 e) h))
    (shows_refused (spent m p p.number) q e [] [] l))

pub shows_wrong_mac_s : (s : Setup) (p q : Network) (m serial : ℕ) (token : List ℕ) (scratch : ℕ) → m ≡ serial → resync_ground s.sizes (stale m p.pending) (length token) scratch ≡ 0 → right_mac_s s (rand_of p) token ≡ false → q ≡ spent m p p.number → Shows (does_resync s p serial token scratch) (refused 16) [] [] [] [] q
unfolding does_resync
shows_wrong_mac_s s p q m serial token scratch k h w l =
    subst (λ (i : ℕ). Shows (does_resync s p i token scratch) (refused 16) [] [] [] [] q) k
    (shows_as (by_ground (resync_grounds s.sizes (stale m p.pending) (length token) scratch (right_mac_s s (rand_of p) token)) (spent m p p.number) _ Mac
    (sym (passed (short_scratch scratch) (stale m p.pending) (bad_token s token) 12 14 15 _ (lit< tt) (lit< tt) (lit< tt) h ∙ ap (λ (b : Bool). cond (not b) 16 0) w)))
    (shows_refused (spent m p p.number) q Mac [] [] l))

pub shows_raised : (s : Setup) (p q : Network) (m serial : ℕ) (token : List ℕ) (scratch : ℕ) → m ≡ serial → resync_ground s.sizes (stale m p.pending) (length token) scratch ≡ 0 → right_mac_s s (rand_of p) token ≡ true → exceeds (auts_number s (rand_of p) token) p.number ≡ true → stale m p.pending ≡ false → q ≡ record { number = auts_number s (rand_of p) token; given = p.given; pending = None } → Shows (does_resync s p serial token scratch) raised [] [] [] [] q
unfolding does_resync larger
shows_raised s p q m serial token scratch k h w x t l =
    let n : List ℕ = auts_number s (rand_of p) token in
    subst (λ (i : ℕ). Shows (does_resync s p i token scratch) raised [] [] [] [] q) k
    (shows_as (no_ground (resync_grounds s.sizes (stale m p.pending) (length token) scratch (right_mac_s s (rand_of p) token)) (spent m p p.number) _
    (passed (short_scratch scratch) (stale m p.pending) (bad_token s token) 12 14 15 _ (lit< tt) (lit< tt) (lit< tt) h ∙ ap (λ (b : Bool). cond (not b) 16 0) w))
    (record {
      told = sym (cond-true (exceeds n p.number) raised kept x);
      wrote = refl;
      wrote_auts = refl;
      left = l ∙ sym (ap (spent m p) (cond-true (exceeds n p.number) n p.number x) ∙ spent_open p m n t);
    }))

pub shows_kept : (s : Setup) (p q : Network) (m serial : ℕ) (token : List ℕ) (scratch : ℕ) → m ≡ serial → resync_ground s.sizes (stale m p.pending) (length token) scratch ≡ 0 → right_mac_s s (rand_of p) token ≡ true → exceeds (auts_number s (rand_of p) token) p.number ≡ false → q ≡ spent m p p.number → Shows (does_resync s p serial token scratch) kept [] [] [] [] q
unfolding does_resync larger
shows_kept s p q m serial token scratch k h w x l =
    let n : List ℕ = auts_number s (rand_of p) token in
    subst (λ (i : ℕ). Shows (does_resync s p i token scratch) kept [] [] [] [] q) k
    (shows_as (no_ground (resync_grounds s.sizes (stale m p.pending) (length token) scratch (right_mac_s s (rand_of p) token)) (spent m p p.number) _
    (passed (short_scratch scratch) (stale m p.pending) (bad_token s token) 12 14 15 _ (lit< tt) (lit< tt) (lit< tt) h ∙ ap (λ (b : Bool). cond (not b) 16 0) w))
    (record {
      told = sym (cond-false (exceeds n p.number) raised kept x);
      wrote = refl;
      wrote_auts = refl;
      left = l ∙ sym (ap (spent m p) (cond-false (exceeds n p.number) n p.number x));
    }))
