-- What becomes of the open challenge.
use Rattle.std.proofs.Common.{◌≡◌, ℕ, Bool, true, false, cond, not, List, [], ◌∷◌, take, Some, None, Option, Ok, Err, Result, IfErr, sym, refl, ap, ◌∙◌, subst}
use Rattle.std.proofs.lemmas.Bool.{eq-eqb, ne_eqb}
use Rattle.aka.specs.declared.sizes.Sizes.{Sizes}
use Rattle.std.specs.Str.{bytes_eq}
use Rattle.std.specs.Result.{is_ok}
use Rattle.block.specs.declared.refusal.Refusal.{Refusal}
use Rattle.aka.specs.Told.{told_lapse}
use Rattle.block.specs.declared.refusal.Refusal.TheVariants.{Stale}
use Rattle.block.specs.Refusals.{◌when◌}
use Rattle.aka.specs.States.{Network, Shows, stale, spent, pending_rand, pending_xres, lapsed, confirmed, refused}
use Rattle.aka.specs.Calls.{does_confirm, does_lapse}
use Rattle.aka.specs.Views.{open_of}
use Rattle.aka.proofs.Shown.{no_ground, by_ground, shows_as, shows_refused}

pub stale_open : (z : Sizes) (o : Option ℕ) (rand xres : List ℕ) (m serial : ℕ) → o ≡ Some m → m ≡ serial → stale serial (open_of z o rand xres) ≡ false
unfolding stale
stale_open z o rand xres m serial e h = ap (λ (t : Option ℕ). stale serial (open_of z t rand xres)) e ∙ ap not (eq-eqb serial m (sym h))

pub stale_other : (z : Sizes) (o : Option ℕ) (rand xres : List ℕ) (m serial : ℕ) → o ≡ Some m → (m ≡ serial → ⊥) → stale serial (open_of z o rand xres) ≡ true
unfolding stale
stale_other z o rand xres m serial e h = ap (λ (t : Option ℕ). stale serial (open_of z t rand xres)) e ∙ ap not (ne_eqb serial m (λ q. h (sym q)))

pub stale_none : (z : Sizes) (o : Option ℕ) (rand xres : List ℕ) (serial : ℕ) → o ≡ None → stale serial (open_of z o rand xres) ≡ true
unfolding stale
stale_none z o rand xres serial e = ap (λ (t : Option ℕ). stale serial (open_of z t rand xres)) e

pub spent_open : (p : Network) (serial : ℕ) (n : List ℕ) → stale serial p.pending ≡ false → spent serial p n ≡ record { number = n; given = p.given; pending = None }
unfolding spent
spent_open p serial n h =
    ap (λ (b : Bool). record { number = n; given = p.given; pending = cond b p.pending None }) h

pub spent_number : (p : Network) (serial : ℕ) (n : List ℕ) → (spent serial p n).number ≡ n
unfolding spent
spent_number p serial n = refl

pub spent_stale : (p : Network) (serial : ℕ) → stale serial p.pending ≡ true → spent serial p p.number ≡ p
unfolding spent
spent_stale p serial h =
    ap (λ (b : Bool). record { number = p.number; given = p.given; pending = cond b p.pending None }) h

pub xres_of : (z : Sizes) (o : Option ℕ) (rand xres : List ℕ) (m : ℕ) → o ≡ Some m → pending_xres (open_of z o rand xres) ≡ take z.res xres
unfolding pending_xres
xres_of z o rand xres m e = ap (λ (t : Option ℕ). pending_xres (open_of z t rand xres)) e

pub rand_of_open : (z : Sizes) (o : Option ℕ) (rand xres : List ℕ) (m : ℕ) → o ≡ Some m → pending_rand (open_of z o rand xres) ≡ take z.rand rand
unfolding pending_rand
rand_of_open z o rand xres m e = ap (λ (t : Option ℕ). pending_rand (open_of z t rand xres)) e

pub shows_lapsed : (p q : Network) (m serial : ℕ) → m ≡ serial → stale m p.pending ≡ false → q ≡ spent m p p.number → Shows (does_lapse p serial) lapsed [] [] [] [] q
unfolding does_lapse
shows_lapsed p q m serial e t h =
    subst (λ k. Shows (does_lapse p k) lapsed [] [] [] [] q) e
    (shows_as (no_ground ((14 when stale m p.pending) ∷ []) (spent m p p.number) _ (ap (λ (b : Bool). cond b 14 0) t))
    (record { told = refl; wrote = refl; wrote_auts = refl; left = h }))

pub shows_confirmed : (p q : Network) (m serial : ℕ) (res : List ℕ) (b : Bool) → m ≡ serial → stale m p.pending ≡ false → q ≡ spent m p p.number → b ≡ bytes_eq res (pending_xres p.pending) → Shows (does_confirm p serial res) (confirmed b) [] [] [] [] q
unfolding does_confirm
shows_confirmed p q m serial res b e t h x =
    subst (λ k. Shows (does_confirm p k res) (confirmed b) [] [] [] [] q) e
    (shows_as (no_ground ((14 when stale m p.pending) ∷ []) (spent m p p.number) _ (ap (λ (b : Bool). cond b 14 0) t))
    (record { told = ap confirmed x; wrote = refl; wrote_auts = refl; left = h }))

pub shows_stale_lapse : (p q : Network) (m serial : ℕ) → m ≡ serial → stale m p.pending ≡ true → q ≡ spent m p p.number → Shows (does_lapse p serial) (refused 14) [] [] [] [] q
unfolding does_lapse
shows_stale_lapse p q m serial e t h =
    subst (λ k. Shows (does_lapse p k) (refused 14) [] [] [] [] q) e
    (shows_as (by_ground ((14 when stale m p.pending) ∷ []) (spent m p p.number) _ Stale (ap (λ (b : Bool). cond b 14 0) (sym t)))
    (shows_refused (spent m p p.number) q Stale [] [] h))

pub shows_stale_confirm : (p q : Network) (m serial : ℕ) (res : List ℕ) → m ≡ serial → stale m p.pending ≡ true → q ≡ spent m p p.number → Shows (does_confirm p serial res) (refused 14) [] [] [] [] q
unfolding does_confirm
shows_stale_confirm p q m serial res e t h =
    subst (λ k. Shows (does_confirm p k res) (refused 14) [] [] [] [] q) e
    (shows_as (by_ground ((14 when stale m p.pending) ∷ []) (spent m p p.number) _ Stale (ap (λ (b : Bool). cond b 14 0) (sym t)))
    (shows_refused (spent m p p.number) q Stale [] [] h))

pub shows_lapse : (p q : Network) (m serial : ℕ) (r : Result (Unit {0}) Refusal) → m ≡ serial → stale m p.pending ≡ not (is_ok r) → IfErr r (λ e. e ≡ Stale)
    → q ≡ spent m p p.number → Shows (does_lapse p serial) (told_lapse r) [] [] [] [] q
shows_lapse p q m serial (Ok u) e t h l = shows_lapsed p q m serial e t l
shows_lapse p q m serial (Err r) e t h l = rw h (shows_stale_lapse p q m serial e t l)
