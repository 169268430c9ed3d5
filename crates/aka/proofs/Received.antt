-- What a received challenge shows.
use Rattle.std.proofs.Common.{◌≡◌, ℕ, Bool, true, false, cond, not, ◌||◌, eqb, ltb, List, length, sym, refl, ap, ◌∙◌, lit<}
use Rattle.std.proofs.lemmas.Bool.{cond-true, cond-false}
use Rattle.block.specs.declared.refusal.Refusal.{Refusal}
use Rattle.block.specs.declared.refusal.Refusal.TheVariants.{Mac}
use Rattle.block.specs.Bytes.{over}
use Rattle.block.specs.Refusals.{number}
use Rattle.milenage.proofs.Refused.{number_above_0}
use Rattle.aka.specs.Numbers.{exceeds}
use Rattle.aka.specs.Setup.{Setup}
use Rattle.aka.specs.Tokens.{auts, answers, autn_number, answers_size, auts_size, autn_size}
use Rattle.aka.specs.States.{Shows, accepted, refused}
use Rattle.aka.specs.Calls.{does_receive, short_scratch}
use Rattle.aka.specs.Parts.{right_mac_a}
use Rattle.aka.specs.Grounds.{receive_grounds, receive_ground}
use Rattle.aka.proofs.Shown.{no_ground, by_ground, shows_as, shows_refused, refused_still, passed}

-- the tests of the first three
abbrev bad_rand : Setup → List ℕ → Bool
bad_rand s rand = not (eqb (length rand) s.sizes.rand)

abbrev bad_rooms : Setup → ℕ → ℕ → ℕ → Bool
bad_rooms s room auts_room scratch =
    ltb room (answers_size s.sizes) || (ltb auts_room (auts_size s.sizes) || short_scratch scratch)

abbrev bad_token : Setup → List ℕ → Bool
bad_token s token = not (eqb (length token) (autn_size s.sizes))

pub shows_not_received : (s : Setup) (own rand token : List ℕ) (room auts_room scratch : ℕ) (e : Refusal) (out buffer : List ℕ) → number e ≡ receive_ground s.sizes (length rand) (length token) room auts_room scratch → Shows (does_receive s own rand token room auts_room scratch) (refused (number e)) out out buffer buffer own
unfolding does_receive
shows_not_received s own rand token room auts_room scratch e out buffer h =
    shows_as (by_ground (receive_grounds s.sizes (length rand) (length token) room auts_room scratch (right_mac_a s rand token)) own _ e (refused_still (bad_rand s rand) (bad_rooms s room auts_room scratch) (bad_token s token) (not (right_mac_a s rand token)) 9 12 15 16 (number e) (number_above_0 e) h))
    (shows_refused own own e out buffer refl)

pub shows_wrong_mac : (s : Setup) (own rand token : List ℕ) (room auts_room scratch : ℕ) (out buffer : List ℕ) → receive_ground s.sizes (length rand) (length token) room auts_room scratch ≡ 0 → right_mac_a s rand token ≡ false → Shows (does_receive s own rand token room auts_room scratch) (refused 16) out out buffer buffer own
unfolding does_receive
shows_wrong_mac s own rand token room auts_room scratch out buffer h w =
    shows_as (by_ground (receive_grounds s.sizes (length rand) (length token) room auts_room scratch (right_mac_a s rand token)) own _ Mac (sym (passed (bad_rand s rand) (bad_rooms s room auts_room scratch) (bad_token s token) 9 12 15 _ (lit< tt) (lit< tt) (lit< tt) h ∙ ap (λ (b : Bool). cond (not b) 16 0) w)))
    (shows_refused own own Mac out buffer refl)

pub shows_accepted : (s : Setup) (own new rand token : List ℕ) (room auts_room scratch : ℕ) (before after buffer : List ℕ) → receive_ground s.sizes (length rand) (length token) room auts_room scratch ≡ 0 → right_mac_a s rand token ≡ true → exceeds (autn_number s rand token) own ≡ true → after ≡ over (answers s rand) before → new ≡ autn_number s rand token → Shows (does_receive s own rand token room auts_room scratch) accepted before after buffer buffer new
unfolding does_receive
shows_accepted s own new rand token room auts_room scratch before after buffer h w x a l =
    shows_as (no_ground (receive_grounds s.sizes (length rand) (length token) room auts_room scratch (right_mac_a s rand token)) own _ (passed (bad_rand s rand) (bad_rooms s room auts_room scratch) (bad_token s token) 9 12 15 _ (lit< tt) (lit< tt) (lit< tt) h ∙ ap (λ (b : Bool). cond (not b) 16 0) w) ∙ cond-true (exceeds (autn_number s rand token) own) _ _ x)
    (record { told = refl; wrote = a; wrote_auts = refl; left = l })

pub shows_behind : (s : Setup) (own rand token : List ℕ) (room auts_room scratch : ℕ) (out before after : List ℕ) → receive_ground s.sizes (length rand) (length token) room auts_room scratch ≡ 0 → right_mac_a s rand token ≡ true → exceeds (autn_number s rand token) own ≡ false → after ≡ over (auts s rand own) before → Shows (does_receive s own rand token room auts_room scratch) (refused 17) out out before after own
unfolding does_receive
shows_behind s own rand token room auts_room scratch out before after h w x a =
    shows_as (no_ground (receive_grounds s.sizes (length rand) (length token) room auts_room scratch (right_mac_a s rand token)) own _ (passed (bad_rand s rand) (bad_rooms s room auts_room scratch) (bad_token s token) 9 12 15 _ (lit< tt) (lit< tt) (lit< tt) h ∙ ap (λ (b : Bool). cond (not b) 16 0) w) ∙ cond-false (exceeds (autn_number s rand token) own) _ _ x)
    (record { told = refl; wrote = refl; wrote_auts = a; left = refl })
