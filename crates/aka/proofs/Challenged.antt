-- What a challenge shows.
use Rattle.std.proofs.Common.{◌≡◌, ℕ, ◌+◌, List, [], length, Some, sym, refl, ap, ◌∙◌}
use Rattle.block.specs.declared.refusal.Refusal.{Refusal}
use Rattle.block.specs.Refusals.{number}
use Rattle.block.specs.Bytes.{over}
use Rattle.aka.specs.Numbers.{next_number}
use Rattle.aka.specs.Setup.{Setup, f2}
use Rattle.aka.specs.Tokens.{vector}
use Rattle.aka.specs.States.{Network, Shows, issued, refused}
use Rattle.aka.specs.Calls.{does_challenge}
use Rattle.aka.specs.Grounds.{challenge_grounds, challenge_ground}
use Rattle.aka.proofs.Shown.{no_ground, by_ground, shows_as, shows_refused}

pub shows_not_given : (s : Setup) (p : Network) (rand amf : List ℕ) (room scratch : ℕ) (e : Refusal) (out : List ℕ) → number e ≡ challenge_ground s.sizes p.number p.given (length rand) (length amf) room scratch → Shows (does_challenge s p rand amf room scratch) (refused (number e)) out out [] [] p
unfolding does_challenge
shows_not_given s p rand amf room scratch e out h =
    shows_as (by_ground (challenge_grounds s.sizes p.number p.given (length rand) (length amf) room scratch) p _ e h) (shows_refused p p e out [] refl)

pub shows_given : (s : Setup) (p q : Network) (rand amf : List ℕ) (room scratch serial : ℕ) (sqn before after : List ℕ) → challenge_ground s.sizes p.number p.given (length rand) (length amf) room scratch ≡ 0 → next_number p.number ≡ sqn → serial ≡ p.given + 1 → after ≡ over (vector s rand amf sqn) before → q ≡ record { number = sqn; given = p.given + 1; pending = Some (record { serial = p.given + 1; rand = rand; xres = f2 s rand }) } → Shows (does_challenge s p rand amf room scratch) (issued serial) before after [] [] q
unfolding does_challenge
shows_given s p q rand amf room scratch serial sqn before after h n t w l =
    shows_as (no_ground (challenge_grounds s.sizes p.number p.given (length rand) (length amf) room scratch) p _ h)
    (record {
      told = ap issued t;
      wrote = w ∙ ap (λ (x : List ℕ). over (vector s rand amf x) before) (sym n);
      wrote_auts = refl;
      left = l ∙ ap (λ (x : List ℕ). record { number = x; given = p.given + 1; pending = Some (record { serial = p.given + 1; rand = rand; xres = f2 s rand }) }) (sym n);
    })
