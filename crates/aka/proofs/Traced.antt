-- What a trace shows.
use Rattle.std.proofs.Common.{ℕ, ◌||◌, ltb, List, [], ◌∷◌, length, Ok, Err, Result, refl}
use Rattle.block.specs.declared.refusal.Refusal.{Refusal}
use Rattle.block.specs.Refusals.{◌when◌}
use Rattle.milenage.specs.Calls.{Traces}
use Rattle.milenage.specs.Grounds.{question_grounds}
use Rattle.aka.specs.Setup.{Setup, keyed}
use Rattle.aka.specs.States.{Shows}
use Rattle.aka.specs.Calls.{does_trace, short_scratch}
use Rattle.aka.specs.Told.{told_trace}
use Rattle.aka.proofs.Shown.{no_ground, by_ground, shows_as}

pub shows_traced : (s : Setup) (index : ℕ) (rand : List ℕ) (size : ℕ) (carried before after : List ℕ) (scratch : ℕ) (r : Result (Unit {0}) Refusal) → Traces (keyed s) index rand size carried before scratch r after → Shows (does_trace s index rand size carried (length before) scratch) (told_trace r) before after [] [] tt
unfolding does_trace
shows_traced s index rand size carried before after scratch (Ok u) h =
    shows_as (no_ground (question_grounds index (length rand) size (length carried) ((12 when (ltb (length before) 192 || short_scratch scratch)) ∷ [])) tt _ h.0)
    (record { told = refl; wrote = h.1; wrote_auts = refl; left = refl })
shows_traced s index rand size carried before after scratch (Err e) h =
    shows_as (by_ground (question_grounds index (length rand) size (length carried) ((12 when (ltb (length before) 192 || short_scratch scratch)) ∷ [])) tt _ e h.0)
    (record { told = refl; wrote = h.1; wrote_auts = refl; left = refl })
