use Rattle.std.proofs.Common.{rules, ◌≡◌, ◌/◌, ◌%◌, [], get_or}
use Rattle.rijndael.specs.Schedule.{schedule, round_key, round_keys}
use Rattle.rijndael.proofs.Bytes.{tabled}
use Rattle.rijndael.proofs.schedule.round_keys.Goals as goal

pub returns : goal.returns
unfolding round_keys
returns c =
    tabled _ _ (λ i. get_or (round_key (schedule c.args.key.now) (i / 4)) (i % 4) []) 60
    (λ k y q l e. (let z : y ≡ get_or (round_key c.schedule-words.result (k / 4)) (k % 4) [] = search rules in cc, search rules)) _ c.from_fn.ensures.items
