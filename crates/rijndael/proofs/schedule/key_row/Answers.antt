use Rattle.std.proofs.Common.{◌+◌, ◌*◌, []}
use Rattle.rijndael.specs.State.{table, at}
use Rattle.rijndael.specs.Schedule.{round_key}
use Rattle.rijndael.specs.StateLaws.{table_at}
use Rattle.rijndael.proofs.Bytes.{tabled}
use Rattle.rijndael.proofs.schedule.key_row.Goals as goal
use Rattle.std.proofs.Common.{rules, sym, ◌∙◌}

pub returns : goal.returns
unfolding round_key
returns c =
    tabled _ _ (λ k. at c.args.words.now (8 * c.args.n + k) c.args.r) 8 (λ k y q _ e. (search rules, search rules)) _ c.from_fn.ensures.items
    ∙ sym (table_at 4 (λ r. table 8 (λ k. at c.args.words.now (8 * c.args.n + k) r)) c.args.r [] c.requires.1)
