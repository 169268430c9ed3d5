use Rattle.std.proofs.Common.{◌∙◌, arith}
use Rattle.aka.specs.Views.{setup_at, rand_at}
use Rattle.aka.proofs.LaidOut.{answers_are}
use Rattle.aka.proofs.Written.{laid_over}
use Rattle.aka.proofs.shared.functions.Functions.write_answers.Goals as goal

pub returns : goal.returns
returns g c =
    let f = c.args.self.now in
    laid_over c.answers_size-n.result _ _ c.args.out.now
    (c.put_answers.ensures ∙ answers_are (setup_at g.K.Kernel.forth f) (rand_at f) c.keys-keys.result c.keys-keys.ensures)
    c.put_answers.auto.out (omega arith)
