use Rattle.std.proofs.Common.{ℕ, List, take, ap, ◌∙◌, arith}
use Rattle.aka.specs.Setup.{Setup}
use Rattle.aka.specs.Tokens.{vector}
use Rattle.aka.specs.Views.{setup_at, rand_at}
use Rattle.aka.proofs.LaidOut.{vector_is}
use Rattle.aka.proofs.Written.{laid_over}
use Rattle.aka.proofs.shared.functions.Functions.write_vector.Goals as goal

pub returns-clause-after : goal.returns-clause-after
returns-clause-after g c =
    let f = c.args.self.now in
    let s : Setup = setup_at g.K.Kernel.forth f in
    let r : List ℕ = rand_at f in
    laid_over c.vector_size-n.result _ _ c.args.out.now
    (c.put_vector.ensures
    ∙ vector_is s r c.args.amf (take f.admitted.sizes.sqn c.number_block-sqn.result) c.parts-parts.result c.parts-parts.ensures
    ∙ ap (vector s r c.args.amf) c.number_block-sqn.ensures)
    c.put_vector.auto.out (omega arith)
