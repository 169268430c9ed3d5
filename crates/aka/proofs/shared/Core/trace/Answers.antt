use Rattle.aka.specs.Views.{setup_of}
use Rattle.aka.proofs.Traced.{shows_traced}
use Rattle.aka.proofs.shared.Core.trace.Goals as goal
use Rattle.std.proofs.Common.{length}

pub returns : goal.returns
returns g c =
    record {
      wiped = c.trace.ensures.wiped;
      shows = shows_traced (setup_of g.K.Kernel.forth c.args.self.now) c.args.index c.args.rand.now c.args.size c.args.carried.now c.args.out.now c.trace.new.out (length c.args.scratch.now) c.trace.result c.trace.ensures.traced;
    }
