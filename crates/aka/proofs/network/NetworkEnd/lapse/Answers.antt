use Rattle.aka.specs.Views.{network_of}
use Rattle.aka.proofs.Closed.{shows_lapse}
use Rattle.aka.proofs.network.NetworkEnd.lapse.Goals as goal

pub returns-clause-shows : goal.returns-clause-shows
returns-clause-shows g c =
    shows_lapse (network_of c.args.self.now) _ c.spend.result c.args.ticket.serial c.close.result c.spend.ensures c.close.ensures.told c.close.ensures.err c.close.ensures.left
