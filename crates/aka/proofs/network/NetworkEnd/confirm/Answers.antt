use Rattle.std.proofs.Common.{◌≡◌, ℕ, List, take, sym, refl, ap, ◌∙◌, Err, rules}
use Rattle.std.specs.Str.{bytes_eq}
use Rattle.block.specs.declared.refusal.Refusal.TheVariants.{Stale}
use Rattle.aka.specs.declared.sizes.Sizes.{Sizes}
use Rattle.aka.specs.States.{pending_xres}
use Rattle.aka.specs.Views.{network_of}
use Rattle.aka.proofs.Closed.{xres_of, shows_confirmed, shows_stale_confirm}
use Rattle.aka.proofs.network.NetworkEnd.confirm.Goals as goal

pub returns-in_err-close-clause-shows : goal.returns-in_err-close-clause-shows
returns-in_err-close-clause-shows g c =
    let h : c.from_residual.result ≡ Err Stale = search rules in
    rw h (shows_stale_confirm (network_of c.args.self.now) _ c.spend.result c.args.ticket.serial c.args.res.now c.spend.ensures c.in_err-close.ensures.told c.close.ensures.left)

pub returns-clause-shows : goal.returns-clause-shows
returns-clause-shows g c =
    let e = c.args.self.now in
    let x : List ℕ = e.book.xres in
    let z : Sizes = e.core.admitted.sizes in
    let v : pending_xres (network_of e).pending ≡ take z.res x = xres_of z e.book.pending e.book.rand x c.spend.result (c.in_ok-close.ensures.was refl) in
    shows_confirmed (network_of e) _ c.spend.result c.args.ticket.serial c.args.res.now _ c.spend.ensures c.in_ok-close.ensures.told c.close.ensures.left
    (c.is_front.ensures ∙ ap (bytes_eq c.args.res.now) (sym v))
