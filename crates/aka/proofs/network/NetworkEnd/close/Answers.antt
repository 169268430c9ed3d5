use Rattle.std.proofs.Common.{sym}
use Rattle.aka.specs.Views.{network_of}
use Rattle.aka.proofs.Closed.{stale_open, stale_other, stale_none, spent_open, spent_stale}
use Rattle.aka.proofs.network.NetworkEnd.close.Goals as goal

pub returns-in-Some-clause-told : goal.returns-in-Some-clause-told
returns-in-Some-clause-told g c =
    let e = c.args.self.now in
    stale_open e.core.admitted.sizes e.book.pending e.book.rand e.book.xres c.in-Some.«open» c.args.serial c.in-Some.is c.if-open-serial.true

pub returns-in-Some-clause-left : goal.returns-in-Some-clause-left
returns-in-Some-clause-left g c =
    let e = c.args.self.now in
    sym (spent_open (network_of e) c.args.serial (network_of e).number
    (stale_open e.core.admitted.sizes e.book.pending e.book.rand e.book.xres c.in-Some.«open» c.args.serial c.in-Some.is c.if-open-serial.true))

pub returns-in_default-clause-told : goal.returns-in_default-clause-told
returns-in_default-clause-told g c =
    let e = c.args.self.now in
    stale_other e.core.admitted.sizes e.book.pending e.book.rand e.book.xres c.in-Some.«open» c.args.serial c.in-Some.is c.if-open-serial.false

pub returns-in_default-clause-left : goal.returns-in_default-clause-left
returns-in_default-clause-left g c =
    let e = c.args.self.now in
    sym (spent_stale (network_of e) c.args.serial
    (stale_other e.core.admitted.sizes e.book.pending e.book.rand e.book.xres c.in-Some.«open» c.args.serial c.in-Some.is c.if-open-serial.false))

pub returns-in_default-2-clause-told : goal.returns-in_default-2-clause-told
returns-in_default-2-clause-told g c =
    let e = c.args.self.now in
    stale_none e.core.admitted.sizes e.book.pending e.book.rand e.book.xres c.args.serial c.in_default.is

pub returns-in_default-2-clause-left : goal.returns-in_default-2-clause-left
returns-in_default-2-clause-left g c =
    let e = c.args.self.now in
    sym (spent_stale (network_of e) c.args.serial (stale_none e.core.admitted.sizes e.book.pending e.book.rand e.book.xres c.args.serial c.in_default.is))
