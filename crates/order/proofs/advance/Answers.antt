-- `order::advance` meets its contract: one place on, or around by a shuffle.
-- Assumes nothing.
use mathlib.Core.Path.{refl}
use Rattle.order.proofs.Advancing.{turned_on, turned_round, turned-short}
use borrow.Author.Rules.{rules}
use Rattle.order.proofs.advance.Goals as goal

pub returns-then-next-ne0 : goal.returns-then-next-ne0
returns-then-next-ne0 c =
    let a = c.args in
    turned_on a.order a.n a.draws.now a.from _ c.requires.0 c.requires.2 refl c.if-next-ne0.true

pub returns-in-Used : goal.returns-in-Used
returns-in-Used c =
    let a = c.args in
    turned_round a.order a.n a.draws.now a.from _ c.requires.0 refl c.if-next-ne0.false
    c.shuffle-shuffled.result _ c.shuffle-shuffled.ensures c.in-Used.is

pub returns-in-Refused : goal.returns-in-Refused
returns-in-Refused c =
    let a = c.args in
    turned-short a.order a.n a.draws.now a.from _ c.requires.0 refl c.if-next-ne0.false
    c.shuffle-shuffled.result _ c.shuffle-shuffled.ensures c.in-Refused.is
