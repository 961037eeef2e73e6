-- `order::noted` meets its contract: what is not passed over stands behind the others.
-- Assumes nothing.
use mathlib.Core.Path.{ap, sym}
use Rattle.order.specs.Views.{noted_of}
use borrow.Author.Rules.{rules}
use Rattle.order.proofs.noted.Goals as goal

pub returns : goal.returns
returns c =
    let a = c.args in
    sym (ap (noted_of a.picks a.x) c.if-over.false)
