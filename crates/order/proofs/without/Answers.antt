-- `order::without` meets its contract.
-- Assumes nothing.
use Rattle.model.specs.declared.Drew.TheVariants.{Refused}
use borrow.Author.Rules.{rules}
use Rattle.order.proofs.without.Goals as goal

pub returns : goal.returns
returns c =
    let a = c.args in
    λ i. record { order = a.order; picks = c.none.ensures i; drew = Refused a.refusal }
