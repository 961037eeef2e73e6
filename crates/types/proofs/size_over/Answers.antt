-- `types::size_over` meets its contract.
-- Assumes nothing.
use borrow.Author.Rules.{rules}
use Rattle.model.specs.Size.{size_over}
use Rattle.types.proofs.size_over.Goals as goal

pub returns : goal.returns
unfolding size_over
returns c = (rw c.number_size.ensures.0, search rules)
