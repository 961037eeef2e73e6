-- `address::number` meets its contract: the number itself.
-- Assumes nothing.
use borrow.Author.Rules.{rules}
use Rattle.address.specs.Families.{number}
use Rattle.address.proofs.number.Goals as goal

pub returns : goal.returns
unfolding number
returns c = search rules
