-- `address::from_number` meets its contract: the port is the last 16 bits.
-- Assumes nothing.
use borrow.Author.Rules.{rules}
use Rattle.address.specs.Families.{numbered}
use Rattle.address.proofs.from_number.Goals as goal

pub returns : goal.returns
unfolding numbered
returns c = cc
