-- `address::same` meets its contract: each field is compared.
-- Assumes nothing.
use borrow.Author.Rules.{rules}
use Rattle.address.specs.Families.{same_address}
use Rattle.address.proofs.same.Goals as goal

pub returns : goal.returns
unfolding same_address
returns c = cc
