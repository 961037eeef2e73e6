-- `cwords::read::address_in` meets its contract.
-- Assumes nothing.
use Rattle.cwords.specs.Reading.{address_in}
use borrow.Author.Rules.{rules}
use Rattle.cwords.proofs.read.address_in.Goals as goal

pub returns : goal.returns
unfolding address_in
returns c = search rules
