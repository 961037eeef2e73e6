-- `address::in_range` meets its contract: by family.
-- Assumes nothing.
use borrow.Author.Rules.{rules}
use Rattle.address.specs.Families.{in_range-six, in_range_other}
use Rattle.address.proofs.in_range.Goals as goal

pub returns-then-a-eq-V6 : goal.returns-then-a-eq-V6
returns-then-a-eq-V6 c = in_range-six _ (search rules) (search rules) (search rules) (search rules)

pub returns : goal.returns
returns c = in_range_other _ _ _ (search rules) c.if-a-eq-V6.false c.both.ensures c.both-2.ensures
