-- `heap::Entry::empty` meets its contract.
-- Assumes nothing.
use borrow.Author.Rules.{rules}
use Rattle.heap.proofs.Entry.empty.Goals as goal

pub returns : goal.returns
returns c = rw c.none-g.ensures
