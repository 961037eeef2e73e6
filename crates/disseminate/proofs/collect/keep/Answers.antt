-- `disseminate::collect::keep` meets its contract: it is old, or one more.
-- Assumes nothing.
use borrow.Author.Rules.{rules}
use Rattle.disseminate.proofs.collect.keep.Goals as goal

pub returns : goal.returns
returns c = rw c.if-old.false c.push.ensures
