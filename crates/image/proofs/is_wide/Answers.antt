-- `image::is_wide` meets its contract.
-- Assumes nothing.
use borrow.Author.Rules.{rules}
use Rattle.image.proofs.is_wide.Goals as goal

pub returns : goal.returns
returns c = c.opens_with.ensures
