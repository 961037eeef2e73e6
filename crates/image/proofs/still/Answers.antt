-- `image::still` meets its contract.
-- Assumes nothing.
use borrow.Author.Rules.{rules}
use Rattle.image.proofs.still.Goals as goal

pub returns-then-good : goal.returns-then-good
returns-then-good c = cc
