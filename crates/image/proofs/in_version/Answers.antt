-- `image::in_version` meets its contract.
-- Assumes nothing.
use borrow.Author.Rules.{rules}
use Rattle.image.proofs.in_version.Goals as goal

pub returns-then-wide : goal.returns-then-wide
returns-then-wide c = cc

pub returns : goal.returns
returns c = cc
