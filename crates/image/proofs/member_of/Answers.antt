-- `image::member_of` meets its contract.
-- Assumes nothing.
use borrow.Author.Rules.{rules}
use Rattle.image.proofs.member_of.Goals as goal

pub returns : goal.returns
returns c = cc
