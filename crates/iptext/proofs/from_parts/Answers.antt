-- `iptext::from_parts` meets its contract: each number in its field.
-- Assumes nothing.
use borrow.Author.Rules.{rules}
use Rattle.iptext.specs.Parted.{parted}
use Rattle.iptext.proofs.from_parts.Goals as goal

pub returns : goal.returns
unfolding parted
returns c = cc
