-- `order::Picks::none` meets its contract: four blanks.
-- Assumes nothing.
use lib.ListN.{replicate}
use borrow.Author.Rules.{rules}
use Rattle.order.proofs.Picks.none.Goals as goal

pub returns : goal.returns
returns c = λ i. record { row = replicate 4 (c.blank-blank.ensures i); count = 0 }
