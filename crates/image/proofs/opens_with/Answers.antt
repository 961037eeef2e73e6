-- `image::opens_with` meets its contract: long enough, and the number that opens it.
-- Assumes nothing.
use Rattle.image.proofs.Loading.{unmarked_short, marked_by}
use borrow.Author.Rules.{rules}
use Rattle.image.proofs.opens_with.Goals as goal

pub returns-then-bytes-lt5 : goal.returns-then-bytes-lt5
returns-then-bytes-lt5 c = let a = c.args in unmarked_short a.bytes.now a.wide (search rules)

pub returns : goal.returns
returns c = let a = c.args in marked_by a.bytes.now a.wide _ _ (search rules) c.get_number.ensures.0 c.mark_of.ensures
