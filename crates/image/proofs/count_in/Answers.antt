-- `image::count_in` meets its contract.
-- Assumes nothing.
use Rattle.image.proofs.Loading.{counted-by}
use borrow.Author.Rules.{rules}
use Rattle.image.proofs.count_in.Goals as goal

pub returns : goal.returns
returns c = (counted-by c.args.bytes.now c.args.wide _ _ c.head_size.ensures.0 c.get_number.ensures.0, search rules)
