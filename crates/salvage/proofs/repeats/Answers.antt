-- `salvage::repeats` meets its contract: found before the end.
-- Assumes nothing.
use borrow.Author.Rules.{rules}
use Rattle.salvage.proofs.Judging.{repeat_is}
use Rattle.salvage.proofs.repeats.Goals as goal

pub returns : goal.returns
returns c =
    let a = c.args in
    repeat_is a.row a.n a.a _ (search rules) c.find_place.ensures.value
