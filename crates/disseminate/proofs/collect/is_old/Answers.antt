-- `disseminate::collect::is_old` meets its contract: each test says its part.
-- Assumes nothing.
use Rattle.disseminate.proofs.Sifting.{old-by_parts}
use borrow.Author.Rules.{rules}
use Rattle.disseminate.proofs.collect.is_old.Goals as goal

pub returns : goal.returns
returns c =
    let a = c.args in
    rw (c.both.ensures, c.outdates.ensures, c.same-about.ensures) (old-by_parts a.kind a.news _ a.e c.parts_of-held.ensures)
