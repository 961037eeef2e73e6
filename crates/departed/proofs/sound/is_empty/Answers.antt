-- `departed::sound::is_empty` meets its contract: each test says its part.
-- Assumes nothing.
use borrow.Author.Rules.{rules}
use Rattle.departed.proofs.sound.is_empty.Goals as goal

pub returns : goal.returns
returns c =
    rw (c.both.ensures, c.same-free.ensures, c.blank.ensures)
