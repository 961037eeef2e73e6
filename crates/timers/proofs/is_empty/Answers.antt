-- `timers::is_empty` meets its contract: each test says its part.
-- Assumes nothing.
use Rattle.std.proofs.Common.{rules}
use Rattle.timers.proofs.is_empty.Goals as goal

pub returns : goal.returns
returns c =
    rw (c.both-2.ensures, c.both.ensures, c.same-free.ensures, c.blank.ensures)
