-- `cwords::read::zeroed` meets its contract.
-- Assumes nothing.
use Rattle.cwords.proofs.read.zeroed.Goals as goal

pub returns : goal.returns
returns c =
    rw (c.both-2.ensures, c.both.ensures, c.same-free.ensures, c.blank.ensures)
