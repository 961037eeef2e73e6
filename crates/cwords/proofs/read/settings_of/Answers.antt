-- `cwords::read::settings_of` meets its contract.
-- Assumes nothing.
use Rattle.cwords.specs.Reading.{settings_of}
use Rattle.cwords.proofs.read.settings_of.Goals as goal

pub returns : goal.returns
unfolding settings_of
returns c =
    rw (c.capped-3.ensures, c.capped-2.ensures, c.capped.ensures, c.first_wait.ensures)
