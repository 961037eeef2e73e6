-- `cwords::read::departed_of` meets its contract.
-- Assumes nothing.
use Rattle.cwords.specs.Reading.{departed_of}
use Rattle.cwords.proofs.read.departed_of.Goals as goal

pub returns : goal.returns
unfolding departed_of
returns c = cc
