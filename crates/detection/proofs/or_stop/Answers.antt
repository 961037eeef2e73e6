-- `detection::or_stop` meets its contract.
-- Assumes nothing.
use Rattle.detection.specs.Views.{or_stop}
use Rattle.detection.proofs.or_stop.Goals as goal

pub returns-then-fails : goal.returns-then-fails
unfolding or_stop
returns-then-fails c = rw c.if-fails.true

pub returns : goal.returns
unfolding or_stop
returns c = rw c.if-fails.false
