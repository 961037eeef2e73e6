-- `image::mark_of` meets its contract.
-- Assumes nothing.
use Rattle.image.proofs.Loading.{opening-wide, opening_narrow}
use Rattle.image.proofs.mark_of.Goals as goal

pub returns-then-wide : goal.returns-then-wide
returns-then-wide c = opening-wide c.args.wide c.if-wide.true

pub returns : goal.returns
returns c = opening_narrow c.args.wide c.if-wide.false
