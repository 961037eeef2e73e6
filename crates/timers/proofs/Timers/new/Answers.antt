-- `timers::Timers::new` meets its contract: each place holds what `Timer::empty` gives.
-- Assumes nothing.
use Rattle.std.proofs.Common.{replicate, ap, rules}
use Rattle.timers.specs.declared.Timer.{Timer}
use Rattle.timers.specs.declared.Timers.{Timers}
use Rattle.timers.proofs.Timers.new.Goals as goal

abbrev filled : Timer → Timers
filled t = record { entries = replicate 16 t; len = 0 }

pub returns : goal.returns
returns c = ap filled c.empty-t.ensures
