-- `timers::Timer::empty` meets its contract: its address is what `address::blank` gives.
-- Assumes nothing.
use Rattle.std.proofs.Common.{ap, rules}
use Rattle.address.specs.Here.{Addr}
use Rattle.timers.specs.declared.Timer.{Timer}
use Rattle.timers.proofs.Timer.empty.Goals as goal

abbrev at : Addr → Timer
at a = record { addr = a; number = 0; since = 0 }

pub returns : goal.returns
returns c = ap at c.blank.ensures
