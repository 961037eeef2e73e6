-- `departed::Departed::empty` meets its contract: its address is what `address::blank` gives.
-- Assumes nothing.
use mathlib.Core.Path.{ap}
use borrow.Author.Rules.{rules}
use Rattle.address.specs.Here.{Addr}
use Rattle.departed.specs.declared.Departed.{Departed}
use Rattle.departed.proofs.Departed.empty.Goals as goal

abbrev at : Addr → Departed
at a = record { addr = a; number = 0 }

pub returns : goal.returns
returns c = ap at c.blank.ensures
