-- `node::Letter::none` meets its contract: its addresses are what `address::blank` gives.
-- Assumes nothing.
use mathlib.Core.Path.{ap}
use borrow.Author.Rules.{rules}
use Rattle.address.specs.Here.{Addr}
use Rattle.types.specs.declared.Action.TheVariants.{Ping}
use Rattle.types.specs.declared.Optional.TheVariants.{Absent}
use Rattle.node.specs.declared.Letter.{Letter}
use Rattle.node.proofs.Letter.none.Goals as goal

abbrev to : Addr → Letter
to a = record { target = a; action = Ping a Absent; count = 0 }

pub returns : goal.returns
returns c = ap to c.blank-blank.ensures
