-- `cwords::nodes::order_of` meets its contract: a place a turn.
-- Assumes nothing.
use Prim.Native.Nat.{◌-◌}
use Rattle.cwords.specs.Reading.{address_in}
use Rattle.cwords.proofs.Filling.{Filled}
use Rattle.cwords.proofs.nodes.order_of.Given as goal

abbrev pub invariant-loop-i : goal.invariant-loop-i
invariant-loop-i l = Filled address_in l.rows 64 l.initial.out l.i l.out

abbrev pub decreases-loop-i : goal.decreases-loop-i
decreases-loop-i l = 64 - l.i
