-- `cwords::nodes::entries_of` meets its contract: a place a turn.
-- Assumes nothing.
use Prim.Native.Nat.{◌-◌}
use Rattle.cwords.specs.Reading.{entry_of}
use Rattle.cwords.proofs.Filling.{Filled}
use Rattle.cwords.proofs.nodes.entries_of.Given as goal

abbrev pub invariant-loop-i : goal.invariant-loop-i
invariant-loop-i l = Filled entry_of l.rows 128 l.initial.out l.i l.out

abbrev pub decreases-loop-i : goal.decreases-loop-i
decreases-loop-i l = 128 - l.i
