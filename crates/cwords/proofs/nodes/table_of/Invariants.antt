-- `cwords::nodes::table_of` meets its contract: a place a turn.
-- Assumes nothing.
use Prim.Native.Nat.{◌-◌}
use Rattle.cwords.specs.Reading.{member_of}
use Rattle.cwords.proofs.Filling.{Filled}
use Rattle.cwords.proofs.nodes.table_of.Given as goal

abbrev pub invariant-loop-i : goal.invariant-loop-i
invariant-loop-i l = Filled member_of l.rows 64 l.initial.out l.i l.out

abbrev pub decreases-loop-i : goal.decreases-loop-i
decreases-loop-i l = 64 - l.i
