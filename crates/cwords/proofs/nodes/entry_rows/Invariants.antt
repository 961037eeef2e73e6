-- `cwords::nodes::entry_rows` meets its contract: a place a turn, each read back.
-- Assumes nothing.
use Prim.Native.Nat.{◌-◌}
use Rattle.cwords.specs.Reading.{entry_of}
use Rattle.cwords.specs.Writing.{entry_words}
use Rattle.cwords.proofs.Filling.{Backed}
use Rattle.cwords.proofs.nodes.entry_rows.Given as goal

abbrev pub invariant-loop-i : goal.invariant-loop-i
invariant-loop-i l = Backed entry_words entry_of l.values 128 l.initial.out l.i l.out

abbrev pub decreases-loop-i : goal.decreases-loop-i
decreases-loop-i l = 128 - l.i
