-- `cwords::nodes::timer_rows` meets its contract: a place a turn, each read back.
-- Assumes nothing.
use Prim.Native.Nat.{◌-◌}
use Rattle.cwords.specs.Reading.{timer_of}
use Rattle.cwords.specs.Writing.{timer_words}
use Rattle.cwords.proofs.Filling.{Backed}
use Rattle.cwords.proofs.nodes.timer_rows.Given as goal

abbrev pub invariant-loop-i : goal.invariant-loop-i
invariant-loop-i l = Backed timer_words timer_of l.values 16 l.initial.out l.i l.out

abbrev pub decreases-loop-i : goal.decreases-loop-i
decreases-loop-i l = 16 - l.i
