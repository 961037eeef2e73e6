-- `cwords::write::letter_rows` meets its contract: a place a turn.
-- Assumes nothing.
use Prim.Native.Nat.{◌-◌}
use Rattle.cwords.specs.Writing.{letter_words}
use Rattle.cwords.proofs.Filling.{Filled}
use Rattle.cwords.proofs.write.letter_rows.Given as goal

abbrev pub invariant-loop-i : goal.invariant-loop-i
invariant-loop-i l = Filled letter_words l.ls 4 l.initial.out l.i l.out

abbrev pub decreases-loop-i : goal.decreases-loop-i
decreases-loop-i l = 4 - l.i
