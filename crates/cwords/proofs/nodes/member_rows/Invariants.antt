-- `cwords::nodes::member_rows` meets its contract: a place a turn, each read back.
-- Assumes nothing.
use Prim.Native.Nat.{◌-◌}
use Rattle.cwords.specs.Reading.{member_of}
use Rattle.cwords.specs.Writing.{member_words}
use Rattle.cwords.proofs.Filling.{Backed}
use Rattle.cwords.proofs.nodes.member_rows.Given as goal

abbrev pub invariant-loop-i : goal.invariant-loop-i
invariant-loop-i l = Backed member_words member_of l.values 64 l.initial.out l.i l.out

abbrev pub decreases-loop-i : goal.decreases-loop-i
decreases-loop-i l = 64 - l.i
