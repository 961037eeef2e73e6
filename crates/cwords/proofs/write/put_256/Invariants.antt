-- `cwords::write::put_256` meets its contract: a place a turn.
-- Assumes nothing.
use Prim.Native.Nat.{◌-◌}
use Rattle.cwords.specs.Writing.{gossip_words}
use Rattle.cwords.proofs.Filling.{Filled}
use Rattle.cwords.proofs.write.put_256.Given as goal

abbrev pub invariant-loop-i : goal.invariant-loop-i
invariant-loop-i l = Filled gossip_words l.a l.k l.initial.out l.i l.out

abbrev pub decreases-loop-i : goal.decreases-loop-i
decreases-loop-i l = l.k - l.i
