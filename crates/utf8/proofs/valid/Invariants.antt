-- `utf8::valid` meets its contract: the bytes passed and the bytes left come to the whole.
-- Assumes nothing.
use Prim.Native.Nat.{◌-◌}
use lib.ListN.{length}
use borrow.Author.Rules.{rules}
use Rattle.utf8.proofs.Testing.{Going, going_none, going_end, going_wrong, going_more}
use Rattle.utf8.proofs.valid.Given as goal

abbrev pub invariant-loop-i : goal.invariant-loop-i
invariant-loop-i l = Going l.bytes l.l l.i

abbrev pub decreases-loop-i : goal.decreases-loop-i
decreases-loop-i l = length l.bytes - l.i
