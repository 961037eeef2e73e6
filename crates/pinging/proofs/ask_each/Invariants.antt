-- `pinging::ask_each` meets its contract: what is left gives the answer of the whole.
-- Assumes nothing.
use Prim.Native.Nat.{◌-◌}
use Rattle.pinging.proofs.Asking.{Left}
use Rattle.pinging.proofs.ask_each.Given as goal

abbrev pub invariant-loop-i : goal.invariant-loop-i
invariant-loop-i l = Left l.suspect l.row l.count l.initial.ahead l.ahead l.mail l.i

abbrev pub decreases-loop-i : goal.decreases-loop-i
decreases-loop-i l = l.count - l.i
