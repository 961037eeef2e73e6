-- `order::remove` meets its contract: after i turns the row is the first i of the model's list, and zeros.
-- Assumes nothing.
use mathlib.Core.Path.{◌≡◌, ap}
use mathlib.Core.Logic.{⊎_elim}
use Prim.Native.Nat.{◌-◌}
use native.Mathlib.Omega.{arith}
use lib.ListN.{length, replicate}
use Rattle.laws.specs.Loops.{Closing, close_starts, close_before, close_after, close_ends}
use Rattle.address.specs.Here.{Addr, here}
use borrow.Author.Rules.{rules}
use Rattle.order.proofs.remove.Given as goal

abbrev pub invariant-loop-i : goal.invariant-loop-i
invariant-loop-i l = Closing 64 here.blank l.row l.n l.place l.i l.out

abbrev pub decreases-loop-i : goal.decreases-loop-i
decreases-loop-i l = l.n - l.i
