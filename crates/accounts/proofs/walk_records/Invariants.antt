-- `accounts::walk_records` meets its contract: what is left of the records gives the moments of the whole.
-- Assumes nothing.
use Prim.Native.Nat.{◌-◌, ◌≤◌}
use Rattle.node.specs.Views.{view_node}
use Rattle.message.specs.Views.{records_of}
use Rattle.accounts.specs.Walking.{Going}
use Rattle.accounts.proofs.walk_records.Given as goal

abbrev pub invariant-loop-i : goal.invariant-loop-i
invariant-loop-i l = (l.i ≤ l.given) × Going (records_of l.rows l.given) (view_node l.node) l.draws l.i l.used l.at l.account

abbrev pub decreases-loop-i : goal.decreases-loop-i
decreases-loop-i l = l.given - l.i
