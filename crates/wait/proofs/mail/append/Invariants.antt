-- `wait::mail::append` meets its contract: the row is filled from where it ends.
-- Assumes nothing.
use mathlib.Core.Path.{◌≡◌}
use mathlib.Core.List.{◌++◌}
use Prim.Native.Nat.{◌-◌, ◌≤◌}
use lib.ListN.{take}
use Rattle.model.specs.Rows.{pad_to}
use Rattle.types.specs.Views.{no_gossip}
use Rattle.wait.proofs.mail.append.Given as goal

abbrev pub invariant-loop-i : goal.invariant-loop-i
invariant-loop-i l = (l.gossip ≡ pad_to 256 no_gossip (take l.at l.initial.gossip ++ take l.i l.rows)) × (l.i ≤ l.count)

abbrev pub decreases-loop-i : goal.decreases-loop-i
decreases-loop-i l = l.count - l.i
