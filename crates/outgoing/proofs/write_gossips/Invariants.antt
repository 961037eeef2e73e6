-- `outgoing::write_gossips` meets its contract: the records passed stand in the row.
-- Assumes nothing.
use mathlib.Core.Path.{◌≡◌, ap}
use native.Mathlib.Omega.{arith}
use Prim.Native.Nat.{ℕ, ◌-◌, ◌≤◌}
use lib.ListN.{take}
use Rattle.varint.specs.Laid.{Laid, laid_as}
use Rattle.incoming.specs.Encode.{gossip_fields}
use Rattle.outgoing.specs.Laying.{gossips_laid, gossips_room, no_laid}
use borrow.Author.Rules.{rules}
use Rattle.outgoing.proofs.write_gossips.Given as goal

abbrev pub invariant-loop-i : goal.invariant-loop-i
invariant-loop-i l = (l.i ≤ l.n) × Laid l.initial.out l.at (gossip_fields (take l.i l.row)) l.out l.next

abbrev pub decreases-loop-i : goal.decreases-loop-i
decreases-loop-i l = l.n - l.i
