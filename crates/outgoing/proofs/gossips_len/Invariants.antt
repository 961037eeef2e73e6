-- `outgoing::gossips_len` meets its contract: the records passed and their length.
-- Assumes nothing.
use mathlib.Core.Path.{◌≡◌, ap, ◌∙◌}
use native.Mathlib.Omega.{arith}
use Prim.Native.Nat.{ℕ, ◌-◌, ◌+◌, ◌*◌, ◌≤◌}
use lib.ListN.{length, take}
use Rattle.incoming.specs.Encode.{gossip_fields}
use Rattle.outgoing.specs.Laying.{gossips_count, no_count}
use borrow.Author.Rules.{rules}
use Rattle.outgoing.proofs.gossips_len.Given as goal

abbrev pub invariant-loop-i : goal.invariant-loop-i
invariant-loop-i l = (l.i ≤ l.n) × (l.sum ≡ length (gossip_fields (take l.i l.row))) × (l.sum ≤ 129 * l.i)

abbrev pub decreases-loop-i : goal.decreases-loop-i
decreases-loop-i l = l.n - l.i
