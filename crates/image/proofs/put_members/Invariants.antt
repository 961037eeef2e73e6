-- `image::put_members` meets its contract: the rows passed stand there.
-- Assumes nothing.
use mathlib.Core.Path.{◌≡◌, ap}
use mathlib.Core.List.{map}
use Prim.Native.Nat.{ℕ, ◌-◌, ◌≤◌}
use lib.ListN.{take}
use Rattle.member.specs.Views.{to_member}
use Rattle.varint.specs.Laid.{Laid, laid_as}
use Rattle.image.specs.Views.{members_bytes}
use Rattle.image.proofs.Laying.{none-laid, place-room, more-laid}
use native.Mathlib.Omega.{arith}
use borrow.Author.Rules.{rules}
use Rattle.image.proofs.put_members.Given as goal

abbrev pub invariant-loop-i : goal.invariant-loop-i
invariant-loop-i l = (l.i ≤ l.n) × Laid l.initial.out l.at (members_bytes l.wide (map to_member (take l.i l.rows))) l.out l.next

abbrev pub decreases-loop-i : goal.decreases-loop-i
decreases-loop-i l = l.n - l.i
