-- `image::get_rows` meets its contract: the places passed stand in the rows.
-- Assumes nothing.
use Prim.Native.Nat.{◌-◌}
use Rattle.image.proofs.Loading.{Going, going_none, going_more, going_done, place-room}
use borrow.Author.Rules.{rules}
use Rattle.image.proofs.get_rows.Given as goal

abbrev pub invariant-loop-i : goal.invariant-loop-i
invariant-loop-i l = Going l.wide l.bytes l.n l.table l.order l.good l.i

abbrev pub decreases-loop-i : goal.decreases-loop-i
decreases-loop-i l = l.n - l.i
