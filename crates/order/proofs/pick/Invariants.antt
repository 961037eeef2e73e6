-- `order::pick` meets its contract: what is left to look for gives the answer of the whole.
-- Assumes nothing.
use mathlib.Core.Path.{◌≡◌, ap, sym, ◌∙◌}
use Prim.Native.Nat.{◌+◌, ◌-◌, ◌≤◌, ◌<◌}
use mathlib.Core.Bool.{true}
use native.Mathlib.Omega.{arith}
use native.Mathlib.Nat.{mul-le-mul, le_trans, lt_of_le_of_lt}
use mir.Val.{Fits}
use mir.Syntax.{w64}
use lib.ListN.{length}
use lib.Dec.{lit<}
use Rattle.order.specs.declared.Picked.{Picked}
use Rattle.order.specs.Views.{goes_further}
use Rattle.order.proofs.Picking.{Left, left-start, left_stop, left-short, left-look, left-count, look_bounds, used_fits}
use borrow.Author.Rules.{rules}
use Rattle.order.proofs.pick.Given as goal

abbrev pub invariant-loop-order : goal.invariant-loop-order
invariant-loop-order l =
    Left l.order l.n l.own l.exclusion l.wanted l.draws l.from l.capped l.left l.ahead l.picks l.next

abbrev pub decreases-loop-order : goal.decreases-loop-order
decreases-loop-order l = l.left
