-- `image::needs_wide` meets its contract: own, then the rows passed.
-- Assumes nothing.
use mathlib.Core.Path.{◌≡◌}
use mathlib.Core.Bool.{◌||◌}
use Prim.Native.Nat.{◌-◌, ◌≤◌}
use Rattle.image.specs.Forms.{some}
use Rattle.image.specs.Versions.{is_v6}
use Rattle.image.specs.Views.{addresses_of}
use Rattle.image.proofs.Laying.{wide-none, wide-more, wide-told}
use native.Mathlib.Omega.{arith}
use borrow.Author.Rules.{rules}
use Rattle.image.proofs.needs_wide.Given as goal

abbrev pub invariant-loop-i : goal.invariant-loop-i
invariant-loop-i l = (l.i ≤ l.n) × (l.found ≡ (l.initial.found || some is_v6 (addresses_of l.rows l.i)))

abbrev pub decreases-loop-i : goal.decreases-loop-i
decreases-loop-i l = l.n - l.i
