-- `departed::sound::all_distinct` meets its contract: those from i on stand once, and their slots are marked.
-- Assumes nothing.
use mathlib.Core.Path.{◌≡◌, refl, ap, sym, ◌∙◌, subst}
use mathlib.Core.Bool.{true}
use Prim.Native.Nat.{ℕ, ◌-◌, ◌≤◌}
use native.Mathlib.Omega.{arith}
use lib.ListN.{length, drop}
use Rattle.address.specs.Here.{here}
use Rattle.model.specs.Sound.{distinct}
use Rattle.departed.proofs.Seeking.{addresses, none_left}
use Rattle.departed.proofs.Marking.{Marked, mark-start, unmarked, again, once, marks-next}
use borrow.Author.Rules.{rules}
use Rattle.departed.proofs.sound.all_distinct.Given as goal

abbrev pub invariant-loop-i : goal.invariant-loop-i
invariant-loop-i l = (w : l.n ≤ length l.entries) × (l.i ≤ l.n) × (distinct here.same (drop l.i (addresses l.entries l.n w)) ≡ true) × Marked l.marks (drop l.i (addresses l.entries l.n w))

abbrev pub decreases-loop-i : goal.decreases-loop-i
decreases-loop-i l = l.i
