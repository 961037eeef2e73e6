-- `disseminate::noted` meets its contract: what is left of the notes gives the same answer.
-- Assumes nothing.
use mathlib.Core.Path.{◌≡◌, refl, sym, ◌∙◌}
use Prim.Native.Nat.{◌≤◌}
use native.Mathlib.Omega.{arith}
use Rattle.disseminate.proofs.Noting.{was, was-there, was_other, was_apart, was-none}
use borrow.Author.Rules.{rules}
use Rattle.disseminate.proofs.noted.Given as goal

abbrev pub invariant-loop-i : goal.invariant-loop-i
invariant-loop-i l = (l.count ≤ 64) × (l.i ≤ l.count) × (was l.rows l.sent l.g l.sends l.count ≡ was l.rows l.sent l.g l.sends l.i)

abbrev pub decreases-loop-i : goal.decreases-loop-i
decreases-loop-i l = l.i
