-- `text::records_at` is safe and ends: each turn counts one record.
-- Assumes nothing.
use Prim.Native.Nat.{◌-◌, ◌≤◌}
use borrow.Author.Rules.{rules}
use Rattle.text.proofs.records.records_at.Given as goal

abbrev pub invariant-loop-given : goal.invariant-loop-given
invariant-loop-given l = (l.given ≤ 257)

abbrev pub decreases-loop-given : goal.decreases-loop-given
decreases-loop-given l = 257 - l.given
