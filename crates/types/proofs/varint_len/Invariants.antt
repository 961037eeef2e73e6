-- `types::varint_len` meets its contract: what is counted and what is left come to the whole.
-- Assumes nothing.
use Prim.Native.Nat.{◌≤◌, ◌-◌}
use native.Mathlib.Omega.{arith}
use borrow.Author.Rules.{rules}
use Rattle.types.proofs.Measuring.{Counted, counted_none, counted-ends, counted-more, counted-out}
use Rattle.types.proofs.varint_len.Given as goal

abbrev pub invariant-loop-len : goal.invariant-loop-len
invariant-loop-len l = (l.len ≤ 10) × Counted l.n l.rest l.len

abbrev pub decreases-loop-len : goal.decreases-loop-len
decreases-loop-len l = 10 - l.len
