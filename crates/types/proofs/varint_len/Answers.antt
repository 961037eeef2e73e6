-- `types::varint_len` meets its contract: what is counted and what is left come to the whole.
-- Assumes nothing.
use Prim.Native.Nat.{◌≤◌, ◌-◌}
use native.Mathlib.Omega.{arith}
use borrow.Author.Rules.{rules}
use Rattle.types.proofs.Measuring.{Counted, counted_none, counted-ends, counted-more, counted-out}
use Rattle.types.proofs.varint_len.Goals as goal

pub loop-len-init : goal.loop-len-init
loop-len-init c = (search rules, counted_none _)

pub returns-then-rest-lt128 : goal.returns-then-rest-lt128
returns-then-rest-lt128 c = (counted-ends _ _ _ c.if-rest-lt128.true c.loop-len.invariant.1, search rules)

pub loop-len-preserved : goal.loop-len-preserved
loop-len-preserved c = (search rules, counted-more _ _ _ c.if-rest-lt128.false (search rules) c.loop-len.invariant.1)

pub returns : goal.returns
returns c = (counted-out _ _ c.loop-len.len (omega arith) c.loop-len.invariant.1, search rules)
