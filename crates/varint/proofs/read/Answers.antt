-- `varint::read` meets its contract: each way out by the bytes passed.
-- Assumes nothing.
use Prim.Native.Nat.{◌-◌}
use native.Mathlib.Omega.{arith}
use borrow.Author.Rules.{rules}
use Rattle.varint.proofs.Reading.{Going, going_none, room, going_short, going_last, going_more, tenth_over, tenth_fits, tenth_last, fits}
use Rattle.varint.proofs.read.Goals as goal

pub loop-i-init : goal.loop-i-init
loop-i-init c = going_none _

pub returns-then-bytes-i : goal.returns-then-bytes-i
returns-then-bytes-i c = let l = c.loop-i in going_short _ l.value l.scale l.i l.invariant (search rules)

pub overflow_mul-result : goal.overflow_mul-result
overflow_mul-result c = let l = c.loop-i in omega (arith, fits _ _ _ _ l.invariant c.wide-b.result (search rules) (search rules))

pub overflow_add-result : goal.overflow_add-result
overflow_add-result c = let l = c.loop-i in omega (arith, fits _ _ _ _ l.invariant c.wide-b.result (search rules) (search rules))

pub returns-then-b-lt128 : goal.returns-then-b-lt128
returns-then-b-lt128 c = let l = c.loop-i in going_last _ _ _ _ l.invariant _ (search rules) (search rules) (search rules) (fits _ _ _ _ l.invariant c.wide-b.result (search rules) (search rules))

pub overflow_mul-value : goal.overflow_mul-value
overflow_mul-value c = let l = c.loop-i in omega (arith, fits _ _ _ _ l.invariant (c.wide-b.result - 128) (search rules) (omega arith))

pub overflow_add-value : goal.overflow_add-value
overflow_add-value c = let l = c.loop-i in omega (arith, fits _ _ _ _ l.invariant (c.wide-b.result - 128) (search rules) (omega arith))

pub overflow_mul-scale : goal.overflow_mul-scale
overflow_mul-scale c = let l = c.loop-i in omega (arith, room _ _ _ _ l.invariant (search rules))

pub loop-i-preserved : goal.loop-i-preserved
loop-i-preserved c = let l = c.loop-i in going_more _ _ _ _ l.invariant _ (search rules) (search rules) (search rules) (search rules) (search rules)

pub returns-then-bytes-le9 : goal.returns-then-bytes-le9
returns-then-bytes-le9 c = let l = c.loop-i in going_short _ _ _ _ l.invariant (omega arith)

pub returns-then-last-gt1 : goal.returns-then-last-gt1
returns-then-last-gt1 c = let l = c.loop-i in tenth_over _ _ _ _ l.invariant c.wide-last.result (omega arith) (search rules) (search rules) (search rules)

pub overflow_mul-result-2 : goal.overflow_mul-result-2
overflow_mul-result-2 c = let l = c.loop-i in omega (arith, tenth_fits _ _ _ _ l.invariant c.wide-last.result (omega arith) (search rules))

pub overflow_add-result-2 : goal.overflow_add-result-2
overflow_add-result-2 c = let l = c.loop-i in omega (arith, tenth_fits _ _ _ _ l.invariant c.wide-last.result (omega arith) (search rules))

pub returns : goal.returns
returns c = let l = c.loop-i in tenth_last _ _ _ _ l.invariant _ (omega arith) (search rules) (search rules) (search rules)
