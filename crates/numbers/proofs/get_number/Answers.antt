-- `numbers::get_number` meets its contract.
-- Assumes nothing.
use Prim.Native.Nat.{ℕ, ◌-◌}
use native.Mathlib.Omega.{arith}
use borrow.Author.Rules.{rules}
use Rattle.numbers.proofs.Reading.{Going, going_none, fits, going_more, going_done}
use Rattle.numbers.proofs.get_number.Goals as goal

pub loop-i-init : goal.loop-i-init
loop-i-init c = going_none _ _ _

pub overflow_mul-value : goal.overflow_mul-value
overflow_mul-value c = omega (arith, fits _ _ _ _ _ c.loop-i.invariant (search rules) (search rules))

pub overflow_add-value : goal.overflow_add-value
overflow_add-value c = omega (arith, fits _ _ _ _ _ c.loop-i.invariant (search rules) (search rules))

pub loop-i-preserved : goal.loop-i-preserved
loop-i-preserved c = going_more _ _ _ _ _ c.loop-i.invariant _ (search rules) (search rules) (search rules) (search rules)

pub returns : goal.returns
returns c = going_done _ _ _ _ _ c.loop-i.invariant (search rules)
