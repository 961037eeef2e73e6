-- `fields::fixed` meets its contract: four or eight bytes.
-- Assumes nothing.
use native.Mathlib.Omega.{arith}
use borrow.Author.Rules.{rules}
use Rattle.fields.proofs.Fielding.{fixed-over, fixed_found}
use Rattle.fields.proofs.fixed.Goals as goal

pub returns-then-bytes-head : goal.returns-then-bytes-head
returns-then-bytes-head c =
    fixed-over _ _ _ _ _ (omega arith)

pub returns-then-bytes-head-2 : goal.returns-then-bytes-head-2
returns-then-bytes-head-2 c =
    fixed-over _ _ _ _ _ (omega arith)

pub returns : goal.returns
returns c =
    fixed_found _ _ _ _ _ (omega arith)
