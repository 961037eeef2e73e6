-- `types::number_size` meets its contract.
-- Assumes nothing.
use mathlib.Core.Path.{◌≡◌}
use native.Mathlib.Omega.{arith}
use borrow.Author.Rules.{rules}
use borrow.Author.Tests.{eq-eqb, ne_eqb}
use Rattle.model.specs.Size.{size_of_number}
use Rattle.types.proofs.number_size.Goals as goal

pub returns-then-n-eq0 : goal.returns-then-n-eq0
unfolding size_of_number
returns-then-n-eq0 c = (rw (eq-eqb _ _ c.if-n-eq0.true), search rules)

pub returns : goal.returns
unfolding size_of_number
returns c = (rw (ne_eqb _ _ c.if-n-eq0.false) (omega arith), search rules)
