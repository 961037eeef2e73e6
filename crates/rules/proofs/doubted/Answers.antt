-- `rules::doubted` meets its contract: equal to the number of one that is not Alive, or too low.
-- Assumes nothing.
use mathlib.Core.Path.{sym, ◌∙◌}
use borrow.Author.Rules.{rules}
use borrow.Author.Tests.{eq-eqb, ne_eqb}
use Rattle.rules.proofs.doubted.Goals as goal

pub returns-then-number-held : goal.returns-then-number-held
returns-then-number-held c = rw (sym c.is_alive.ensures ∙ c.if-is_alive.false, eq-eqb _ _ c.if-number-held.true)

pub returns : goal.returns
returns c = rw (sym c.is_alive.ensures ∙ c.if-is_alive.false, ne_eqb _ _ c.if-number-held.false)
