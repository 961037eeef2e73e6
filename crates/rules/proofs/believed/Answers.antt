-- `rules::believed` meets its contract: a state at a time.
-- Assumes nothing.
use mathlib.Core.Path.{sym, ◌∙◌}
use borrow.Author.Rules.{rules}
use Rattle.model.specs.Handler.{believed}
use Rattle.rules.proofs.believed.Goals as goal

pub returns-then-is_alive : goal.returns-then-is_alive
unfolding believed
returns-then-is_alive c = rw (sym c.is_alive.ensures ∙ c.if-is_alive.true)

pub returns-else-is_alive : goal.returns-else-is_alive
unfolding believed
returns-else-is_alive c = rw (sym c.is_alive.ensures ∙ c.if-is_alive.false)
