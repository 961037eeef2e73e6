-- `events::is_utf8` meets its contract: what says an address is its text, and that is UTF-8.
-- Assumes nothing.
use mathlib.Core.Path.{sym, ◌∙◌}
use borrow.Author.Rules.{rules}
use Rattle.iptext.specs.Canonical.{given-utf8}
use Rattle.events.proofs.is_utf8.Goals as goal

pub returns-in-Given : goal.returns-in-Given
returns-in-Given c = sym (given-utf8 _ _ (sym c.requires ∙ c.in-Given.is))
