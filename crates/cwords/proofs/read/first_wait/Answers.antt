-- `cwords::read::first_wait` meets its contract.
-- Assumes nothing.
use mathlib.Core.Path.{sym, ◌∙◌}
use Rattle.cwords.proofs.read.first_wait.Goals as goal

pub returns-then-both : goal.returns-then-both
returns-then-both c = rw (sym c.both.ensures ∙ c.if-both.true) c.capped.ensures

pub returns : goal.returns
returns c = rw (sym c.both.ensures ∙ c.if-both.false)
