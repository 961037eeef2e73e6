-- `rules::suspected` meets its contract: of the own address or of another.
-- Assumes nothing.
use mathlib.Core.Path.{sym, ◌∙◌}
use borrow.Author.Rules.{rules}
use Rattle.model.specs.Handler as M
use Rattle.rules.proofs.suspected.Goals as goal

pub returns-then-same : goal.returns-then-same
unfolding M.suspected
returns-then-same c = rw (sym c.same.ensures ∙ c.if-same.true) c.refuted.ensures

pub returns : goal.returns
unfolding M.suspected
returns c = rw (sym c.same.ensures ∙ c.if-same.false) c.suspected_other.ensures
