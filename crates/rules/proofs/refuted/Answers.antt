-- `rules::refuted` meets its contract: the last number has no next.
-- Assumes nothing.
use mathlib.Core.Path.{refl, sym, ◌∙◌}
use borrow.Author.Rules.{rules}
use Rattle.model.specs.Node.{one_added}
use Rattle.model.specs.Handler as M
use Rattle.rules.proofs.Judging.{at-end, next}
use Rattle.rules.proofs.refuted.Goals as goal

pub returns-in-Missing : goal.returns-in-Missing
returns-in-Missing c = at-end (one_added c.args.number) M.Refute (sym c.plus_one-next.ensures ∙ c.in-Missing.is)

pub returns-in-At : goal.returns-in-At
returns-in-At c = next (one_added c.args.number) M.Refute _ _ (sym c.plus_one-next.ensures ∙ c.in-At.is) refl
