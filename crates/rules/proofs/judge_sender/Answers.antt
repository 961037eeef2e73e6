-- `rules::judge_sender` meets its contract: listed, or D decides the number.
-- Assumes nothing.
use mathlib.Core.Path.{refl, sym, ◌∙◌}
use borrow.Author.Rules.{rules}
use Rattle.model.specs.Node.{death_plus_one}
use Rattle.model.specs.Handler as M
use Rattle.rules.specs.Views.{to_found}
use Rattle.rules.proofs.Judging.{at-end, next}
use Rattle.rules.proofs.judge_sender.Goals as goal

pub returns-then-lists : goal.returns-then-lists
unfolding M.judge_sender
returns-then-lists c = rw (sym c.lists.ensures ∙ c.if-lists.true)

pub returns-in-Missing : goal.returns-in-Missing
unfolding M.judge_sender
returns-in-Missing c =
    let a = c.args in
    rw (sym c.lists.ensures ∙ c.if-lists.false) (at-end (death_plus_one (to_found a.dead)) (M.Enter a.a) (sym c.death_plus_one-next.ensures ∙ c.in-Missing.is))

pub returns-in-At : goal.returns-in-At
unfolding M.judge_sender
returns-in-At c =
    let a = c.args in
    rw (sym c.lists.ensures ∙ c.if-lists.false) (next (death_plus_one (to_found a.dead)) (M.Enter a.a) _ _ (sym c.death_plus_one-next.ensures ∙ c.in-At.is) refl)
