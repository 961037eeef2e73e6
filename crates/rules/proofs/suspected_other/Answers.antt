-- `rules::suspected_other` meets its contract: listed and believed.
-- Assumes nothing.
use mathlib.Core.Path.{◌∙◌}
use mathlib.Core.Bool.{◌&&◌, not}
use lib.Dec.{eqb}
use borrow.Author.Rules.{rules}
use Rattle.model.specs.Rows.{pick}
use Rattle.model.specs.Words.{is_alive}
use Rattle.model.specs.Handler as M
use Rattle.rules.specs.declared.Verdict.TheVariants.{Unknown, Suspect}
use Rattle.rules.proofs.Judging.{chosen, weigh}
use Rattle.rules.proofs.suspected_other.Goals as goal

pub returns : goal.returns
unfolding M.suspected_other
returns c =
    let a = c.args in
    let held = c.find-held.result in
    let low = c.doubted.ensures ∙ chosen (not (is_alive held.state) && eqb a.number held.number) M.Equal M.Low in
    weigh _ _ _ (λ h. M.believed h.state h.number a.number) (M.Suspect a.a a.number)
    (λ h. pick (not (is_alive h.state) && eqb a.number h.number) M.Equal M.Low) M.Unknown
    (c.weighed.ensures ∙ (λ i. pick held.listed (pick (c.believed.ensures i) (Suspect a.a a.number) (low i)) Unknown))
    c.find-held.ensures.value
