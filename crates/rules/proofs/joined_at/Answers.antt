-- `rules::joined_at` meets its contract: listed and greater, or not listed.
-- Assumes nothing.
use lib.Dec.{ltb}
use borrow.Author.Rules.{rules}
use Rattle.model.specs.Handler as M
use Rattle.rules.proofs.Judging.{weigh}
use Rattle.rules.proofs.joined_at.Goals as goal

pub returns : goal.returns
unfolding M.joined_at
returns c =
    let a = c.args in
    weigh _ _ _ (λ h. ltb h.number a.number) (M.Raise a.a a.number) (λ h. M.Low) (M.Enter a.a a.number) c.weighed.ensures c.find-held.ensures.value
