-- `rules::recovered` meets its contract: listed and greater.
-- Assumes nothing.
use lib.Dec.{ltb}
use borrow.Author.Rules.{rules}
use Rattle.model.specs.Handler as M
use Rattle.rules.proofs.Judging.{weigh}
use Rattle.rules.proofs.recovered.Goals as goal

pub returns : goal.returns
unfolding M.recovered
returns c =
    let a = c.args in
    weigh _ _ _ (λ h. ltb h.number a.number) (M.Recover a.a a.number) (λ h. M.Low) M.Unknown c.weighed.ensures c.find-held.ensures.value
