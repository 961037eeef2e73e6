-- `rules::deceased` meets its contract: listed and no lower.
-- Assumes nothing.
use lib.Dec.{leb}
use borrow.Author.Rules.{rules}
use Rattle.model.specs.Handler as M
use Rattle.rules.proofs.Judging.{weigh}
use Rattle.rules.proofs.deceased.Goals as goal

pub returns : goal.returns
unfolding M.deceased
returns c =
    let a = c.args in
    weigh _ _ _ (λ h. leb h.number a.number) (M.Bury a.a a.number) (λ h. M.Low) M.Unknown c.weighed.ensures c.find-held.ensures.value
