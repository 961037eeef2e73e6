-- `image::state_of` meets its contract.
-- Assumes nothing.
use Rattle.image.proofs.Loading.{state_alive, state_pending, state_suspected}
use borrow.Author.Rules.{rules}
use Rattle.image.proofs.state_of.Goals as goal

pub returns-then-n-eq0 : goal.returns-then-n-eq0
returns-then-n-eq0 c = state_alive _ (search rules)

pub returns-then-n-eq1 : goal.returns-then-n-eq1
returns-then-n-eq1 c = state_pending _ (search rules)

pub returns : goal.returns
returns c = state_suspected _ (search rules) (search rules)
