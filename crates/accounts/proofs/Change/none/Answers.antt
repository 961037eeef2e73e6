-- `accounts::Change::none` meets its contract.
-- Assumes nothing.
use Rattle.accounts.proofs.Change.none.Goals as goal

pub returns : goal.returns
returns c = cc
