-- `accounts::Account::none` meets its contract.
-- Assumes nothing.
use lib.ListN.{replicate}
use Rattle.accounts.proofs.Account.none.Goals as goal

pub returns : goal.returns
returns c = λ i. record { changes = replicate 65 (c.none-nothing.ensures i); count = 0 }
