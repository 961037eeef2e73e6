-- `accounts::only_sender` meets its contract.
-- Assumes nothing.
use lib.ListN.{replicate}
use Rattle.types.specs.declared.Optional.TheVariants.{Given}
use Rattle.accounts.proofs.only_sender.Goals as goal

pub returns : goal.returns
returns c = λ i. record { rows = replicate 64 (c.none-nothing.ensures i); given = 0; sender = Given c.args.from }
