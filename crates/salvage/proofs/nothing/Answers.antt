-- `salvage::nothing` meets its contract.
-- Assumes nothing.
use Rattle.salvage.proofs.nothing.Goals as goal

pub returns : goal.returns
returns c = λ i. record { addr = c.blank.ensures i; state = 0; number = 0 }
