-- `pinging::suspicion_of` meets its contract.
-- Assumes nothing.
use Rattle.pinging.proofs.suspicion_of.Goals as goal

pub returns : goal.returns
returns c = rw c.new_node_suspected.ensures
