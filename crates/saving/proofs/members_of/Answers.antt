-- `saving::members_of` meets its contract.
-- Assumes nothing.
use Rattle.saving.proofs.members_of.Goals as goal

pub returns : goal.returns
returns c =
    let l = c.args.loaded in
    λ i. record { table = l.table; len = l.len; order = record { row = l.order; position = l.position }; lamps = c.lamps_of.ensures i }
