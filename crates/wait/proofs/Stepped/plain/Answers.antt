-- `wait::Stepped::plain` meets its contract.
-- Assumes nothing.
use mathlib.Core.List.{[], ◌∷◌}
use lib.ListN.{replicate}
use Rattle.types.specs.Views.{no_gossip}
use Rattle.wait.proofs.Stepped.plain.Goals as goal

pub returns : goal.returns
returns c =
    let a = c.args in
    λ i. record { answer = c.plain.ensures i; wait = a.wait; gossip = replicate 256 no_gossip; written = 0; events = no_gossip ∷ []; reported = 0 }
