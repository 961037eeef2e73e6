-- `timer_call::Ended::plain` meets its contract.
-- Assumes nothing.
use mathlib.Core.List.{[], ◌∷◌}
use borrow.Author.Rules.{rules}
use Rattle.types.specs.Views.{no_gossip}
use Rattle.timer_call.specs.declared.Ended.{Ended}
use Rattle.timer_call.proofs.Ended.plain.Goals as goal

pub returns : goal.returns
returns c = λ i. record { answer = c.plain.ensures i; events = no_gossip ∷ []; reported = 0 }
