-- `message::gossip::no_report` meets its contract.
-- Assumes nothing.
use mathlib.Core.Path.{ap}
use mathlib.Core.List.{List}
use borrow.Author.Rules.{rules}
use Rattle.types.specs.declared.Gossip.{Gossip}
use Rattle.message.specs.declared.gossip.Report.{Report}
use Rattle.message.proofs.gossip.no_report.Goals as goal

pub returns : goal.returns
returns c = ap (λ (e : List Gossip). record { events = e; count = 0; collected = 0 }) c.no_events.ensures
