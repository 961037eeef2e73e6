-- `message::gossip::note` meets its contract: nothing is said, or one event stands behind the others.
-- Assumes nothing.
-- the report with one gossip more
use mathlib.Core.Path.{ap, sym, ◌∙◌}
use Prim.Native.Nat.{ℕ, ◌+◌}
use lib.ListN.{set}
use borrow.Author.Rules.{rules}
use Rattle.types.specs.declared.Gossip.{Gossip}
use Rattle.types.specs.Views.{from-to_gossip}
use Rattle.rules.specs.declared.News.{News}
use Rattle.rules.specs.Views.{to_news}
use Rattle.message.specs.declared.gossip.Report.{Report}
use Rattle.message.specs.Views.{noted}
use Rattle.message.proofs.gossip.note.Goals as goal

abbrev with-one : Report → ℕ → Gossip → Report
with-one r old g = record { events = set r.events r.count g; count = r.count + 1; collected = r.collected + old }

pub returns-in-Emits : goal.returns-in-Emits
returns-in-Emits c =
    let a = c.args in
    let r = a.report in
    ap (with-one r a.old) (sym (from-to_gossip (record { event = c.in-Emits.event }))) ∙ sym (ap (λ (w : News). noted r (to_news w) a.old) c.in-Emits.is)
