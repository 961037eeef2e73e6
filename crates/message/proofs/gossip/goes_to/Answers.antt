-- `message::gossip::goes_to` meets its contract: nothing is said, or the event's kind is the heap's or not.
-- Assumes nothing.
use mathlib.Core.Path.{ap, sym, ◌∙◌}
use borrow.Author.Rules.{rules}
use Rattle.rules.specs.declared.News.{News}
use Rattle.rules.specs.Views.{to_news}
use Rattle.message.specs.Views.{goes_to}
use Rattle.message.proofs.gossip.goes_to.Goals as goal

pub returns-in-Emits : goal.returns-in-Emits
returns-in-Emits c =
    let a = c.args in
    c.same_kind.ensures ∙ sym (ap (λ (w : News). goes_to a.kind (to_news w)) c.in-Emits.is)
