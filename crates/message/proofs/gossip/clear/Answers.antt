-- `message::gossip::clear` meets its contract: nothing is said, or what the event outdates goes.
-- Assumes nothing.
use mathlib.Core.Path.{ap, sym, ◌∙◌}
use borrow.Author.Rules.{rules}
use Rattle.rules.specs.declared.News.{News}
use Rattle.rules.specs.Views.{to_news}
use Rattle.message.specs.Views.{cleared_for}
use Rattle.message.proofs.gossip.clear.Goals as goal

pub returns-in-Silent : goal.returns-in-Silent
returns-in-Silent c = let a = c.args in sym (ap (λ (w : News). cleared_for a.old (to_news w) a.alive) c.in-Silent.is)

pub returns-in-Emits : goal.returns-in-Emits
returns-in-Emits c =
    let a = c.args in
    c.clear.ensures ∙ sym (ap (λ (w : News). cleared_for a.old (to_news w) a.alive) c.in-Emits.is)
