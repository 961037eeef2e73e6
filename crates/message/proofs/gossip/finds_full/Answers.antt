-- `message::gossip::finds_full` meets its contract: nothing is said, or the heap's entries are counted.
-- Assumes nothing.
use mathlib.Core.Path.{ap, sym, ◌∙◌}
use Prim.Native.Nat.{ℕ}
use lib.Dec.{leb}
use borrow.Author.Rules.{rules}
use Rattle.rules.specs.declared.News.{News}
use Rattle.rules.specs.Views.{to_news}
use Rattle.message.specs.Views.{finds_full}
use Rattle.message.proofs.gossip.finds_full.Goals as goal

pub returns-in-Emits : goal.returns-in-Emits
returns-in-Emits c =
    let a = c.args in
    ap (leb 128) c.of_kind.ensures ∙ sym (ap (λ (w : News). finds_full (to_news w) a.alive a.deceased) c.in-Emits.is)
