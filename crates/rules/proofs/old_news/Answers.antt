-- `rules::old_news` meets its contract: nothing is said, or what the event outdates is counted.
-- Assumes nothing.
use mathlib.Core.Path.{ap, sym, ◌∙◌}
use native.Mathlib.Omega.{arith}
use borrow.Author.Rules.{rules}
use Rattle.heap.specs.Views.{heap_view}
use Rattle.rules.specs.declared.News.{News}
use Rattle.rules.specs.Views.{to_news, collects_for}
use Rattle.rules.proofs.old_news.Goals as goal

pub returns-in-Silent : goal.returns-in-Silent
returns-in-Silent c =
    let a = c.args in
    record { value = sym (ap (λ (w : News). collects_for a.on (to_news w) (heap_view a.alive)) c.in-Silent.is); within = omega arith }

pub returns-in-Emits : goal.returns-in-Emits
returns-in-Emits c =
    let a = c.args in
    record { value = c.old_news.ensures.value ∙ sym (ap (λ (w : News). collects_for a.on (to_news w) (heap_view a.alive)) c.in-Emits.is); within = c.old_news.ensures.within }
