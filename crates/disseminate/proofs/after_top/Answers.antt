-- `disseminate::after_top` meets its contract: the top goes or sinks.
-- Assumes nothing.
use mathlib.Core.Path.{◌∙◌, ap}
use Rattle.heap.specs.Views.{to_entry, heap_view, pack_heap}
use Rattle.disseminate.proofs.Pushing.{take_removes, take_sinks}
use borrow.Author.Rules.{rules}
use Rattle.disseminate.proofs.after_top.Goals as goal

pub returns-then-limit-sends : goal.returns-then-limit-sends
returns-then-limit-sends c =
    let a = c.args in
    c.pop.ensures ∙ ap pack_heap (take_removes a.limit (to_entry a.top) (heap_view a.h) (search rules))

pub returns : goal.returns
returns c =
    let a = c.args in
    c.sink_top.ensures ∙ ap pack_heap (take_sinks a.limit (to_entry a.top) (heap_view a.h) (search rules))
