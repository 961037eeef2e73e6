-- `why::heap_stop` meets its contract: nothing is said, or the heap's entries are counted.
-- Assumes nothing.
-- what stops news
use mathlib.Core.Path.{ap, sym, ◌∙◌}
use Rattle.rules.specs.declared.News.{News}
use Rattle.rules.specs.Views.{to_news}
use Rattle.why.specs.declared.Stop.{Stop}
use Rattle.why.specs.declared.Stop.TheVariants as stop
use Rattle.why.specs.Stopped.{heap_stop}
use Rattle.why.proofs.Weighing.{heap-full, heap_room}
use Rattle.why.proofs.heap_stop.Lts as lts
use Rattle.why.proofs.heap_stop.Tie as tie
use Rattle.why.proofs.heap_stop.Reads as reads
use Rattle.why.proofs.heap_stop.Goals as goal

abbrev stops : lts.Start tie.the-claims reads.Pre reads.Post → News → Stop
stops s w = heap_stop (to_news w) s.args.alive s.args.deceased

pub returns-then-of_kind-ge-CAPACITY : goal.returns-then-of_kind-ge-CAPACITY
returns-then-of_kind-ge-CAPACITY c =
    ap stop.By c.full_of.ensures ∙ heap-full c.in-Emits.kind c.args.alive c.args.deceased _ c.of_kind.ensures c.if-of_kind-ge-CAPACITY.true ∙ sym (ap (stops c.before.before.before.before) c.in-Emits.is)

pub returns-else-of_kind-ge-CAPACITY : goal.returns-else-of_kind-ge-CAPACITY
returns-else-of_kind-ge-CAPACITY c =
    heap_room c.in-Emits.kind c.args.alive c.args.deceased _ c.of_kind.ensures c.if-of_kind-ge-CAPACITY.false ∙ sym (ap (stops c.before.before.before) c.in-Emits.is)
