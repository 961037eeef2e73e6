-- `why::stop_of` meets its contract: the list first, then the heap.
-- Assumes nothing.
-- the verdict's news, what the heaps say to it, and that after the list
use mathlib.Core.Path.{ap, sym, ◌∙◌}
use Prim.Native.Nat.{ℕ, ◌-◌}
use Rattle.address.specs.Here.{Addr, here}
use Rattle.heap.specs.Views.{heap_view}
use Rattle.model.specs.Handler as handler
use Rattle.rules.specs.Views.{collects_for, to_verdict, to_news, to_from_news}
use Rattle.why.specs.declared.Stop.{Stop}
use Rattle.why.specs.Stopped.{heap_stop, or_stop}
use Rattle.why.proofs.Weighing.{stop_there}
use Rattle.why.proofs.stop_of.Lts as lts
use Rattle.why.proofs.stop_of.Tie as tie
use Rattle.why.proofs.stop_of.Reads as reads
use Rattle.why.proofs.stop_of.Goals as goal

abbrev news : lts.Start tie.the-claims reads.Pre reads.Post tie.handed_clauses → handler.News Addr
news s = handler.news_of here (to_verdict s.args.verdict) s.args.node.own

abbrev full : lts.Start tie.the-claims reads.Pre reads.Post tie.handed_clauses → handler.News Addr → Stop
full s w =
    let n = s.args.node in
    heap_stop w (n.disseminator.alive.len - collects_for n.settings.collect w (heap_view n.disseminator.alive)) n.disseminator.deceased.len

abbrev after : lts.Start tie.the-claims reads.Pre reads.Post tie.handed_clauses → Stop → Stop
after s x = or_stop x (full s (news s))

pub old_news-old-requires : goal.old_news-old-requires
old_news-old-requires c = c.requires.heaps.alive

pub overflow_sub-alive : goal.overflow_sub-alive
overflow_sub-alive c = c.old_news-old.ensures.within

pub returns-in-By : goal.returns-in-By
returns-in-By c =
    sym (ap (after c.before.before.before) (sym c.list_stop-listed.ensures ∙ c.in-By.is)) ∙ stop_there c.args.node c.requires (to_verdict c.args.verdict) c.args.draws

pub returns-in-Nothing : goal.returns-in-Nothing
returns-in-Nothing c =
    let n = c.args.node in
    c.heap_stop.ensures
    ∙ ap (λ (k : ℕ). heap_stop (to_news c.news_of-news.result) (n.disseminator.alive.len - k) n.disseminator.deceased.len) c.old_news-old.ensures.value
    ∙ ap (full c.before.before.before.before.before.before.before.before.before) (ap to_news c.news_of-news.ensures ∙ to_from_news (news c.before.before.before.before.before.before.before.before.before))
    ∙ sym (ap (after c.before.before.before.before.before.before.before.before.before) (sym c.list_stop-listed.ensures ∙ c.in-Nothing.is))
    ∙ stop_there c.args.node c.requires (to_verdict c.args.verdict) c.args.draws
