-- `timer_call::remove_at` meets its contract: the timer goes, its address leaves, Deceased is emitted.
-- Assumes nothing.
-- what the code has when it has pushed
use mathlib.Core.Path.{ap, ◌∙◌}
use mathlib.Core.List.{[], ◌∷◌}
use native.Mathlib.Omega.{arith}
use borrow.Author.Rules.{rules}
use Rattle.timer_call.specs.declared.Ended.{Ended}
use Rattle.timer_call.proofs.TimerEnds.{Death, end_full, end_kept}
use Rattle.timer_call.proofs.remove_at.Lts as lts
use Rattle.timer_call.proofs.remove_at.Tie as tie
use Rattle.timer_call.proofs.remove_at.Reads as reads
use Rattle.timer_call.proofs.remove_at.Goals as goal

abbrev death : lts.After-grow tie.the-claims reads.Pre reads.Post tie.handed_clauses → Death
death p =
    record {
      node = p.args.node;
      ready = p.requires.0;
      place = p.args.place;
      within = p.requires.1;
      there = p.requires.2;
      timers = p.end-after.result;
      timers_is = p.end-after.ensures;
      members = p.remove_member-left.result;
      members_is = p.remove_member-left.ensures;
      gossip = record { event = p.new_node_deceased.result };
      named = p.new_node_deceased.ensures;
      pushed = p.grow-pushed.result;
      pushed_is = p.grow-pushed.ensures;
    }

pub returns-then-pushed : goal.returns-then-pushed
returns-then-pushed c = (c.plain.ensures ∙ end_full (death c.before.before) c.if-pushed.true, omega (arith, ap (λ (x : Ended). x.reported) c.plain.ensures))

pub old_news-old-requires : goal.old_news-old-requires
old_news-old-requires c = c.requires.0.heaps.alive

pub clear-alive-requires : goal.clear-alive-requires
clear-alive-requires c = c.requires.0.heaps.alive

pub leave-departed-requires : goal.leave-departed-requires
leave-departed-requires c = (c.requires.0.departed, c.requires.0.members)

pub returns : goal.returns
returns c =
    let q = death c.before.before.before.before.before.before.before.before.before.before.before in (
      (λ i. record { answer = c.silent.ensures i; events = q.gossip ∷ []; reported = 1 })
          ∙ end_kept q c.old_news-old.result c.clear-alive.result c.old_news-old.ensures.value c.clear-alive.ensures c.leave-departed.result c.leave-departed.ensures c.if-pushed.false,
      omega arith,
    )
