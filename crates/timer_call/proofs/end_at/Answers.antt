-- `timer_call::end_at` meets its contract: a fate at a time.
-- Assumes nothing.
-- what was judged is the timer's fate
use mathlib.Core.Path.{◌≡◌, ap, sym, ◌∙◌}
use native.Mathlib.Omega.{arith}
use borrow.Author.Rules.{rules}
use Rattle.model.specs.declared.Fate.{Fate}
use Rattle.address.specs.Here.{here}
use Rattle.model.specs.Detector as D
use Rattle.node.specs.Views.{view_node}
use Rattle.timer_call.specs.declared.Ended.{Ended}
use Rattle.timer_call.specs.Views.{ended_by}
use Rattle.timer_call.proofs.TimerEnds.{fate_is, end_stays, end_absent, leaves-there}
use Rattle.timer_call.proofs.end_at.Lts as lts
use Rattle.timer_call.proofs.end_at.Tie as tie
use Rattle.timer_call.proofs.end_at.Reads as reads
use Rattle.timer_call.proofs.end_at.Goals as goal

judged : (f : lts.After-fate_of tie.the-claims reads.Pre reads.Post) → f.fate_of-fate.result ≡ D.fate_at here f.args.place (view_node f.args.node)
judged f =
    fate_is f.args.node f.requires.0 f.args.place f.requires.1 f.fate_of-fate.result f.fate_of-fate.ensures

by-fate : (f : lts.After-fate_of tie.the-claims reads.Pre reads.Post) (v : Fate) (r : Ended) → let a = f.args in
    f.fate_of-fate.result ≡ v → r ≡ ended_by v a.node a.place → r ≡ ended_by (D.fate_at here a.place (view_node a.node)) a.node a.place
by-fate f v r g e = let a = f.args in e ∙ ap (λ (x : Fate). ended_by x a.node a.place) (sym g ∙ judged f)

pub remove_at-requires : goal.remove_at-requires
remove_at-requires c =
    (c.requires.0, c.requires.1, leaves-there c.args.place (view_node c.args.node) (sym (judged c.before) ∙ c.in-Leaves.is))

pub returns-in-Leaves : goal.returns-in-Leaves
returns-in-Leaves c = (by-fate c.before.before _ _ c.in-Leaves.is c.remove_at.ensures.0, c.remove_at.ensures.1)

pub returns-in-Stays : goal.returns-in-Stays
returns-in-Stays c = (
  by-fate c.before.before _ _ c.in-Stays.is (c.only_end.ensures ∙ end_stays c.args.node c.requires.0 c.args.place),
  omega (arith, ap (λ (x : Ended). x.reported) c.only_end.ensures),
)

pub returns-in-Absent : goal.returns-in-Absent
returns-in-Absent c = (
  by-fate c.before.before _ _ c.in-Absent.is (c.only_end-in-Absent.ensures ∙ end_absent c.args.node c.requires.0 c.args.place),
  omega (arith, ap (λ (x : Ended). x.reported) c.only_end-in-Absent.ensures),
)
