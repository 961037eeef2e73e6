-- `why::list_stop` meets its contract: a verdict at a time.
-- Assumes nothing.
-- what stops each verdict
use mathlib.Core.Path.{ap, sym, ◌∙◌}
use Rattle.rules.specs.declared.Verdict.{Verdict}
use Rattle.rules.specs.Views.{to_verdict}
use Rattle.why.specs.declared.Stop.{Stop}
use Rattle.why.specs.Stopped.{list_stop}
use Rattle.why.proofs.list_stop.Lts as lts
use Rattle.why.proofs.list_stop.Tie as tie
use Rattle.why.proofs.list_stop.Reads as reads
use Rattle.why.proofs.list_stop.Goals as goal

abbrev stops : lts.Start tie.the-claims reads.Pre reads.Post → Verdict → Stop
stops s v = list_stop (to_verdict v) s.args.listed s.args.draws

pub returns-in-AtEnd : goal.returns-in-AtEnd
returns-in-AtEnd c = sym (ap (stops c.before) c.in-AtEnd.is)

pub returns-in-Enter : goal.returns-in-Enter
returns-in-Enter c = c.add_stop.ensures ∙ sym (ap (stops c.before.before) c.in-Enter.is)
