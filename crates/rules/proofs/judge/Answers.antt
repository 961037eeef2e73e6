-- `rules::judge` meets its contract: an event at a time.
-- Assumes nothing.
-- the verdict on each event
use mathlib.Core.Path.{ap, sym, ◌∙◌}
use borrow.Author.Rules.{rules}
use Rattle.address.specs.Here.{here}
use Rattle.model.specs.Handler as M
use Rattle.types.specs.declared.Event.{Event}
use Rattle.types.specs.Views.{to_event}
use Rattle.member.specs.Views.{view_members}
use Rattle.rules.specs.declared.Verdict.{Verdict}
use Rattle.rules.specs.Views.{to_found, from_verdict}
use Rattle.rules.proofs.judge.Lts as lts
use Rattle.rules.proofs.judge.Tie as tie
use Rattle.rules.proofs.judge.Reads as reads
use Rattle.rules.proofs.judge.Goals as goal

abbrev on : lts.Start tie.the-claims reads.Pre reads.Post → Event → Verdict
on s e = from_verdict (M.judge here s.args.own (view_members s.args.members).table (to_found s.args.dead) (to_event e))

pub returns-in-Nothing : goal.returns-in-Nothing
returns-in-Nothing c = sym (ap (on c.before) c.in-Nothing.is)

pub returns-in-Joined : goal.returns-in-Joined
returns-in-Joined c = c.joined.ensures ∙ sym (ap (on c.before.before) c.in-Joined.is)

pub returns-in-Recovered : goal.returns-in-Recovered
returns-in-Recovered c = c.recovered.ensures ∙ sym (ap (on c.before.before) c.in-Recovered.is)

pub returns-in-Suspected : goal.returns-in-Suspected
returns-in-Suspected c = c.suspected.ensures ∙ sym (ap (on c.before.before) c.in-Suspected.is)

pub returns-in-Deceased : goal.returns-in-Deceased
returns-in-Deceased c = c.deceased.ensures ∙ sym (ap (on c.before.before) c.in-Deceased.is)
