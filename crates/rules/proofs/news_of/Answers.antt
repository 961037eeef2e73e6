-- `rules::news_of` meets its contract: a verdict at a time.
-- Assumes nothing.
-- what each verdict says
use mathlib.Core.Path.{ap, sym, ◌∙◌}
use borrow.Author.Rules.{rules}
use Rattle.model.specs.declared.Kind.TheVariants.{Alive, Deceased}
use Rattle.address.specs.Here.{here}
use Rattle.model.specs.Handler.{news_of}
use Rattle.rules.specs.declared.Verdict.{Verdict}
use Rattle.rules.specs.declared.News.{News}
use Rattle.rules.specs.declared.News.TheVariants.{Emits}
use Rattle.rules.specs.Views.{to_verdict, from_news}
use Rattle.rules.proofs.news_of.Lts as lts
use Rattle.rules.proofs.news_of.Tie as tie
use Rattle.rules.proofs.news_of.Reads as reads
use Rattle.rules.proofs.news_of.Goals as goal

abbrev says : lts.Start tie.the-claims reads.Pre reads.Post → Verdict → News
says s v = from_news (news_of here (to_verdict v) s.args.own)

pub returns-in-Skip : goal.returns-in-Skip
unfolding news_of
returns-in-Skip c = sym (ap (says c.before) c.in-Skip.is)

pub returns-in-Unknown : goal.returns-in-Unknown
unfolding news_of
returns-in-Unknown c = sym (ap (says c.before) c.in-Unknown.is)

pub returns-in-Equal : goal.returns-in-Equal
unfolding news_of
returns-in-Equal c = sym (ap (says c.before) c.in-Equal.is)

pub returns-in-Low : goal.returns-in-Low
unfolding news_of
returns-in-Low c = sym (ap (says c.before) c.in-Low.is)

pub returns-in-AtEnd : goal.returns-in-AtEnd
unfolding news_of
returns-in-AtEnd c = sym (ap (says c.before) c.in-AtEnd.is)

pub returns-in-Refute : goal.returns-in-Refute
unfolding news_of
returns-in-Refute c = c.alive.ensures ∙ ap (Emits Alive) c.new_node_recovered.ensures ∙ sym (ap (says c.before.before.before) c.in-Refute.is)

pub returns-in-Enter : goal.returns-in-Enter
unfolding news_of
returns-in-Enter c = c.alive-in-Enter.ensures ∙ ap (Emits Alive) c.new_node_joined.ensures ∙ sym (ap (says c.before.before.before) c.in-Enter.is)

pub returns-in-Raise : goal.returns-in-Raise
unfolding news_of
returns-in-Raise c = c.alive-in-Raise.ensures ∙ ap (Emits Alive) c.new_node_joined-in-Raise.ensures ∙ sym (ap (says c.before.before.before) c.in-Raise.is)

pub returns-in-Recover : goal.returns-in-Recover
unfolding news_of
returns-in-Recover c = c.alive-in-Recover.ensures ∙ ap (Emits Alive) c.new_node_recovered-in-Recover.ensures ∙ sym (ap (says c.before.before.before) c.in-Recover.is)

pub returns-in-Suspect : goal.returns-in-Suspect
unfolding news_of
returns-in-Suspect c = c.alive-in-Suspect.ensures ∙ ap (Emits Alive) c.new_node_suspected.ensures ∙ sym (ap (says c.before.before.before) c.in-Suspect.is)

pub returns-in-Bury : goal.returns-in-Bury
unfolding news_of
returns-in-Bury c = ap (Emits Deceased) c.new_node_deceased.ensures ∙ sym (ap (says c.before.before) c.in-Bury.is)
