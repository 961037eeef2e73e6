-- `why::reason_of` meets its contract: a verdict at a time.
-- Assumes nothing.
-- the reason of each verdict
use mathlib.Core.Path.{ap, sym, ◌∙◌}
use Rattle.rules.specs.declared.Verdict.{Verdict}
use Rattle.rules.specs.Views.{to_verdict}
use Rattle.why.specs.declared.Reason.{Reason}
use Rattle.why.specs.Why.{reason_of}
use Rattle.why.proofs.reason_of.Lts as lts
use Rattle.why.proofs.reason_of.Tie as tie
use Rattle.why.proofs.reason_of.Reads as reads
use Rattle.why.proofs.reason_of.Goals as goal

abbrev reason_at : lts.Start tie.the-claims reads.Pre reads.Post → Verdict → Reason
reason_at s v = reason_of (to_verdict v) s.args.number

pub returns-in-Skip : goal.returns-in-Skip
unfolding reason_of
returns-in-Skip c = sym (ap (reason_at c.before) c.in-Skip.is)

pub returns-in-Unknown : goal.returns-in-Unknown
unfolding reason_of
returns-in-Unknown c = sym (ap (reason_at c.before) c.in-Unknown.is)

pub returns-in-Equal : goal.returns-in-Equal
unfolding reason_of
returns-in-Equal c = sym (ap (reason_at c.before) c.in-Equal.is)

pub returns-in-Low : goal.returns-in-Low
unfolding reason_of
returns-in-Low c = sym (ap (reason_at c.before) c.in-Low.is)

pub returns-in-AtEnd : goal.returns-in-AtEnd
unfolding reason_of
returns-in-AtEnd c = sym (ap (reason_at c.before) c.in-AtEnd.is)

pub returns-in-Refute : goal.returns-in-Refute
unfolding reason_of
returns-in-Refute c = sym (ap (reason_at c.before) c.in-Refute.is)

pub returns-in-Enter : goal.returns-in-Enter
unfolding reason_of
returns-in-Enter c = c.at_number.ensures ∙ sym (ap (reason_at c.before.before) c.in-Enter.is)

pub returns-in-Raise : goal.returns-in-Raise
unfolding reason_of
returns-in-Raise c = c.at_number-in-Raise.ensures ∙ sym (ap (reason_at c.before.before) c.in-Raise.is)

pub returns-in-Recover : goal.returns-in-Recover
unfolding reason_of
returns-in-Recover c = sym (ap (reason_at c.before) c.in-Recover.is)

pub returns-in-Suspect : goal.returns-in-Suspect
unfolding reason_of
returns-in-Suspect c = sym (ap (reason_at c.before) c.in-Suspect.is)

pub returns-in-Bury : goal.returns-in-Bury
unfolding reason_of
returns-in-Bury c = sym (ap (reason_at c.before) c.in-Bury.is)
