-- `types::parts_of` meets its contract: each arm of the match is a clause of the rule.
-- Assumes nothing.
use mathlib.Core.Path.{sym, ◌∙◌, ap}
use borrow.Author.Rules.{rules}
use Rattle.address.specs.Here.{Addr, here}
use Rattle.model.specs.Words.{parts_of}
use Rattle.types.specs.declared.Event.{Event}
use Rattle.types.specs.declared.Parts.{Parts}
use Rattle.types.specs.Views.{to_event, from_parts}
use Rattle.types.proofs.parts_of.Goals as goal

abbrev parts : Event → Parts
parts e = from_parts (parts_of here (to_event e))

abbrev none : Addr → Parts
none blank = record { kind = 0; from = blank; subject = blank; number = 0 }

pub returns-in-Nothing : goal.returns-in-Nothing
unfolding parts_of
returns-in-Nothing c = c.of.ensures ∙ ap none c.blank-blank.ensures ∙ sym (ap parts c.in-Nothing.is)

pub returns-in-Joined : goal.returns-in-Joined
unfolding parts_of
returns-in-Joined c = c.of-in-Joined.ensures ∙ sym (ap parts c.in-Joined.is)

pub returns-in-Recovered : goal.returns-in-Recovered
unfolding parts_of
returns-in-Recovered c = c.of-in-Recovered.ensures ∙ sym (ap parts c.in-Recovered.is)

pub returns-in-Suspected : goal.returns-in-Suspected
unfolding parts_of
returns-in-Suspected c = c.of-in-Suspected.ensures ∙ sym (ap parts c.in-Suspected.is)

pub returns-in-Deceased : goal.returns-in-Deceased
unfolding parts_of
returns-in-Deceased c = c.of-in-Deceased.ensures ∙ sym (ap parts c.in-Deceased.is)
