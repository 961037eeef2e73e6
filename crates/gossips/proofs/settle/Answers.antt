-- `gossips::settle` meets its contract: by the kind and the two texts.
-- Assumes nothing.
use mathlib.Core.Path.{refl}
use Rattle.gossips.specs.Stepping.{settled-none, from_empty, from_malformed, subject_empty, subject_malformed, all_there}
use borrow.Author.Rules.{rules}
use Rattle.gossips.proofs.settle.Goals as goal

pub returns-then-h-eq0 : goal.returns-then-h-eq0
returns-then-h-eq0 c =
    settled-none _ (search rules)

pub returns-in-Empty : goal.returns-in-Empty
returns-in-Empty c =
    from_empty _ c.if-h-eq0.false _ refl c.in-Empty.is

pub returns-in-Malformed : goal.returns-in-Malformed
returns-in-Malformed c =
    from_malformed _ c.if-h-eq0.false _ refl c.in-Malformed.is

pub returns-in-Empty-second : goal.returns-in-Empty-second
returns-in-Empty-second c =
    subject_empty _ c.if-h-eq0.false _ refl _ c.in-Given.is _ refl c.in-Empty-second.is

pub returns-in-Malformed-second : goal.returns-in-Malformed-second
returns-in-Malformed-second c =
    subject_malformed _ c.if-h-eq0.false _ refl _ c.in-Given.is _ refl c.in-Malformed-second.is

pub returns-in-Given-second : goal.returns-in-Given-second
returns-in-Given-second c =
    all_there _ c.if-h-eq0.false _ refl _ c.in-Given.is _ refl _ _ c.in-Given-second.is c.made-event.ensures
