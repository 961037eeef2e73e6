-- `image::load` meets its contract: 14 and 15, then the list.
-- Assumes nothing.
use mathlib.Core.Path.{sym, ◌∙◌}
use lib.Dec.{lit<}
use Rattle.image.proofs.Judging.{load_refused}
use borrow.Author.Rules.{rules}
use Rattle.image.proofs.load.Goals as goal

pub listed-requires : goal.listed-requires
listed-requires c = sym c.opening-opened.ensures ∙ c.in-Accepted.is

pub returns-in-WrongMark : goal.returns-in-WrongMark
returns-in-WrongMark c = record { value = load_refused c.args.bytes.now _ _ (sym c.opening-opened.ensures ∙ c.in-WrongMark.is) (lit< tt) c.refused.ensures.value; within = c.refused.ensures.within }

pub returns-in-WrongLength : goal.returns-in-WrongLength
returns-in-WrongLength c = record { value = load_refused c.args.bytes.now _ _ (sym c.opening-opened.ensures ∙ c.in-WrongLength.is) (lit< tt) c.refused-in-WrongLength.ensures.value; within = c.refused-in-WrongLength.ensures.within }

pub returns-in-OutOfRule : goal.returns-in-OutOfRule
returns-in-OutOfRule c = record { value = load_refused c.args.bytes.now _ _ (sym c.opening-opened.ensures ∙ c.in-OutOfRule.is) (lit< tt) c.refused-in-OutOfRule.ensures.value; within = c.refused-in-OutOfRule.ensures.within }
