-- `words::number_of` meets its contract: by how the word begins.
-- Assumes nothing.
use mathlib.Core.Path.{◌≡◌, sym, ◌∙◌}
use borrow.Author.Rules.{rules}
use Rattle.words.proofs.Reading.{number_digits, number-none}
use Rattle.words.proofs.number_of.Goals as goal

pub returns-then-begins : goal.returns-then-begins
returns-then-begins c = c.digits.ensures ∙ number_digits _ (sym c.begins.ensures ∙ c.if-begins.true)

pub returns : goal.returns
returns c = number-none _ (sym c.begins.ensures ∙ c.if-begins.false)
