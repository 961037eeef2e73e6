-- `words::append` meets its contract: each way out by the test that led there.
-- Assumes nothing.
use native.Mathlib.Omega.{arith}
use borrow.Author.Rules.{rules}
use Rattle.words.proofs.Reading.{appended_low, appended_high, appended-past, appended_fits}
use Rattle.words.proofs.append.Goals as goal

pub returns-then-byte-lt48 : goal.returns-then-byte-lt48
returns-then-byte-lt48 c = appended_low _ _ (search rules)

pub returns-then-byte-gt57 : goal.returns-then-byte-gt57
returns-then-byte-gt57 c = appended_high _ _ (search rules)

pub returns-then-digit-value : goal.returns-then-digit-value
returns-then-digit-value c = appended-past _ _ (search rules) (search rules) (search rules)

pub returns : goal.returns
returns c = appended_fits _ _ _ (search rules) (search rules) (search rules) (search rules)
