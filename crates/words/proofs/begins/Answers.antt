-- `words::begins` meets its contract: by the length, then by the first byte.
-- Assumes nothing.
use borrow.Author.Rules.{rules}
use Rattle.words.proofs.Reading.{begun-none, begun-one, begun_more}
use Rattle.words.proofs.begins.Goals as goal

pub returns-then-word-eq0 : goal.returns-then-word-eq0
returns-then-word-eq0 c = begun-none _ c.if-word-eq0.true

pub returns-then-word-eq1 : goal.returns-then-word-eq1
returns-then-word-eq1 c = begun-one _ c.if-word-eq1.true

pub returns : goal.returns
returns c = begun_more _ (search rules) (search rules)
