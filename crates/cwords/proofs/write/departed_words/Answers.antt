-- `cwords::write::departed_words` meets its contract.
-- Assumes nothing.
use Rattle.cwords.proofs.Encoding.{departed_ends}
use Rattle.cwords.proofs.write.departed_words.Goals as goal

pub returns : goal.returns
returns c = departed_ends c.args.d _ c.first_word.ensures
