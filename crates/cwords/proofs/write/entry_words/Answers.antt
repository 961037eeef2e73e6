-- `cwords::write::entry_words` meets its contract.
-- Assumes nothing.
use Rattle.cwords.proofs.Encoding.{entry-ends}
use Rattle.cwords.proofs.write.entry_words.Goals as goal

pub returns : goal.returns
returns c =
    entry-ends c.args.e c.parts_of-p.result _ _ c.parts_of-p.ensures c.first_word.ensures c.first_word-2.ensures
