-- `cwords::write::letter_words` meets its contract.
-- Assumes nothing.
use Rattle.cwords.proofs.Encoding.{letter-ends}
use Rattle.cwords.proofs.write.letter_words.Goals as goal

pub returns : goal.returns
returns c =
    letter-ends c.args.l _ _ c.first_word.ensures c.action_words-a.ensures
