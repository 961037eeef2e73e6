-- `cwords::write::target_words` meets its contract.
-- Assumes nothing.
use Rattle.cwords.proofs.Encoding.{laid-second}
use Rattle.cwords.proofs.write.target_words.Goals as goal

pub returns : goal.returns
returns c = let f = c.first_word.ensures in (laid-second _ _ _ _ f, f.1)
