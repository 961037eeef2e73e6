-- `cwords::write::address_words` meets its contract.
-- Assumes nothing.
use Rattle.cwords.proofs.Encoding.{address_ends}
use Rattle.cwords.proofs.write.address_words.Goals as goal

pub returns : goal.returns
returns c = address_ends _ _ c.first_word.ensures
