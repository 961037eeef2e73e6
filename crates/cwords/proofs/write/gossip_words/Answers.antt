-- `cwords::write::gossip_words` meets its contract.
-- Assumes nothing.
use Rattle.cwords.proofs.Encoding.{gossip-ends}
use Rattle.cwords.proofs.write.gossip_words.Goals as goal

pub returns : goal.returns
returns c =
    gossip-ends _ c.parts_of-p.result _ _ c.parts_of-p.ensures c.first_word.ensures c.first_word-2.ensures
