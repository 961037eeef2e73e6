-- `cwords::write::member_words` meets its contract.
-- Assumes nothing.
use Rattle.cwords.proofs.Encoding.{member-ends}
use Rattle.cwords.proofs.write.member_words.Goals as goal

pub returns : goal.returns
returns c = member-ends c.args.m _ _ c.first_word.ensures c.state_word.ensures
