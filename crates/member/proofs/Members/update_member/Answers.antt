-- `member::Members::update_member` meets its contract: the record at the place of its address.
-- Assumes nothing.
use borrow.Author.Rules.{rules}
use Rattle.member.proofs.Members.update_member.Goals as goal

pub put-requires : goal.put-requires
put-requires c = (c.requires.0, c.requires.1, c.find-held.ensures.value, c.find-held.ensures.within)
