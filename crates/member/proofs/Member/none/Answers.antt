-- `member::Member::none` meets its contract.
-- Assumes nothing.
use Rattle.model.specs.declared.State.TheVariants.{Alive}
use borrow.Author.Rules.{rules}
use Rattle.member.proofs.Member.none.Goals as goal

pub returns : goal.returns
returns c = λ i. record { addr = c.blank.ensures i; state = Alive; number = 0 }
