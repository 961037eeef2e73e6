-- `member::Members::member_number` meets its contract: a part of what the list says.
-- Assumes nothing.
use mathlib.Core.Path.{ap}
use borrow.Author.Rules.{rules}
use Rattle.member.specs.declared.Standing.{Standing}
use Rattle.member.proofs.Members.member_number.Goals as goal

pub returns : goal.returns
returns c = ap (λ (x : Standing). x.number) c.find-held.ensures.value
