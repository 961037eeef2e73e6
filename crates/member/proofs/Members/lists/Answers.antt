-- `member::Members::lists` meets its contract: a part of what the list says.
-- Assumes nothing.
use mathlib.Core.Path.{ap}
use borrow.Author.Rules.{rules}
use Rattle.member.specs.declared.Standing.{Standing}
use Rattle.member.proofs.Members.lists.Goals as goal

pub returns : goal.returns
returns c = ap (λ (x : Standing). x.listed) c.find-held.ensures.value
