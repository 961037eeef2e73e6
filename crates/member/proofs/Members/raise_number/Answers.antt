-- `member::Members::raise_number` meets its contract: the record with its state, at the place of its address.
-- Assumes nothing.
use mathlib.Core.Path.{ap, ◌∙◌}
use borrow.Author.Rules.{rules}
use Rattle.address.specs.Here.{here}
use Rattle.model.specs.Members.{update}
use Rattle.member.specs.declared.Standing.{Standing}
use Rattle.member.specs.Views.{view_members, pack_members}
use Rattle.member.proofs.Members.raise_number.Goals as goal

pub put-requires : goal.put-requires
put-requires c = (c.requires.0, c.requires.1, c.find-held.ensures.value, c.find-held.ensures.within)

pub returns : goal.returns
returns c =
    let a = c.args in
    c.put.ensures
    ∙ ap (λ (x : Standing). pack_members a.own (update here.same (record { addr = a.a; state = x.state; number = a.number }) (view_members a.self))) c.find-held.ensures.value
