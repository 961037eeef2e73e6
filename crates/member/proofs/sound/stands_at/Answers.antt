-- `member::sound::stands_at` meets its contract: the place and the address.
-- Assumes nothing.
use mathlib.Core.Path.{ap, ◌∙◌}
use mathlib.Core.Bool.{Bool, ◌&&◌}
use lib.Dec.{ltb}
use borrow.Author.Rules.{rules}
use Rattle.member.proofs.sound.stands_at.Goals as goal

pub returns : goal.returns
returns c =
    let a = c.args in
    c.both.ensures ∙ ap (λ (x : Bool). ltb a.place a.n && x) c.same.ensures
