-- `types::same_gossip` meets its contract: each test says its part.
-- Assumes nothing.
use mathlib.Core.Path.{◌≡◌, ◌∙◌, ap}
use borrow.Author.Rules.{rules}
use Rattle.address.specs.Here.{here}
use Rattle.model.specs.Words.{parts_of, same_parts, same_gossip}
use Rattle.types.specs.declared.Gossip.{Gossip}
use Rattle.types.specs.declared.Parts.{Parts}
use Rattle.types.specs.Views.{to_event, to_gossip, from_parts, to_parts}
use Rattle.types.proofs.same_gossip.Goals as goal

by_parts :
    (a b : Gossip) (p q : Parts) →
    p ≡ from_parts (parts_of here (to_event a.event)) →
    q ≡ from_parts (parts_of here (to_event b.event)) →
    same_parts here (to_parts p) (to_parts q) ≡ same_gossip here (to_gossip a) (to_gossip b)
unfolding same_gossip
by_parts a b p q e f =
    ap (λ (x : Parts). same_parts here (to_parts x) (to_parts q)) e
    ∙ ap (λ (x : Parts). same_parts here (parts_of here (to_event a.event)) (to_parts x)) f

pub returns : goal.returns
returns c =
    let a = c.args in
    rw (c.both-3.ensures, c.both-2.ensures, c.both.ensures, c.same-subject.ensures, c.same-from.ensures)
    (by_parts a.a a.b _ _ c.parts_of-p.ensures c.parts_of-q.ensures)
