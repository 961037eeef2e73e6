-- `types::size_of` meets its contract: the size by the parts of the event.
-- Assumes nothing.
use mathlib.Core.Path.{◌≡◌, ap, sym, ◌∙◌}
use borrow.Author.Rules.{rules}
use borrow.Author.Tests.{eq-eqb, ne_eqb}
use Rattle.address.specs.Here.{here}
use Rattle.model.specs.Words.{parts_of}
use Rattle.model.specs.Size.{size_of}
use Rattle.types.specs.declared.Gossip.{Gossip}
use Rattle.types.specs.declared.Parts.{Parts}
use Rattle.types.specs.SizeLaws.{parts_size, size_by_parts}
use Rattle.types.specs.Views.{to_event, to_gossip, from_parts, to_parts}
use Rattle.types.proofs.size_of.Goals as goal

by_parts : (g : Gossip) (p : Parts) → p ≡ from_parts (parts_of here (to_event g.event)) → parts_size here (to_parts p) ≡ size_of here (to_gossip g)
by_parts g p e = ap (λ (x : Parts). parts_size here (to_parts x)) e ∙ sym (size_by_parts here (to_gossip g))

pub returns-then-p-eq0 : goal.returns-then-p-eq0
returns-then-p-eq0 c =
    (sym (rw (eq-eqb _ _ c.if-p-eq0.true)) ∙ by_parts c.args.g _ c.parts_of-p.ensures, search rules)

pub returns : goal.returns
returns c = (
  c.size_over.ensures.0
      ∙ rw (c.text_len-from.ensures.0, c.text_len-subject.ensures.0)
      (sym (rw (ne_eqb _ _ c.if-p-eq0.false)) ∙ by_parts c.args.g _ c.parts_of-p.ensures),
  search rules,
)
