-- `types::valid_gossip` meets its contract: none holds no address, and of others each address is tested.
-- Assumes nothing.
use mathlib.Core.Path.{ap, sym, ◌∙◌}
use mathlib.Core.Bool.{Bool, true, ◌&&◌}
use lib.Dec.{eqb}
use borrow.Author.Rules.{rules}
use borrow.Author.Tests.{eq-eqb, ne_eqb}
use Rattle.address.specs.Here.{here}
use Rattle.model.specs.Rows.{pick}
use Rattle.model.specs.Sound.{valid_gossip}
use Rattle.types.specs.declared.Parts.{Parts}
use Rattle.types.proofs.valid_gossip.Goals as goal

abbrev within : Parts → Bool
within p = pick (eqb p.kind 0) true (here.valid p.from && here.valid p.subject)

pub returns-then-p-eq0 : goal.returns-then-p-eq0
unfolding valid_gossip
returns-then-p-eq0 c =
    sym (rw (eq-eqb _ _ c.if-p-eq0.true)) ∙ ap within c.parts_of-p.ensures

pub returns : goal.returns
unfolding valid_gossip
returns c =
    rw (c.both.ensures, c.in_range-from.ensures, c.in_range-subject.ensures)
    (sym (rw (ne_eqb _ _ c.if-p-eq0.false)) ∙ ap within c.parts_of-p.ensures)
