-- `gossips::started` meets its contract: by the kind.
-- Assumes nothing.
use borrow.Author.Tests.{eq-eqb, ne_eqb}
use mathlib.Core.Path.{◌∙◌}
use Rattle.gossips.specs.Gossip.{started}
use borrow.Author.Rules.{rules}
use Rattle.gossips.proofs.started.Goals as goal

pub returns-then-h-kind : goal.returns-then-h-kind
unfolding started
returns-then-h-kind c = simp (eq-eqb _ _ c.if-h-kind.true)

pub returns : goal.returns
unfolding started
returns c = c.unsaid.ensures ∙ simp (ne_eqb _ _ c.if-h-kind.false)
