-- `incoming::resumed` meets its contract: by the kind.
-- Assumes nothing.
use mathlib.Core.Path.{◌∙◌}
use borrow.Author.Rules.{rules}
use borrow.Author.Tests.{eq-eqb, ne_eqb}
use Rattle.incoming.specs.Datagram.{resumed_at}
use Rattle.incoming.proofs.resumed.Goals as goal

pub returns-then-kind-number : goal.returns-then-kind-number
unfolding resumed_at
returns-then-kind-number c = simp (eq-eqb _ _ c.if-kind-number.true)

pub returns : goal.returns
unfolding resumed_at
returns c = c.unspoken.ensures ∙ simp (ne_eqb _ _ c.if-kind-number.false)
