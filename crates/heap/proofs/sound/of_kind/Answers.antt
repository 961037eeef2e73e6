-- `heap::sound::of_kind` meets its contract: each arm is a clause of the rule.
-- Assumes nothing.
use mathlib.Core.Path.{◌∙◌, ap, sym}
use borrow.Author.Rules.{rules}
use Rattle.model.specs.Sound.{of_kind}
use Rattle.model.specs.declared.Kind.{Kind}
use Rattle.heap.proofs.sound.of_kind.Goals as goal

pub returns-in-Alive : goal.returns-in-Alive
returns-in-Alive c = c.both.ensures ∙ sym (ap (λ (x : Kind). of_kind x c.args.k) c.in-Alive.is)

pub returns-in-Deceased : goal.returns-in-Deceased
returns-in-Deceased c = sym (ap (λ (x : Kind). of_kind x c.args.k) c.in-Deceased.is)
