-- `disseminate::collect::outdates` meets its contract: each arm is a clause of the rule.
-- Assumes nothing.
use mathlib.Core.Path.{ap, sym}
use Rattle.model.specs.declared.Kind.{Kind}
use Rattle.model.specs.Collect.{outdates}
use borrow.Author.Rules.{rules}
use Rattle.disseminate.proofs.collect.outdates.Goals as goal

pub returns-in-Alive : goal.returns-in-Alive
returns-in-Alive c = let a = c.args in sym (ap (λ (x : Kind). outdates x a.number a.held) c.in-Alive.is)

pub returns-in-Deceased : goal.returns-in-Deceased
returns-in-Deceased c = let a = c.args in sym (ap (λ (x : Kind). outdates x a.number a.held) c.in-Deceased.is)
