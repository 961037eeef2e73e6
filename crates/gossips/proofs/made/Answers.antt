-- `gossips::made` meets its contract: by the kind.
-- Assumes nothing.
use borrow.Author.Tests.{eq-eqb, ne_eqb}
use Rattle.gossips.specs.Gossip.{made}
use mathlib.Core.Path.{◌≡◌}
use native.Mathlib.Omega.{arith}
use borrow.Author.Rules.{rules}
use Rattle.gossips.proofs.made.Goals as goal

pub returns-in-1 : goal.returns-in-1
unfolding made
returns-in-1 c = let e : c.args.kind ≡ 1 = search rules in simp (eq-eqb _ 1 e)

pub returns-in-2 : goal.returns-in-2
unfolding made
returns-in-2 c = let e : c.args.kind ≡ 2 = search rules in simp (ne_eqb c.args.kind 1 (λ q. omega arith), eq-eqb _ 2 e)

pub returns-in-3 : goal.returns-in-3
unfolding made
returns-in-3 c = let e : c.args.kind ≡ 3 = search rules in simp (ne_eqb c.args.kind 1 (λ q. omega arith), ne_eqb c.args.kind 2 (λ q. omega arith), eq-eqb _ 3 e)

pub returns-in_default : goal.returns-in_default
unfolding made
returns-in_default c = simp (ne_eqb c.args.kind 1 (search rules), ne_eqb c.args.kind 2 (search rules), ne_eqb c.args.kind 3 (search rules))
