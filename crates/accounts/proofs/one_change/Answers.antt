-- `accounts::one_change` meets its contract.
-- Assumes nothing.
use mathlib.Core.Path.{ap, ◌∙◌}
use native.Mathlib.Omega.{arith}
use Rattle.accounts.specs.declared.Account.{Account}
use Rattle.accounts.specs.Turns.{pushed_of}
use Rattle.accounts.proofs.one_change.Goals as goal

pub change_between-requires : goal.change_between-requires
change_between-requires c = c.requires

pub push-requires : goal.push-requires
push-requires c = omega (arith, ap (λ (x : Account). x.count) c.none-empty.ensures)

pub returns : goal.returns
returns c = c.push.ensures ∙ (λ j. pushed_of (c.none-empty.ensures j) (c.change_between.ensures j))
