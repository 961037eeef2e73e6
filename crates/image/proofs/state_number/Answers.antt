-- `image::state_number` meets its contract.
-- Assumes nothing.
use mathlib.Core.Path.{ap, sym}
use Rattle.image.specs.Image.{state_number}
use borrow.Author.Rules.{rules}
use Rattle.image.proofs.state_number.Goals as goal

pub returns-in-Alive : goal.returns-in-Alive
unfolding state_number
returns-in-Alive c = sym (ap state_number c.in-Alive.is)

pub returns-in-Pending : goal.returns-in-Pending
unfolding state_number
returns-in-Pending c = sym (ap state_number c.in-Pending.is)

pub returns-in-Suspected : goal.returns-in-Suspected
unfolding state_number
returns-in-Suspected c = sym (ap state_number c.in-Suspected.is)
