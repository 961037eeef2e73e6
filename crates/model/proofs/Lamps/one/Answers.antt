-- `model::Lamps::one` meets its contract: a state at a time.
-- Assumes nothing.
use mathlib.Core.Path.{ap, sym}
use borrow.Author.Rules.{rules}
use Rattle.model.specs.Lamps.{lamp_of}
use Rattle.model.proofs.Lamps.one.Goals as goal

pub returns-in-Alive : goal.returns-in-Alive
returns-in-Alive c = sym (ap lamp_of c.in-Alive.is)

pub returns-in-Pending : goal.returns-in-Pending
returns-in-Pending c = sym (ap lamp_of c.in-Pending.is)

pub returns-in-Suspected : goal.returns-in-Suspected
returns-in-Suspected c = sym (ap lamp_of c.in-Suspected.is)
