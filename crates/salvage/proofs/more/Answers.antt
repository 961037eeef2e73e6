-- `salvage::more` meets its contract.
-- Assumes nothing.
use mathlib.Core.Path.{ap, sym}
use native.Mathlib.Omega.{arith}
use Rattle.salvage.specs.Views.{more_of}
use Rattle.salvage.proofs.more.Goals as goal

pub returns-in-Cut : goal.returns-in-Cut
unfolding more_of
returns-in-Cut c = record { value = sym (ap more_of c.in-Cut.is); within = omega arith }

pub returns-in-Address : goal.returns-in-Address
unfolding more_of
returns-in-Address c = record { value = sym (ap more_of c.in-Address.is); within = omega arith }

pub returns-in-State : goal.returns-in-State
unfolding more_of
returns-in-State c = record { value = sym (ap more_of c.in-State.is); within = omega arith }

pub returns-in-Repeat : goal.returns-in-Repeat
unfolding more_of
returns-in-Repeat c = record { value = sym (ap more_of c.in-Repeat.is); within = omega arith }

pub returns-in-Kept : goal.returns-in-Kept
unfolding more_of
returns-in-Kept c = record { value = sym (ap more_of c.in-Kept.is); within = omega arith }
