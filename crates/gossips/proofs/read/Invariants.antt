-- `gossips::read` meets its contract: the fields passed and the fields left come to the whole.
-- Assumes nothing.
use mathlib.Core.Path.{sym, ap, ◌∙◌, subst}
use mathlib.Core.List.{List}
use Prim.Native.Nat.{ℕ, ◌+◌, ◌-◌}
use native.Mathlib.Omega.{arith}
use lib.ListN.{length, take, drop, length-drop}
use Rattle.events.specs.declared.Said.{Said}
use Rattle.varint.specs.Parts.{rest_of}
use Rattle.fields.specs.Walks.{Going, going_none, going_end, going_stop, field_lies, fits, going_refuse, going_more}
use Rattle.gossips.specs.Gossip.{unheld, gossip_step, as_read}
use Rattle.gossips.specs.Stepping.{was-stopped, was_read}
use borrow.Author.Rules.{rules}
use Rattle.gossips.proofs.read.Given as goal

abbrev pub invariant-loop-at : goal.invariant-loop-at
invariant-loop-at l = Going gossip_step l.place l.bytes unheld l.at l.held

abbrev pub decreases-loop-at : goal.decreases-loop-at
decreases-loop-at l = length l.bytes - l.at
