-- `events::merge` meets its contract: the fields passed and the fields left come to the whole.
-- Assumes nothing.
use mathlib.Core.Path.{sym, ap, ◌∙◌}
use Prim.Native.Nat.{◌+◌, ◌-◌}
use native.Mathlib.Omega.{arith}
use lib.ListN.{length, take, drop}
use Rattle.varint.specs.Parts.{rest_of}
use Rattle.fields.specs.Walks.{Going, going_none, going_end, going_stop, field_lies, fits, going_refuse, going_more}
use Rattle.events.specs.Event.{event_step, as_merged}
use borrow.Author.Rules.{rules}
use Rattle.events.specs.Stepping.{was-stopped, was_read}
use Rattle.events.proofs.merge.Given as goal

abbrev pub invariant-loop-at : goal.invariant-loop-at
invariant-loop-at l = Going event_step l.place l.bytes l.initial.said l.at l.said

abbrev pub decreases-loop-at : goal.decreases-loop-at
decreases-loop-at l = length l.bytes - l.at
