-- `gossips::step` meets its contract: each way out by the field's number and wire type.
-- Assumes nothing.
use mathlib.Core.Path.{ap}
use Prim.Native.Nat.{◌+◌}
use Rattle.fields.specs.Field.{content}
use Rattle.fields.specs.Walk.{walk}
use Rattle.events.specs.Event.{event_step}
use Rattle.events.specs.Stepping.{was-stopped, was_read}
use Rattle.gossips.specs.Gossip.{as_read}
use Rattle.gossips.specs.Stepping.{other_kind, wrong_wire, inner_stop, inner_read}
use borrow.Author.Rules.{rules}
use Rattle.gossips.proofs.step.Goals as goal

pub returns-then-kind-gt4 : goal.returns-then-kind-gt4
returns-then-kind-gt4 c =
    let a = c.args in
    ap as_read (other_kind a.h a.place a.bytes.now a.f (search rules))

pub returns-then-f-ne2 : goal.returns-then-f-ne2
returns-then-f-ne2 c =
    let a = c.args in
    ap as_read (wrong_wire a.h a.place a.bytes.now a.f (search rules) (search rules))

pub returns-in-Stopped : goal.returns-in-Stopped
returns-in-Stopped c =
    let a = c.args in
    ap as_read (inner_stop a.h a.place a.bytes.now a.f (search rules) (search rules) _ c.started.ensures c.in-Stopped.p (was-stopped (walk event_step (a.place + a.f.head) (content a.bytes.now a.f) c.started.result) _ _ c.merge.ensures c.in-Stopped.is))

pub returns-in-Read : goal.returns-in-Read
returns-in-Read c =
    let a = c.args in
    ap as_read (inner_read a.h a.place a.bytes.now a.f (search rules) (search rules) _ c.started.ensures c.in-Read.said (was_read (walk event_step (a.place + a.f.head) (content a.bytes.now a.f) c.started.result) _ _ c.merge.ensures c.in-Read.is))
