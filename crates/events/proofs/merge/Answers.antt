-- `events::merge` meets its contract: the fields passed and the fields left come to the whole.
-- Assumes nothing.
use mathlib.Core.Path.{sym, ap, ◌∙◌}
use Prim.Native.Nat.{◌+◌, ◌-◌}
use native.Mathlib.Omega.{arith}
use lib.ListN.{length, take, drop}
use Rattle.varint.specs.Parts.{rest_of}
use Rattle.fields.specs.Walks.{Going, going_none, going_end, going_stop, field_lies, fits, going_refuse, going_more}
use Rattle.events.specs.Event.{event_step, as_merged}
use borrow.Author.Rules.{rules}
use Rattle.events.specs.Stepping.{was-stopped, was_read}
use Rattle.events.proofs.merge.Goals as goal

pub loop-at-init : goal.loop-at-init
loop-at-init c =
    going_none event_step _ _ _

pub overflow_add-result : goal.overflow_add-result
overflow_add-result c =
    let a = c.args in
    let l = c.loop-at in
    let r = rest_of a.bytes.now l.at in
    omega (arith, l.invariant.within)

pub returns-in_default : goal.returns-in_default
returns-in_default c =
    let a = c.args in
    let l = c.loop-at in
    let r = rest_of a.bytes.now l.at in
    ap as_merged (going_stop event_step a.place a.bytes.now a.s l.at l.said l.invariant _ r (search rules) (sym c.in_default.is ∙ c.first.ensures))

pub overflow_add-place : goal.overflow_add-place
overflow_add-place c =
    let a = c.args in
    let l = c.loop-at in
    let r = rest_of a.bytes.now l.at in
    omega (arith, l.invariant.within)

pub step-requires : goal.step-requires
step-requires c =
    let a = c.args in
    let l = c.loop-at in
    let r = rest_of a.bytes.now l.at in
    field_lies event_step a.place a.bytes.now a.s l.at l.said l.invariant _ r (search rules) c.in-Found.f (sym c.in-Found.is ∙ c.first.ensures)

pub returns-in-Stopped : goal.returns-in-Stopped
returns-in-Stopped c =
    let a = c.args in
    let l = c.loop-at in
    let r = rest_of a.bytes.now l.at in
    ap as_merged (going_refuse event_step a.place a.bytes.now a.s l.at l.said l.invariant _ r (search rules) c.in-Found.f (sym c.in-Found.is ∙ c.first.ensures) c.in-Stopped.p (was-stopped (event_step l.said (a.place + l.at) (take (length a.bytes.now - l.at) (drop l.at a.bytes.now)) c.in-Found.f) _ _ c.step.ensures c.in-Stopped.is))

pub overflow_add-at : goal.overflow_add-at
overflow_add-at c =
    let a = c.args in
    let l = c.loop-at in
    let r = rest_of a.bytes.now l.at in
    omega (arith, fits event_step a.place a.bytes.now a.s l.at l.said l.invariant _ r (search rules) c.in-Found.f (sym c.in-Found.is ∙ c.first.ensures))

pub loop-at-smaller : goal.loop-at-smaller
loop-at-smaller c =
    let a = c.args in
    let l = c.loop-at in
    let r = rest_of a.bytes.now l.at in
    let w = field_lies event_step a.place a.bytes.now a.s l.at l.said l.invariant _ r (search rules) c.in-Found.f (sym c.in-Found.is ∙ c.first.ensures) in
    omega (arith, fits event_step a.place a.bytes.now a.s l.at l.said l.invariant _ r (search rules) c.in-Found.f (sym c.in-Found.is ∙ c.first.ensures), w.some, w.begins)

pub loop-at-preserved : goal.loop-at-preserved
loop-at-preserved c =
    let a = c.args in
    let l = c.loop-at in
    let r = rest_of a.bytes.now l.at in
    going_more event_step a.place a.bytes.now a.s l.at l.said l.invariant _ r (search rules) c.in-Found.f (sym c.in-Found.is ∙ c.first.ensures) c.in-Read.next (was_read (event_step l.said (a.place + l.at) (take (length a.bytes.now - l.at) (drop l.at a.bytes.now)) c.in-Found.f) _ _ c.step.ensures c.in-Read.is)

pub returns : goal.returns
returns c =
    let a = c.args in
    let l = c.loop-at in
    ap as_merged (going_end event_step a.place a.bytes.now a.s l.at l.said l.invariant (search rules))
