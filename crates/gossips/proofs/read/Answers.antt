-- `gossips::read` meets its contract: the fields passed and the fields left come to the whole.
-- Assumes nothing.
use mathlib.Core.Path.{sym, ap, ◌∙◌, subst}
use mathlib.Core.List.{List}
use Prim.Native.Nat.{ℕ, ◌+◌, ◌-◌}
use native.Mathlib.Omega.{arith}
use lib.ListN.{length, take, drop, length-drop}
use Rattle.events.specs.declared.Said.{Said}
use Rattle.varint.specs.Parts.{rest_of}
use Rattle.fields.specs.Walks.{Going, going_none, going_end, going_stop, field_lies, fits, going_refuse, going_more}
use Rattle.gossips.specs.Gossip.{unheld, gossip_step, as_read}
use Rattle.gossips.specs.Stepping.{was-stopped, was_read}
use borrow.Author.Rules.{rules}
use Rattle.gossips.proofs.read.Goals as goal

pub loop-at-init : goal.loop-at-init
loop-at-init c =
    subst (λ (s : Said). Going gossip_step c.args.place c.args.bytes.now unheld 0 (record { kind = 0; said = s })) (sym c.unsaid.ensures) (going_none gossip_step _ _ _)

pub overflow_add-result : goal.overflow_add-result
overflow_add-result c =
    let a = c.args in
    let l = c.loop-at in
    let r = rest_of a.bytes.now l.at in
    omega (arith, l.invariant.within)

pub returns-in_default : goal.returns-in_default
returns-in_default c =
    let a = c.args in
    let l = c.loop-at in
    let r = rest_of a.bytes.now l.at in
    ap as_read (going_stop gossip_step a.place a.bytes.now unheld l.at l.held l.invariant _ r (search rules) (sym c.in_default.is ∙ c.first.ensures))

pub overflow_add-place : goal.overflow_add-place
overflow_add-place c =
    let a = c.args in
    let l = c.loop-at in
    let r = rest_of a.bytes.now l.at in
    omega (arith, l.invariant.within)

pub step-requires : goal.step-requires
step-requires c =
    let a = c.args in
    let l = c.loop-at in
    let r = rest_of a.bytes.now l.at in
    (field_lies gossip_step a.place a.bytes.now unheld l.at l.held l.invariant _ r (search rules) c.in-Found.f (sym c.in-Found.is ∙ c.first.ensures), omega (arith, l.invariant.within, ap (λ (x : List ℕ). length x) r, length-drop l.at a.bytes.now))

pub returns-in-Stopped : goal.returns-in-Stopped
returns-in-Stopped c =
    let a = c.args in
    let l = c.loop-at in
    let r = rest_of a.bytes.now l.at in
    ap as_read (going_refuse gossip_step a.place a.bytes.now unheld l.at l.held l.invariant _ r (search rules) c.in-Found.f (sym c.in-Found.is ∙ c.first.ensures) c.in-Stopped.p (was-stopped (gossip_step l.held (a.place + l.at) (take (length a.bytes.now - l.at) (drop l.at a.bytes.now)) c.in-Found.f) _ _ c.step.ensures c.in-Stopped.is))

pub overflow_add-at : goal.overflow_add-at
overflow_add-at c =
    let a = c.args in
    let l = c.loop-at in
    let r = rest_of a.bytes.now l.at in
    omega (arith, fits gossip_step a.place a.bytes.now unheld l.at l.held l.invariant _ r (search rules) c.in-Found.f (sym c.in-Found.is ∙ c.first.ensures))

pub loop-at-smaller : goal.loop-at-smaller
loop-at-smaller c =
    let a = c.args in
    let l = c.loop-at in
    let r = rest_of a.bytes.now l.at in
    let w = field_lies gossip_step a.place a.bytes.now unheld l.at l.held l.invariant _ r (search rules) c.in-Found.f (sym c.in-Found.is ∙ c.first.ensures) in
    omega (arith, fits gossip_step a.place a.bytes.now unheld l.at l.held l.invariant _ r (search rules) c.in-Found.f (sym c.in-Found.is ∙ c.first.ensures), w.some, w.begins)

pub loop-at-preserved : goal.loop-at-preserved
loop-at-preserved c =
    let a = c.args in
    let l = c.loop-at in
    let r = rest_of a.bytes.now l.at in
    going_more gossip_step a.place a.bytes.now unheld l.at l.held l.invariant _ r (search rules) c.in-Found.f (sym c.in-Found.is ∙ c.first.ensures) c.in-Read.next (was_read (gossip_step l.held (a.place + l.at) (take (length a.bytes.now - l.at) (drop l.at a.bytes.now)) c.in-Found.f) _ _ c.step.ensures c.in-Read.is)

pub returns : goal.returns
returns c =
    let a = c.args in
    let l = c.loop-at in
    ap as_read (going_end gossip_step a.place a.bytes.now unheld l.at l.held l.invariant (search rules))
