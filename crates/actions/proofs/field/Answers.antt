-- `actions::field` meets its contract: each way out by the field's number.
-- Assumes nothing.
use mathlib.Core.Path.{sym, ap, ◌∙◌}
use Prim.Native.Nat.{◌+◌}
use Rattle.fields.specs.Field.{content}
use Rattle.fields.specs.Walk.{walk}
use Rattle.gossips.specs.Gossip.{unheld, gossip_step}
use Rattle.gossips.specs.Stepping.{was-stopped, was_read}
use Rattle.actions.specs.Action.{as_piece}
use Rattle.actions.specs.Stepping.{from_stop, from_read, other_stop, other_read, news_wrong, news_stop, news_read, unknown_read}
use borrow.Author.Rules.{rules}
use Rattle.actions.proofs.field.Goals as goal

pub returns-in_default-text_at : goal.returns-in_default-text_at
returns-in_default-text_at c =
    let a = c.args in
    ap as_piece (from_stop a.place a.bytes.now a.f (search rules) (sym c.in_default-text_at.is ∙ c.text_at.ensures))

pub returns-in_default-text_at-2 : goal.returns-in_default-text_at-2
returns-in_default-text_at-2 c =
    let a = c.args in
    ap as_piece (other_stop a.place a.bytes.now a.f (search rules) (sym c.in_default-text_at-2.is ∙ c.text_at-in-2.ensures))

pub returns-then-f-ne2 : goal.returns-then-f-ne2
returns-then-f-ne2 c =
    let a = c.args in
    ap as_piece (news_wrong a.place a.bytes.now a.f (search rules) (search rules))

pub returns-in-Read : goal.returns-in-Read
returns-in-Read c =
    let a = c.args in
    ap as_piece (from_read a.place a.bytes.now a.f (search rules) c.in-Read.text (sym c.in-Read.is ∙ c.text_at.ensures))

pub returns-in-Read-text_at : goal.returns-in-Read-text_at
returns-in-Read-text_at c =
    let a = c.args in
    ap as_piece (other_read a.place a.bytes.now a.f (search rules) c.in-Read-text_at.text (sym c.in-Read-text_at.is ∙ c.text_at-in-2.ensures))

pub returns-in-Stopped : goal.returns-in-Stopped
returns-in-Stopped c =
    let a = c.args in
    ap as_piece (news_stop a.place a.bytes.now a.f (search rules) (search rules) c.in-Stopped.p (was-stopped (walk gossip_step (a.place + a.f.head) (content a.bytes.now a.f) unheld) _ _ c.read.ensures c.in-Stopped.is))

pub returns-in-Read-read : goal.returns-in-Read-read
returns-in-Read-read c =
    let a = c.args in
    ap as_piece (news_read a.place a.bytes.now a.f (search rules) (search rules) c.in-Read-read.held _ (was_read (walk gossip_step (a.place + a.f.head) (content a.bytes.now a.f) unheld) _ _ c.read.ensures c.in-Read-read.is) c.settle.ensures)

pub returns-in_default : goal.returns-in_default
returns-in_default c =
    let a = c.args in
    ap as_piece (unknown_read a.place a.bytes.now a.f (search rules) (search rules) (search rules))
