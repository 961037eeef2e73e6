-- `accounts::walk_records` meets its contract: what is left of the records gives the moments of the whole.
-- Assumes nothing.
use mathlib.Core.Path.{refl, ap}
use Prim.Native.Nat.{◌*◌, ◌^◌, ◌<◌}
use native.Mathlib.Omega.{arith}
use lib.ListN.{length}
use mir.Val.{Fits}
use mir.Syntax.{w64}
use borrow.Author.Rules.{rules}
use Rattle.node.specs.Views.{view_node}
use Rattle.message.specs.Views.{records_of}
use Rattle.message.specs.Hearing.{records-long}
use Rattle.accounts.specs.declared.Account.{Account}
use Rattle.accounts.specs.Walking.{going_start, going_over, record_heeded, record_within, record_next, record_stops}
use Rattle.accounts.proofs.walk_records.Goals as goal

pub loop-i-init : goal.loop-i-init
loop-i-init c =
    let a = c.args in
    (omega arith, rw c.none-account.ensures (going_start (records_of a.rows a.given) a.draws.now a.node c.requires.0))

pub offset_bounds-draws-used : goal.offset_bounds-draws-used
offset_bounds-draws-used c =
    let sized : length c.args.draws.now * 8 < 2 ^ 63 = search rules in
    record { fits = omega (arith, c.loop-i.invariant.1.within, sized) }

pub run_rule-turn-requires : goal.run_rule-turn-requires
run_rule-turn-requires c =
    let at = c.loop-i in
    let a = c.args in
    let h = record_heeded a.rows a.given c.requires.1 at.i c.loop-i-test.true c.only_record.result c.only_record.ensures in
    (at.invariant.1.ready, h.0, h.1)

pub overflow_add-used : goal.overflow_add-used
overflow_add-used c =
    let at = c.loop-i in
    let a = c.args in
    let fits : Fits w64 (length a.draws.now) = search rules in
    let within = record_within a.rows a.given c.requires.1 at.i c.loop-i-test.true (view_node a.node) a.draws.now at.used at.at at.account at.invariant.1
    c.parts_of-parts.result c.only_record.result c.run_rule-turn.result c.parts_of-parts.ensures c.only_record.ensures c.run_rule-turn.ensures
    c.in-Used.more c.in-Used.is in
    omega (arith, fits.fits, within)

pub returns-in-Refused : goal.returns-in-Refused
returns-in-Refused c =
    let at = c.loop-i in
    let a = c.args in
    record_stops a.rows a.given c.requires.1 at.i c.loop-i-test.true (view_node a.node) a.draws.now at.used at.at at.account at.invariant.1
    c.parts_of-parts.result c.only_record.result c.run_rule-turn.result c.parts_of-parts.ensures c.only_record.ensures c.run_rule-turn.ensures
    _ c.in-Refused.is a.node refl

pub push-account-requires : goal.push-account-requires
push-account-requires c =
    let at = c.loop-i in
    omega (arith, ap (λ (x : Account). x.count) at.invariant.1.is, at.invariant.1.long, c.loop-i-test.true, c.requires.1.few)

pub overflow_add-i : goal.overflow_add-i
overflow_add-i c = omega (arith, c.loop-i-test.true, c.requires.1.few)

pub loop-i-smaller : goal.loop-i-smaller
loop-i-smaller c = omega (arith, c.loop-i-test.true)

pub loop-i-preserved : goal.loop-i-preserved
loop-i-preserved c =
    let at = c.loop-i in
    let a = c.args in
    let on = record_next a.rows a.given c.requires.1 at.i c.loop-i-test.true (view_node a.node) a.draws.now at.used at.at at.account at.invariant.1
    c.parts_of-parts.result c.only_record.result c.run_rule-turn.result c.parts_of-parts.ensures c.only_record.ensures c.run_rule-turn.ensures
    c.in-Used.more c.in-Used.is in
    (omega (arith, c.loop-i-test.true), rw c.push-account.ensures on)

pub returns : goal.returns
returns c =
    let at = c.loop-i in
    let a = c.args in
    going_over (records_of a.rows a.given) (view_node a.node) a.draws.now at.i at.used at.at at.account at.invariant.1
    (omega (arith, records-long a.rows a.given c.requires.1, c.loop-i-test.false)) a.node refl
