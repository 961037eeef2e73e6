-- `member::Members::add_member` meets its contract: a full list, a missing draw, or one place more in each row.
-- Assumes nothing.
use mathlib.Core.Path.{ap, ◌∙◌}
use Prim.Native.Nat.{◌+◌}
use native.Mathlib.Omega.{arith}
use native.Mathlib.Nat.{mod-lt}
use lib.ListN.{get_or, set}
use Rattle.model.specs.declared.State.TheVariants.{Alive}
use Rattle.model.specs.declared.Drew.TheVariants.{Used}
use Rattle.model.specs.declared.Lamps.{Lamps}
use Rattle.member.specs.Views.{view_members}
use Rattle.member.specs.Packing.{view_many}
use Rattle.member.proofs.Lighting.{lamps_room, few_lamps}
use Rattle.member.proofs.Changing.{kept_full, kept-short, kept-added}
use borrow.Author.Rules.{rules}
use Rattle.member.proofs.Members.add_member.Goals as goal

pub returns-then-n-ge-CAPACITY : goal.returns-then-n-ge-CAPACITY
returns-then-n-ge-CAPACITY c =
    let a = c.args in
    kept_full a.own a.self c.requires.0.packed a.a a.number a.draws.now a.from c.if-n-ge-CAPACITY.true

pub returns-then-draws-from : goal.returns-then-draws-from
returns-then-draws-from c =
    let a = c.args in
    kept-short a.own a.self c.requires.0.packed a.a a.number a.draws.now a.from c.if-n-ge-CAPACITY.false c.if-draws-from.true

pub insert-requires : goal.insert-requires
insert-requires c =
    let a = c.args in
    (omega arith, omega (arith, mod-lt (get_or a.draws.now a.from 0) {m = a.self.len + 1} (omega arith)))

pub plus-requires : goal.plus-requires
plus-requires c =
    let m = c.args.self in
    lamps_room c.args.own c.args.a Alive m.lamps c.light.result
    (few_lamps c.args.own (view_members m).table m.lamps (omega (arith, view_many m c.requires.0.packed, c.requires.0.packed.few)) c.requires.1.lamps)
    c.light.ensures

pub returns : goal.returns
returns c =
    let a = c.args in
    ap (λ (x : Lamps). record { members = record { table = set a.self.table a.self.len (record { addr = a.a; state = Alive; number = a.number }); len = a.self.len + 1; order = record { row = c.insert.result; position = a.self.order.position }; lamps = x }; drew = Used 1 }) c.plus.ensures
    ∙ kept-added a.own a.self c.requires.0.packed a.a a.number a.draws.now a.from c.insert.result c.light.result (omega (arith, c.if-n-ge-CAPACITY.false)) (omega (arith, c.if-draws-from.false)) c.requires.1 c.light.ensures c.insert.ensures
