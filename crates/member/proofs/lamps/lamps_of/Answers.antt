-- `member::lamps::lamps_of` meets its contract: the first i are counted.
-- Assumes nothing.
use mathlib.Core.Path.{◌≡◌, ap, ◌∙◌}
use mathlib.Core.List.{List, map}
use Prim.Native.Nat.{ℕ, ◌-◌, ◌≤◌}
use native.Mathlib.Omega.{arith}
use lib.ListN.{length, take}
use Rattle.address.specs.Here.{Addr, here}
use Rattle.model.specs.declared.Lamps.{Lamps}
use Rattle.model.specs.Lamps.{lamps_of}
use Rattle.member.specs.declared.Member.{Member}
use Rattle.member.specs.Views.{to_member}
use Rattle.member.proofs.Lighting.{lamps_room, count-start, count_few, count_next}
use borrow.Author.Rules.{rules}
use Rattle.member.proofs.lamps.lamps_of.Invariants.{Counts}
use Rattle.member.proofs.lamps.lamps_of.Goals as goal

pub loop-i-init : goal.loop-i-init
loop-i-init c = let a = c.args in record { few = omega arith; counted = c.none-lamps.ensures ∙ count-start a.own a.table }

pub plus-lamps-requires : goal.plus-lamps-requires
plus-lamps-requires c =
    let l = c.loop-i in
    lamps_room c.args.own _ _ l.lamps c.light.result (count_few c.args.own c.args.table l.i l.lamps (omega (arith, l.invariant.few, c.requires)) l.invariant.counted) c.light.ensures

pub loop-i-smaller : goal.loop-i-smaller
loop-i-smaller c = omega arith

pub loop-i-preserved : goal.loop-i-preserved
loop-i-preserved c =
    let l = c.loop-i in
    let n : length c.args.table ≡ 64 = search rules in
    record {
      few = omega arith;
      counted = c.plus-lamps.ensures ∙ count_next c.args.own c.args.table l.i l.lamps c.light.result (omega arith) l.invariant.counted c.light.ensures;
    }

pub returns : goal.returns
returns c =
    let l = c.loop-i in
    let e : l.i ≡ c.args.n = omega (arith, l.invariant.few) in
    l.invariant.counted ∙ ap (λ (i : ℕ). lamps_of here.same c.args.own (map to_member (take i c.args.table))) e
