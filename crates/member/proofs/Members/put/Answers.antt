-- `member::Members::put` meets its contract: the record at the place of its address, with the larger of the two numbers.
-- Assumes nothing.
use mathlib.Core.Path.{◌≡◌, ap, ◌∙◌}
use Prim.Native.Nat.{ℕ, ◌<◌, max}
use native.Mathlib.Omega.{arith}
use lib.ListN.{set}
use Rattle.address.specs.Here.{here}
use Rattle.model.specs.declared.Lamps.{Lamps}
use Rattle.model.specs.Lamps.{more}
use Rattle.laws_list.specs.Counting.{light_of}
use Rattle.member.specs.declared.Member.{Member}
use Rattle.member.specs.declared.Members.{Members}
use Rattle.member.specs.declared.Standing.{Standing}
use Rattle.member.specs.Views.{view_members, standing_of}
use Rattle.member.specs.Packing.{view_many}
use Rattle.member.proofs.Lighting.{lamps_room, few_lamps, fewer_lamps}
use Rattle.member.proofs.Changing.{held-counted, updated_none, updated}
use borrow.Author.Rules.{rules}
use Rattle.member.proofs.Members.put.Lts as lts
use Rattle.member.proofs.Members.put.Tie as tie
use Rattle.member.proofs.Members.put.Reads as reads
use Rattle.member.proofs.Members.put.Goals as goal

place_of : {a b : Standing} → a ≡ b → a.place ≡ b.place
place_of e = ap (λ (x : Standing). x.place) e

-- the rows with the record at a place, with a number and counts of one's choice
abbrev at-number : Members → ℕ → Member → ℕ → Lamps → Members
at-number m place k n lamps = record { table = set m.table place (record { addr = k.addr; state = k.state; number = n }); len = m.len; order = m.order; lamps = lamps }

-- the place is a used one
used : (c : lts.Else1 tie.the-claims reads.Pre reads.Post) → c.args.held.place < c.args.self.len
used c = omega (arith, c.if-place-n.false, c.requires.3)

was-held : (c : goal.After-light)
    → c.light.result
    ≡ light_of here.same c.args.own c.args.member.addr (standing_of c.args.self c.args.member.addr).state
was-held c = c.light.ensures ∙ ap (λ (x : Standing). light_of here.same c.args.own c.args.member.addr x.state) c.requires.2

pub returns-then-place-n : goal.returns-then-place-n
returns-then-place-n c =
    updated_none c.args.own c.args.self c.requires.0.packed c.requires.1 c.args.member c.args.held.place (place_of c.requires.2) c.if-place-n.true

pub minus-others-requires : goal.minus-others-requires
minus-others-requires c =
    held-counted c.args.self c.requires.0.packed c.args.member.addr c.args.held.place (place_of c.requires.2) (used c.before.before.before.before.before.before) c.args.own c.light.result c.requires.1 (was-held c)

pub plus-requires : goal.plus-requires
plus-requires c =
    let m = c.args.self in
    let f = few_lamps c.args.own (view_members m).table m.lamps (omega (arith, view_many m c.requires.0.packed, c.requires.0.packed.few)) c.requires.1.lamps in
    lamps_room c.args.own c.args.member.addr c.args.member.state c.minus-others.result c.light-2.result (fewer_lamps m.lamps _ c.minus-others.result f c.minus-others.ensures) c.light-2.ensures

pub returns : goal.returns
returns c =
    let m = c.args.self in
    let k = c.args.member in
    let place = c.args.held.place in
    (λ i. at-number m place k ((c.greater-number.ensures ∙ ap (λ (x : Standing). max x.number k.number) c.requires.2) i)
    ((c.plus.ensures ∙ ap (λ (x : Lamps). more x c.light-2.result) c.minus-others.ensures) i))
    ∙ updated c.args.own m c.requires.0.packed c.requires.1 k place (place_of c.requires.2) (used c.before.before.before.before.before.before.before.before.before) c.light.result c.light-2.result (was-held c.before.before.before) c.light-2.ensures
