-- `member::Members::remove_member` meets its contract: both rows close up, and the position goes by the new length.
-- Assumes nothing.
-- the place of the address, which is listed
use mathlib.Core.Path.{◌≡◌, ap, ◌∙◌}
use native.Mathlib.Omega.{arith}
use Prim.Native.Nat.{◌-◌, ◌<◌}
use Rattle.address.specs.Here.{here}
use Rattle.model.specs.declared.Lamps.{Lamps}
use Rattle.laws_list.specs.Counting.{light_of}
use Rattle.member.specs.declared.Standing.{Standing}
use Rattle.member.specs.Views.{standing_of}
use Rattle.member.specs.Packing.{table-long, order-long}
use Rattle.member.proofs.Changing.{held-counted, order-place, removed-none, removed}
use borrow.Author.Rules.{rules}
use Rattle.member.proofs.Members.remove_member.Lts as lts
use Rattle.member.proofs.Members.remove_member.Tie as tie
use Rattle.member.proofs.Members.remove_member.Reads as reads
use Rattle.member.proofs.Members.remove_member.Goals as goal

at : (c : lts.After-find tie.the-claims reads.Pre reads.Post tie.handed_clauses) → c.find-held.result.place ≡ (standing_of c.args.self c.args.a).place
at c = ap (λ (x : Standing). x.place) c.find-held.ensures.value

used : (c : lts.Else1 tie.the-claims reads.Pre reads.Post tie.handed_clauses) → c.find-held.result.place < c.args.self.len
used c = omega (arith, c.if-held-n.false, c.find-held.ensures.within)

-- the lamp of what was held
was-held : (c : goal.After-light)
    → c.light.result
    ≡ light_of here.same c.args.own c.args.a (standing_of c.args.self c.args.a).state
was-held c = c.light.ensures ∙ ap (λ (x : Standing). light_of here.same c.args.own c.args.a x.state) c.find-held.ensures.value

pub returns-then-held-n : goal.returns-then-held-n
returns-then-held-n c =
    removed-none c.args.own c.args.self c.requires.0 c.requires.1 c.args.a c.find-held.result.place (at c.before.before) c.if-held-n.true

pub find_place-at-requires : goal.find_place-at-requires
find_place-at-requires c =
    c.requires.0.packed.few

pub close_up-requires : goal.close_up-requires
close_up-requires c =
    (c.requires.0.packed.few, used c.before.before.before.before, table-long c.args.self c.requires.0.packed)

pub remove-requires : goal.remove-requires
remove-requires c =
    (c.requires.0.packed.few, order-place c.args.own c.args.self c.requires.0 c.requires.1 c.args.a c.find-held.result.place (at c.before.before.before.before.before.before.before) c.find_place-at.result c.find_place-at.ensures.value (used c.before.before.before.before.before))

pub minus-requires : goal.minus-requires
minus-requires c =
    held-counted c.args.self c.requires.0.packed c.args.a c.find-held.result.place (ap (λ (x : Standing). x.place) c.find-held.ensures.value)
    (omega (arith, c.if-held-n.false, c.find-held.ensures.within)) c.args.own c.light.result c.requires.1 (was-held c)

pub returns : goal.returns
returns c =
    ap (λ (x : Lamps). record { table = c.close_up.result; len = c.args.self.len - 1; order = record { row = c.remove.result; position = c.position_after.result }; lamps = x }) c.minus.ensures
    ∙ removed c.args.own c.args.self c.requires.0 c.requires.1 c.args.a c.find-held.result.place (at c.before.before.before.before.before.before.before.before.before.before.before.before) c.find_place-at.result c.position_after.result
    c.close_up.result c.remove.result c.light.result (used c.before.before.before.before.before.before.before.before.before.before) c.find_place-at.ensures.value c.close_up.ensures c.remove.ensures
    c.position_after.ensures (was-held c.before)
