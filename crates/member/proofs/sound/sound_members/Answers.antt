-- `member::sound::sound_members` meets its contract: each way out by the tests that led there.
-- Assumes nothing.
-- what has passed where each test was left
use mathlib.Core.Path.{◌≡◌, ap, sym, ◌∙◌}
use mathlib.Core.Bool.{true, ◌&&◌}
use mathlib.Core.List.{List, map}
use lib.ListN.{take}
use lib.Dec.{leb}
use borrow.Author.Tests.{le-leb, lt-leb, not-true, not-false}
use Rattle.address.specs.Here.{Addr, here}
use Rattle.model.specs.Rows.{every}
use Rattle.model.specs.Sound.{positioned, distinct, permutes}
use Rattle.model.specs.Lamps.{same_lamps}
use Rattle.member.specs.Views.{addr_of}
use Rattle.member.specs.Soundness.{counts_true, sound_parts, stops_1, stops_2, stops_3, stops_4, stops_5, stops_6, sound-last}
use borrow.Author.Rules.{rules}
use Rattle.member.proofs.sound.sound_members.Lts as lts
use Rattle.member.proofs.sound.sound_members.Tie as tie
use Rattle.member.proofs.sound.sound_members.Reads as reads
use Rattle.member.proofs.sound.sound_members.Goals as goal

few : (c : lts.Else1 tie.the-claims reads.Pre reads.Post) → leb c.args.m.len 64 ≡ true
few c = le-leb c.args.m.len 64 c.if-n-gt-CAPACITY.false

placed : (c : lts.Else2 tie.the-claims reads.Pre reads.Post) → positioned c.args.m.order.position c.args.m.len ≡ true
placed c = sym c.well_placed.ensures ∙ c.if-not-well_placed.false

-- the row is that of the addresses
ranged : (c : lts.After-all_in_range tie.the-claims reads.Pre reads.Post)
    → every here.valid (take c.args.m.len (map addr_of c.args.m.table))
    ≡ c.all_in_range.result
ranged c =
    let m = c.args.m in
    ap (λ (r : List Addr). every here.valid (take m.len r)) (sym c.addresses-listed.ensures) ∙ sym c.all_in_range.ensures

-- the counts that were worked out are compared
abbrev begun : lts.After-same tie.the-claims reads.Pre reads.Post → lts.Start tie.the-claims reads.Pre reads.Post
begun c = c.before.before.before.before.before.before.before.before.before.before.before.before.before.before.before.before

counted : (c : lts.After-same tie.the-claims reads.Pre reads.Post) → counts_true (begun c).args.own (begun c).args.m ≡ c.same.result
counted c = ap (same_lamps (begun c).args.m.lamps) (sym c.lamps_of.ensures) ∙ sym c.same.ensures

pub returns-then-n-gt-CAPACITY : goal.returns-then-n-gt-CAPACITY
returns-then-n-gt-CAPACITY c =
    let a = c.args in
    stops_1 _ _ _ _ _ _ _ (lt-leb a.m.len 64 c.if-n-gt-CAPACITY.true) ∙ sym (sound_parts a.own a.m)

pub returns-then-not-well_placed : goal.returns-then-not-well_placed
returns-then-not-well_placed c =
    let a = c.args in
    stops_2 _ _ _ _ _ _ _ (few c.before.before.before) (sym c.well_placed.ensures ∙ c.if-not-well_placed.true)
    ∙ sym (sound_parts a.own a.m)

pub returns-then-not-all_in_range : goal.returns-then-not-all_in_range
returns-then-not-all_in_range c =
    let a = c.args in
    stops_3 _ _ _ _ _ _ _ (few c.before.before.before.before.before.before.before.before) (placed c.before.before.before.before.before) (ranged c.before ∙ c.if-not-all_in_range.true)
    ∙ sym (sound_parts a.own a.m)

pub returns-then-not-table_ends : goal.returns-then-not-table_ends
returns-then-not-table_ends c =
    let a = c.args in
    stops_4 _ _ _ _ _ _ _ (few c.before.before.before.before.before.before.before.before.before.before) (placed c.before.before.before.before.before.before.before) (ranged c.before.before.before ∙ c.if-not-all_in_range.false) (sym c.table_ends.ensures ∙ c.if-not-table_ends.true)
    ∙ sym (sound_parts a.own a.m)

pub returns-then-not-order_ends : goal.returns-then-not-order_ends
returns-then-not-order_ends c =
    let a = c.args in
    stops_5 _ _ _ _ _ _ _ (few c.before.before.before.before.before.before.before.before.before.before.before.before) (placed c.before.before.before.before.before.before.before.before.before) (ranged c.before.before.before.before.before ∙ c.if-not-all_in_range.false)
    (sym c.table_ends.ensures ∙ c.if-not-table_ends.false) (sym c.order_ends.ensures ∙ c.if-not-order_ends.true)
    ∙ sym (sound_parts a.own a.m)

pub returns-then-not-same : goal.returns-then-not-same
returns-then-not-same c =
    let a = c.args in
    stops_6 _ _ _ _ _ _ _ (few c.before.before.before.before.before.before.before.before.before.before.before.before.before.before.before.before) (placed c.before.before.before.before.before.before.before.before.before.before.before.before.before) (ranged c.before.before.before.before.before.before.before.before.before ∙ c.if-not-all_in_range.false)
    (sym c.table_ends.ensures ∙ c.if-not-table_ends.false) (sym c.order_ends.ensures ∙ c.if-not-order_ends.false) (counted c.before ∙ c.if-not-same.true)
    ∙ sym (sound_parts a.own a.m)

pub returns : goal.returns
returns c =
    let a = c.args in
    let m = a.m in
    sound-last a.own m c.matches.result (few c.before.before.before.before.before.before.before.before.before.before.before.before.before.before.before.before.before) (placed c.before.before.before.before.before.before.before.before.before.before.before.before.before.before) (ranged c.before.before.before.before.before.before.before.before.before.before ∙ c.if-not-all_in_range.false)
    (sym c.table_ends.ensures ∙ c.if-not-table_ends.false) (sym c.order_ends.ensures ∙ c.if-not-order_ends.false) (counted c.before.before ∙ c.if-not-same.false)
    (c.matches.ensures
    ∙ ap (λ (x : List Addr). distinct here.same (take m.len x) && permutes here.same (take m.len m.order.row) (take m.len x)) c.addresses-listed.ensures)
