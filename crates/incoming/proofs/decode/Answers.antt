-- `incoming::decode` meets its contract: the fields passed and the fields left come to the whole.
-- Assumes nothing.
use mathlib.Core.Path.{refl, sym, ap, ◌∙◌}
use mathlib.Core.List.{List}
use Prim.Native.Nat.{ℕ, ◌-◌}
use native.Mathlib.Omega.{arith}
use lib.ListN.{length, take, drop, length-drop}
use Rattle.varint.specs.Parts.{rest_of, part-long}
use Rattle.fields.specs.FieldLaws.{next_lies}
use Rattle.fields.specs.Walks.{going_none, going_end}
use Rattle.actions.specs.Stepping.{size_at}
use Rattle.incoming.specs.Datagram.{unsent, message_step}
use Rattle.incoming.specs.Stepping.{shows_unspoken, Run, run_stop, run-over, run_wrong, run-refuse, run_more, decodes_stop, decodes_read}
use borrow.Author.Rules.{rules}
use Rattle.incoming.proofs.decode.Goals as goal

pub loop-at-init : goal.loop-at-init
loop-at-init c =
    record {
      within = search rules;
      said = unsent;
      going = going_none message_step _ _ _;
      kind = refl;
      shows = shows_unspoken _ _ c.unspoken-small.ensures;
    }

pub returns-in_default : goal.returns-in_default
returns-in_default c =
    let b = c.args.bytes.now in
    let l = c.loop-at in
    let r = rest_of b l.at in
    decodes_stop b _ l.at _ c.malformed.ensures (run_stop b l.at l.kind l.small l.row l.invariant _ r (search rules) (sym c.in_default.is ∙ c.first.ensures))

pub overflow_add-at : goal.overflow_add-at
overflow_add-at c =
    let b = c.args.bytes.now in
    let l = c.loop-at in
    let r = rest_of b l.at in
    let z = size_at b _ l.at c.in-Found.f r l.invariant.within (sym c.in-Found.is ∙ c.first.ensures) in
    omega (arith, z.1)

pub loop-at-smaller-then-number-gt3 : goal.loop-at-smaller-then-number-gt3
loop-at-smaller-then-number-gt3 c =
    let b = c.args.bytes.now in
    let l = c.loop-at in
    let r = rest_of b l.at in
    let z = size_at b _ l.at c.in-Found.f r l.invariant.within (sym c.in-Found.is ∙ c.first.ensures) in
    omega (arith, z.0, z.1)

pub loop-at-preserved-then-number-gt3 : goal.loop-at-preserved-then-number-gt3
loop-at-preserved-then-number-gt3 c =
    let b = c.args.bytes.now in
    let l = c.loop-at in
    let r = rest_of b l.at in
    let z = size_at b _ l.at c.in-Found.f r l.invariant.within (sym c.in-Found.is ∙ c.first.ensures) in
    run-over b l.at l.kind l.small l.row l.invariant _ r (search rules) c.in-Found.f (sym c.in-Found.is ∙ c.first.ensures) (search rules) z.1

pub returns-then-f-ne2 : goal.returns-then-f-ne2
returns-then-f-ne2 c =
    let b = c.args.bytes.now in
    let l = c.loop-at in
    let r = rest_of b l.at in
    decodes_stop b _ l.at _ c.malformed-then-f-ne2.ensures (run_wrong b l.at l.kind l.small l.row l.invariant _ r (search rules) c.in-Found.f (sym c.in-Found.is ∙ c.first.ensures) (search rules) (search rules))

pub slice_bounds-merge-count : goal.slice_bounds-merge-count
slice_bounds-merge-count c =
    let b = c.args.bytes.now in
    let l = c.loop-at in
    let r = rest_of b l.at in
    let w = next_lies (take (length b - l.at) (drop l.at b)) c.in-Found.f (sym (sym c.in-Found.is ∙ c.first.ensures)) in
    let n = ap (λ (x : List ℕ). length x) r ∙ length-drop l.at b in
    omega (arith, w.begins)

pub slice_bounds-merge-start : goal.slice_bounds-merge-start
slice_bounds-merge-start c =
    let b = c.args.bytes.now in
    let l = c.loop-at in
    let r = rest_of b l.at in
    let w = next_lies (take (length b - l.at) (drop l.at b)) c.in-Found.f (sym (sym c.in-Found.is ∙ c.first.ensures)) in
    let n = ap (λ (x : List ℕ). length x) r ∙ length-drop l.at b in
    omega (arith, w.begins)

pub slice_bounds-merge-end : goal.slice_bounds-merge-end
slice_bounds-merge-end c =
    let b = c.args.bytes.now in
    let l = c.loop-at in
    let r = rest_of b l.at in
    let w = next_lies (take (length b - l.at) (drop l.at b)) c.in-Found.f (sym (sym c.in-Found.is ∙ c.first.ensures)) in
    let n = ap (λ (x : List ℕ). length x) r ∙ length-drop l.at b in
    omega (arith, w.ends)

pub overflow_add-at-in-loop-at : goal.overflow_add-at-in-loop-at
overflow_add-at-in-loop-at c =
    let b = c.args.bytes.now in
    let l = c.loop-at in
    let r = rest_of b l.at in
    let w = next_lies (take (length b - l.at) (drop l.at b)) c.in-Found.f (sym (sym c.in-Found.is ∙ c.first.ensures)) in
    let n = ap (λ (x : List ℕ). length x) r ∙ length-drop l.at b in
    omega (arith, w.begins, w.ends, l.invariant.within)

pub merge-acted-requires : goal.merge-acted-requires
merge-acted-requires c =
    let b = c.args.bytes.now in
    let l = c.loop-at in
    let r = rest_of b l.at in
    let w = next_lies (take (length b - l.at) (drop l.at b)) c.in-Found.f (sym (sym c.in-Found.is ∙ c.first.ensures)) in
    let n = ap (λ (x : List ℕ). length x) r ∙ length-drop l.at b in
    omega (arith, w.begins, w.ends, l.invariant.within, part-long (take (length b - l.at) (drop l.at b)) c.in-Found.f.head c.in-Found.f.size w.begins w.ends)

pub returns-then-acted : goal.returns-then-acted
returns-then-acted c =
    let b = c.args.bytes.now in
    let l = c.loop-at in
    let r = rest_of b l.at in
    decodes_stop b _ _ _ c.malformed-then-acted.ensures (run-refuse b l.at l.kind l.small l.row l.invariant _ r c.loop-at-test.true c.in-Found.f (sym c.in-Found.is ∙ c.first.ensures) (search rules) (search rules) _ c.resumed.ensures _ c.merge-acted.ensures (search rules))

pub overflow_add-at-in-loop-at-2 : goal.overflow_add-at-in-loop-at-2
overflow_add-at-in-loop-at-2 c =
    let b = c.args.bytes.now in
    let l = c.loop-at in
    let r = rest_of b l.at in
    let z = size_at b _ l.at c.in-Found.f r l.invariant.within (sym c.in-Found.is ∙ c.first.ensures) in
    let g = c.well_formed in
    omega (arith, z.1)

pub loop-at-smaller : goal.loop-at-smaller
loop-at-smaller c =
    let b = c.args.bytes.now in
    let l = c.loop-at in
    let r = rest_of b l.at in
    let z = size_at b _ l.at c.in-Found.f r l.invariant.within (sym c.in-Found.is ∙ c.first.ensures) in
    omega (arith, z.0, z.1)

pub loop-at-preserved : goal.loop-at-preserved
loop-at-preserved c =
    let b = c.args.bytes.now in
    let l = c.loop-at in
    let r = rest_of b l.at in
    let z = size_at b _ l.at c.in-Found.f r l.invariant.within (sym c.in-Found.is ∙ c.first.ensures) in
    run_more b l.at l.kind l.small l.row l.invariant _ r (search rules) c.in-Found.f (sym c.in-Found.is ∙ c.first.ensures) (search rules) (search rules) _ c.resumed.ensures _ c.merge-acted.ensures (search rules) z.1

pub returns : goal.returns
returns c =
    let b = c.args.bytes.now in
    let l = c.loop-at in
    decodes_read b l.invariant.said l.kind l.small l.row (going_end message_step 0 b unsent l.at l.invariant.said l.invariant.going (search rules)) l.invariant.kind l.invariant.shows _ c.judged.ensures
