-- An advance and a pick of the order, put back into the rows of the list.
-- Assumes nothing.
use mathlib.Core.Path.{◌≡◌, refl, ap, sym, ◌∙◌}
use mathlib.Core.List.{List, ◌++◌, map}
use Prim.Native.Nat.{ℕ, ◌+◌, ◌-◌, ◌<◌}
use native.Mathlib.Omega.{arith}
use lib.ListN.{length, take, drop, replicate, length-map}
use lib.Seq.{drop_at}
use Rattle.model.specs.declared.Lamps.{Lamps}
use Rattle.model.specs.Rows.{pad_to}
use Rattle.model.specs.Answers.{Answer, done, refused}
use Rattle.laws.specs.After.{After, halts, gives}
use Rattle.address.specs.Here.{Addr, here}
use Rattle.model.specs.Words as words
use Rattle.model.specs.Members as list
use Rattle.laws_list.specs.Aside.{with_table, picked_with, on_answer, advance-aside, pick-aside, Fits, advance_fits, pick_fits}
use Rattle.order.specs.declared.Order.{Order}
use Rattle.order.specs.declared.Turned.{Turned}
use Rattle.order.specs.declared.Exclusion.{Exclusion}
use Rattle.order.specs.declared.Picked as ordered
use Rattle.order.specs.Views as order
use Rattle.member.specs.declared.Members.{Members}
use Rattle.member.specs.declared.Kept.{Kept}
use Rattle.member.specs.declared.Picked.{Picked}
use Rattle.member.specs.Views.{to_member, from_member, nobody, view_members, pack_with, pack_members, Held, Counted, turned_as, advanced_of, picked_as, picked_of}
use Rattle.member.specs.Packing.{order-long, table_used, order_used, from_to}

-- a list with another order
abbrev with_order : Members → Order → Members
with_order m o = record { table = m.table; len = m.len; order = o; lamps = m.lamps }

pub order_ready : (m : Members) → Held m → order.Ready m.order m.len
unfolding view_members
order_ready m g =
    record { few = g.packed.few; long = order-long m g.packed; place = omega (arith, g.whole.place, order_used m g.packed) }

module _ (m : Members) (g : Held m) where
  table : List (words.Member Addr)
  table = map to_member (take m.len m.table)

  -- a list with another order, packed
  put_back : (l : list.Members Addr) → length l.order ≡ m.len
      → with_order m (order.pack_order m.order m.len l) ≡ pack_with m.lamps (with_table table l)
  unfolding pack_with table
  put_back l e =
      let p = g.packed in
      let u = take m.len m.table in
      let t : m.table ≡ pad_to 64 nobody (map from_member (map to_member u)) = p.table ∙ ap (pad_to 64 nobody) (sym (from_to u)) in
      let b : drop m.len m.order.row ≡ replicate (64 - length (take m.len m.order.row)) here.blank =
      ap (drop m.len) p.order ∙ drop_at (take m.len m.order.row) _ m.len (order_used m p) in
      let k : 64 - length (take m.len m.order.row) ≡ 64 - length l.order = omega (arith, order_used m p) in
      let r : l.order ++ drop m.len m.order.row ≡ pad_to 64 here.blank l.order =
      ap (λ (x : List Addr). l.order ++ x) (b ∙ ap (λ (i : ℕ). replicate i here.blank) k) in
      let n : m.len ≡ length (map to_member u) = sym (length-map u to_member ∙ table_used m p) in
      λ i. record { table = t i; len = n i; order = record { row = r i; position = l.position }; lamps = m.lamps }

  many : length (order.view_order m.order m.len).order ≡ m.len
  many = order_used m g.packed

  advanced_as : (k : ℕ) (x : Answer (list.Members Addr)) → After (Fits (order.view_order m.order m.len)) x
      → ◌≡◌ {A = Kept} (record { members = with_order m (order.turned_order m.order m.len x); drew = order.drew_of k x }) (turned_as m k (on_answer (with_table table) x))
  advanced_as k (refused r) halts = refl
  advanced_as k (done l rest) (gives f) = λ i. record { members = put_back l (f.long ∙ many) i; drew = order.drew_of k (done l rest) }

  pub advanced_is : (draws : List ℕ) (from : ℕ) (t : Turned) → 0 < m.len → t ≡ order.turned_of m.order m.len draws from
      → ◌≡◌ {A = Kept} (record { members = with_order m t.order; drew = t.drew }) (advanced_of m draws from)
  unfolding view_members table
  advanced_is draws from t h e =
      let o = order.view_order m.order m.len in
      let x = list.advance here.blank o (drop from draws) in
      (λ i. record { members = with_order m (e i).order; drew = (e i).drew })
      ∙ advanced_as (length draws - from) x (advance_fits here.blank o (drop from draws) (omega (arith, many)))
      ∙ ap (turned_as m (length draws - from)) (sym (advance-aside table here.blank o (drop from draws)))

  -- the table stands aside, so its counts do
  put-counted : (own : Addr) (l : list.Members Addr) → Counted own m → length l.order ≡ m.len
      → with_order m (order.pack_order m.order m.len l) ≡ pack_members own (with_table table l)
  unfolding table view_members
  put-counted own l c e = put_back l e ∙ ap (λ (k : Lamps). pack_with k (with_table table l)) c.lamps

  picked-as : (own : Addr) → Counted own m → (k : ℕ) (x : Answer (list.Picked Addr)) → After (λ p. Fits (order.view_order m.order m.len) p.members) x
      → ◌≡◌ {A = Picked}
      (record { members = with_order m (order.picked_order m.order m.len x); picks = order.picked_row x; drew = order.drew_of k x })
      (picked_as own m k (on_answer (picked_with table) x))
  picked-as own c k (refused r) halts = refl
  picked-as own c k (done p rest) (gives f) =
      λ i. record { members = put-counted own p.members c (f.long ∙ many) i; picks = order.picks_of p.picks; drew = order.drew_of k (done p rest) }

  pub picked_is : (own : Addr) → Counted own m → (e : Exclusion) (wanted : ℕ) (draws : List ℕ) (from : ℕ) (t : ordered.Picked)
      → t ≡ order.picked_of m.order m.len own e wanted draws from
      → ◌≡◌ {A = Picked} (record { members = with_order m t.order; picks = t.picks; drew = t.drew }) (picked_of m own e wanted draws from)
  unfolding view_members table
  picked_is own c e wanted draws from t q =
      let o = order.view_order m.order m.len in
      let x = list.pick_from here.same here.blank own (order.excluded e) wanted o (drop from draws) in
      (λ i. record { members = with_order m (q i).order; picks = (q i).picks; drew = (q i).drew })
      ∙ picked-as own c (length draws - from) x (pick_fits here.blank here.same own (order.excluded e) wanted o (drop from draws) g.whole.place)
      ∙ ap (picked_as own m (length draws - from)) (sym (pick-aside table here.same here.blank own (order.excluded e) wanted o (drop from draws)))
