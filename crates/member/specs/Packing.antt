-- Rows and lists go over into each other: what one call leaves is what the next one is handed.
-- Assumes nothing.
use Rattle.std.specs.Prelude.{◌≡◌, refl, List, [], ◌∷◌, map, ◌≤◌, length, take}
use Rattle.std.proofs.Common.{ap, sym, ◌∙◌, subst, arith, length-take, take_at, length-take-le}
use Rattle.std.proofs.lemmas.List.{length-map}
use Rattle.model.specs.declared.Lamps.{Lamps}
use Rattle.model.specs.Rows.{pad_to}
use Rattle.laws.specs.Pad.{length-pad_to}
use Rattle.address.specs.Here.{Addr, here}
use Rattle.model.specs.Words as words
use Rattle.model.specs.Members as list
use Rattle.model.specs.Lamps.{lamps_of}
use Rattle.laws_list.specs.Whole.{Whole}
use Rattle.member.specs.declared.Member.{Member}
use Rattle.member.specs.declared.Members.{Members}
use Rattle.member.specs.Views.{to_member, from_member, nobody, view_members, pack_with, pack_members, Packed, Held, Counted}

-- a packed row has its length
pub table-long : (m : Members) → Packed m → length m.table ≡ 64
table-long m p = ap length p.table ∙ length-pad_to 64 nobody (take m.len m.table) (omega (arith, length-take m.len m.table, p.few))

pub order-long : (m : Members) → Packed m → length m.order.row ≡ 64
order-long m p = ap length p.order ∙ length-pad_to 64 here.blank (take m.len m.order.row) (omega (arith, length-take m.len m.order.row, p.few))

-- the used part of a packed row
pub table_used : (m : Members) → Packed m → length (take m.len m.table) ≡ m.len
table_used m p = length-take-le m.len m.table (omega (arith, table-long m p, p.few))

pub order_used : (m : Members) → Packed m → length (take m.len m.order.row) ≡ m.len
order_used m p = length-take-le m.len m.order.row (omega (arith, order-long m p, p.few))

-- the list is as long as the rows say
pub view_many : (m : Members) → Packed m → length (view_members m).table ≡ m.len
unfolding view_members
view_many m p = length-map (take m.len m.table) to_member ∙ table_used m p

-- a record of the rows is a record of the list
pub from_to : (t : List Member) → map from_member (map to_member t) ≡ t
from_to [] = refl
from_to (m ∷ t) = ap (λ (l : List Member). m ∷ l) (from_to t)

pub to_from : (t : List (words.Member Addr)) → map to_member (map from_member t) ≡ t
to_from [] = refl
to_from (m ∷ t) = ap (λ (l : List (words.Member Addr)). m ∷ l) (to_from t)

-- what is packed is read back, whatever the counts
pub view_with : (lamps : Lamps) (l : list.Members Addr) → length l.order ≡ length l.table → view_members (pack_with lamps l) ≡ l
unfolding view_members pack_with
view_with lamps l e =
    let t : map to_member (take (length l.table) (pad_to 64 nobody (map from_member l.table))) ≡ l.table =
    ap (map to_member) (take_at (map from_member l.table) _ (length l.table) (length-map l.table from_member)) ∙ to_from l.table in
    let o : take (length l.table) (pad_to 64 here.blank l.order) ≡ l.order = take_at l.order _ (length l.table) e in
    λ i. record { table = t i; order = o i; position = l.position }

pub view_pack : (own : Addr) (l : list.Members Addr) → length l.order ≡ length l.table → view_members (pack_members own l) ≡ l
view_pack own l e = view_with (lamps_of here.same own l.table) l e

-- what is read is packed back, if the counts are those of the list
pub with_view : (m : Members) → Packed m → pack_with m.lamps (view_members m) ≡ m
unfolding view_members pack_with
with_view m p =
    let t : pad_to 64 nobody (map from_member (map to_member (take m.len m.table))) ≡ m.table =
    ap (pad_to 64 nobody) (from_to (take m.len m.table)) ∙ sym p.table in
    let n : length (map to_member (take m.len m.table)) ≡ m.len = length-map (take m.len m.table) to_member ∙ table_used m p in
    λ i. record { table = t i; len = n i; order = record { row = sym p.order i; position = m.order.position }; lamps = m.lamps }

pub pack_view : (own : Addr) (m : Members) → Packed m → Counted own m → pack_members own (view_members m) ≡ m
pack_view own m p c = ap (λ (k : Lamps). pack_with k (view_members m)) (sym c.lamps) ∙ with_view m p

pub packed_pack : (lamps : Lamps) (l : list.Members Addr) → length l.order ≡ length l.table → length l.table ≤ 64 → Packed (pack_with lamps l)
unfolding pack_with
packed_pack lamps l e h =
    record {
      few = h;
      table = sym (ap (pad_to 64 nobody) (take_at (map from_member l.table) _ (length l.table) (length-map l.table from_member)));
      order = sym (ap (pad_to 64 here.blank) (take_at l.order _ (length l.table) e));
    }

-- a whole list is held by its rows, with its counts: so one call's rows are the next call's
pub held_pack : (own : Addr) (l : list.Members Addr) → Whole here.same l → Held (pack_members own l)
held_pack own l w =
    record {
      packed = packed_pack (lamps_of here.same own l.table) l w.long w.few;
      whole = subst (λ (x : list.Members Addr). Whole here.same x) (sym (view_pack own l w.long)) w;
    }

pub counted_pack : (own : Addr) (l : list.Members Addr) → length l.order ≡ length l.table → Counted own (pack_members own l)
unfolding pack_with
counted_pack own l e = record { lamps = ap (λ (x : list.Members Addr). lamps_of here.same own x.table) (sym (view_pack own l e)) }
