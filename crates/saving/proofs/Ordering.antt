-- The records in probing order, one after the other.
-- Assumes nothing.
use mathlib.Core.Path.{◌≡◌, refl, ap, sym, ◌∙◌}
use mathlib.Core.List.{List, [], ◌∷◌, map}
use Prim.Native.Nat.{ℕ, zero, suc, ◌+◌, ◌≤◌, ◌<◌}
use native.Mathlib.Omega.{arith}
use native.Mathlib.Numerals.{add-one}
use lib.ListN.{length, get_or, set, take, length-map, replicate}
use lib.Seq.{take_all, get_or-take}
use Rattle.model.specs.Rows.{pad_to}
use Rattle.laws.specs.Pad.{pad_step, take_pad}
use Rattle.address.specs.Here.{Addr, here}
use Rattle.model.specs.Words as words
use Rattle.member.specs.declared.Member.{Member}
use Rattle.member.specs.declared.Members.{Members}
use Rattle.member.specs.declared.Standing.{Standing}
use Rattle.member.specs.Views.{to_member, from_member, nobody, view_members, standing_of, Held}
use Rattle.member.specs.Packing.{order_used, view_many, to_from}
use Rattle.saving.specs.Saving.{record_of, stands_in_order}
use Rattle.saving.specs.Views.{row_in_order}

get_d_map : {A B : Type 0} (f : A → B) (l : List A) (i : ℕ) (z : B) (d : A) → i < length l → get_or (map f l) i z ≡ f (get_or l i d)
get_d_map f [] i z d h = absurd (omega arith)
get_d_map f (x ∷ l) zero z d h = refl
get_d_map f (x ∷ l) (suc i) z d h = get_d_map f l i z d (omega arith)

-- the first i stand in the row
pub record Going (m : Members) (out : List Member) (i : ℕ) : Type 0 where
  pub few : i ≤ m.len
  pub says : out ≡ pad_to 64 nobody (take i (map from_member (stands_in_order here (view_members m))))

module _ (m : Members) (h : Held m) where
  abbrev records : List Member
  records = map from_member (stands_in_order here (view_members m))

  order-long : length (view_members m).order ≡ m.len
  unfolding view_members
  order-long = order_used m h.packed

  long : length records ≡ m.len
  long = length-map (stands_in_order here (view_members m)) from_member ∙ length-map (view_members m).order (record_of here (view_members m).table) ∙ order-long

  pub going_none : (z : Member) → z ≡ nobody → Going m (replicate 64 z) 0
  going_none z e = record { few = omega arith; says = ap (replicate 64) e }

  address_at : (i : ℕ) → i < m.len → get_or (view_members m).order i here.blank ≡ get_or m.order.row i here.blank
  unfolding view_members
  address_at i k = get_or-take m.len m.order.row i here.blank k

  record-at : (i : ℕ) (a : Addr) (s : Standing) → i < m.len → a ≡ get_or m.order.row i here.blank → s ≡ standing_of m a
      → get_or records i nobody ≡ record { addr = a; state = s.state; number = s.number }
  record-at i a s k e f =
      get_d_map from_member (stands_in_order here (view_members m)) i nobody (words.blank_member here) (omega (arith, k, order-long, length-map (view_members m).order (record_of here (view_members m).table)))
      ∙ ap from_member (get_d_map (record_of here (view_members m).table) (view_members m).order i (words.blank_member here) here.blank (omega (arith, k, order-long)))
      ∙ ap (λ (x : Addr). from_member (record_of here (view_members m).table x)) (address_at i k ∙ sym e)
      ∙ sym (ap (λ (x : Standing). record { addr = a; state = x.state; number = x.number }) f)

  pub going_more : (out : List Member) (i : ℕ) (a : Addr) (s : Standing) → Going m out i → i < m.len → a ≡ get_or m.order.row i here.blank → s ≡ standing_of m a
      → Going m (set out i (record { addr = a; state = s.state; number = s.number })) (i + 1)
  going_more out i a s g k e f =
      record {
        few = omega arith;
        says =
            ap (λ (l : List Member). set l i (record { addr = a; state = s.state; number = s.number })) g.says
            ∙ pad_step 64 i nobody (record { addr = a; state = s.state; number = s.number }) records (omega (arith, k, long)) (omega (arith, long, h.packed.few)) (record-at i a s k e f)
            ∙ ap (λ (j : ℕ). pad_to 64 nobody (take j records)) (sym (add-one i));
      }

  pub going_done : (out : List Member) (i : ℕ) → Going m out i → m.len ≤ i → out ≡ row_in_order m
  going_done out i g k = g.says ∙ ap (pad_to 64 nobody) (take_all i records (omega (arith, long, k)))

  -- as many as the list lists
  pub count_is : (n : ℕ) → n ≡ length (view_members m).table → n ≡ m.len
  count_is n e = e ∙ view_many m h.packed

  -- the row holds the records
  pub row-holds : (rows : List Member) (n : ℕ) → rows ≡ row_in_order m → n ≡ m.len → map to_member (take n rows) ≡ stands_in_order here (view_members m)
  row-holds rows n e f =
      (λ i. map to_member (take ((f ∙ sym long) i) (e i))) ∙ ap (map to_member) (take_pad 64 nobody records) ∙ to_from (stands_in_order here (view_members m))
