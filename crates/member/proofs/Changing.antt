-- What each lookup and each change of the rows comes to in the list of the rules.
-- Assumes nothing.
use mathlib.Core.Path.{◌≡◌, refl, ap, sym, ◌∙◌}
use mathlib.Core.Bool.{Bool, true, false}
use mathlib.Core.List.{List, [], ◌∷◌, ◌++◌, map}
use Prim.Native.Nat.{ℕ, suc, ◌+◌, ◌-◌, ◌≤◌, ◌<◌, ◌%◌, max}
use native.Mathlib.Omega.{arith}
use lib.ListN.{length, get_or, set, take, drop, length-append, length-map, length-set, length-drop, drop_of_length-le, get_or-eq_default}
use lib.Seq.{drop-cons, set_out}
use lib.Dec.{eqb, ltb}
use borrow.Author.Tests.{le-leb, lt-leb, ltb-true, ltb-false, lt-ltb, le-ltb, eqb-true}
use Rattle.model.specs.declared.State.TheVariants.{Alive}
use Rattle.model.specs.declared.Refusal.TheVariants.{ListFull, DrawsShort}
use Rattle.model.specs.declared.Lamps.{Lamps}
use Rattle.model.specs.Rows.{one, pick, insert_at, remove_at, pad_to, has, erase, occurs}
use Rattle.laws.specs.Loops.{first_place, place_map}
use Rattle.laws.specs.Pad.{length-remove_at}
use Rattle.laws.specs.Padded.{pad_snoc, pad_set, remove_at-out}
use Rattle.laws.specs.Counts.{has_le, has-none}
use Rattle.model.specs.Answers.{done, refused, when}
use Rattle.address.specs.Here.{Addr, here, here_lawful}
use Rattle.model.specs.Words as words
use Rattle.model.specs.Members as list
use Rattle.model.specs.Lamps.{more, less, lamps_of}
use Rattle.laws_list.specs.Counting.{light_of}
use Rattle.laws_list.proofs.Counting.{lamps_snoc, lamps_cover, lamps_strike, lamps_put}
use Rattle.laws_list.specs.Places.{place_of, has-place, erase-place, strike-place, put-place, held_place, state_place}
use Rattle.model.specs.declared.Drew.TheVariants.{Used, Refused}
use Rattle.member.specs.declared.Member.{Member}
use Rattle.member.specs.declared.Members.{Members}
use Rattle.member.specs.declared.Standing.{Standing}
use Rattle.member.specs.declared.Kept.{Kept}
use Rattle.member.specs.Views.{to_member, from_member, nobody, view_members, pack_with, pack_members, Packed, Held, Counted, standing_of, kept_as, added_of}
use Rattle.member.specs.Packing.{table_used, order_used, view_many, pack_view}
use Rattle.member.proofs.Tables.{record-at, removed-row, replaced_row, added-row}

-- the table of the list, and the place of an address in it
abbrev held_table : Members → List (words.Member Addr)
held_table m = (view_members m).table

abbrev place_in : Members → Addr → ℕ
place_in m a = place_of here.same a (list.addrs (held_table m))

-- the same place in the rows
pub place_is : (m : Members) (a : Addr) → first_place (λ (k : Member). here.same a k.addr) (take m.len m.table) ≡ place_in m a
unfolding view_members
place_is m a =
    sym (place_map (here.same a) (λ (k : words.Member Addr). k.addr) (held_table m) ∙ place_map (λ (k : words.Member Addr). here.same a k.addr) to_member (take m.len m.table))

addresses : (m : Members) → Packed m → length (list.addrs (held_table m)) ≡ m.len
addresses m p = length-map (held_table m) (λ k. k.addr) ∙ view_many m p

-- an address at a used place is listed, and counted
module _ (m : Members) (p : Packed m) (a : Addr) (place : ℕ) (e : place ≡ place_in m a) (h : place < m.len) where
  there : list.listed here.same a (held_table m) ≡ true
  there = has-place here.same a (list.addrs (held_table m)) ∙ lt-ltb (place_in m a) (length (list.addrs (held_table m))) (omega (arith, addresses m p))

  pub held-counted : (own : Addr) (k : Lamps) → Counted own m → k ≡ light_of here.same own a (list.held_state here.same a (held_table m)) → (k.alive ≤ m.lamps.alive) × (k.pending ≤ m.lamps.pending) × (k.suspected ≤ m.lamps.suspected)
  held-counted own k c q =
      let v = lamps_cover here.same here_lawful.test own a (held_table m) there in (
        omega (arith, v.alive, ap (λ (z : Lamps). z.alive) q, ap (λ (z : Lamps). z.alive) c.lamps),
        omega (arith, v.pending, ap (λ (z : Lamps). z.pending) q, ap (λ (z : Lamps). z.pending) c.lamps),
        omega (arith, v.suspected, ap (λ (z : Lamps). z.suspected) q, ap (λ (z : Lamps). z.suspected) c.lamps),
      )

-- what a record says of its address
abbrev says : Bool → ℕ → Member → Standing
says listed place k = record { listed = listed; place = place; state = k.state; number = k.number }

module _ (m : Members) (p : Packed m) (a : Addr) (place : ℕ) (e : place ≡ place_in m a) where
  -- the list says what the record at the place of the address does, which is nobody's behind the used places
  said : (k : Member) → get_or (held_table m) place (words.blank_member here) ≡ to_member k → says (ltb place m.len) place k ≡ standing_of m a
  said k q =
      let at : to_member k ≡ get_or (held_table m) (place_in m a) (words.blank_member here) = sym q ∙ ap (λ (i : ℕ). get_or (held_table m) i (words.blank_member here)) e in
      λ i. record {
        listed = ((λ j. ltb (e j) (sym (addresses m p) j)) ∙ sym (has-place here.same a (list.addrs (held_table m)))) i;
        place = e i;
        state = (ap (λ (r : words.Member Addr). r.state) at ∙ sym (state_place here.same a (held_table m) (words.blank_member here) refl)) i;
        number = (ap (λ (r : words.Member Addr). r.number) at ∙ sym (held_place here.same a (held_table m) (words.blank_member here) refl)) i;
      }

  pub said-listed : place < m.len → says true place (get_or m.table place nobody) ≡ standing_of m a
  unfolding view_members
  said-listed h =
      let k = get_or m.table place nobody in
      ap (λ (b : Bool). says b place k) (sym (lt-ltb place m.len h)) ∙ said k (record-at m.len m.table place h)

  pub said_absent : place ≡ m.len → says false m.len nobody ≡ standing_of m a
  said_absent h =
      (λ i. says (sym (le-ltb place m.len (omega arith)) i) (sym h i) nobody)
      ∙ said nobody (get_or-eq_default (held_table m) (words.blank_member here) (omega (arith, view_many m p)))

module _ (own : Addr) (m : Members) (p : Packed m) (c : Counted own m) (k : Member) (place : ℕ) (e : place ≡ place_in m k.addr) where
  -- the record with the larger of the held and the given number
  abbrev kept : Member
  kept = record { addr = k.addr; state = k.state; number = max (list.held here.same k.addr (held_table m)) k.number }

  put_is : list.put here.same (to_member kept) (held_table m) ≡ set (held_table m) place (to_member kept)
  put_is = put-place here.same (to_member kept) (held_table m) ∙ ap (λ (i : ℕ). set (held_table m) i (to_member kept)) (sym e)

  pub updated_none : place ≡ m.len → m ≡ pack_members own (list.update here.same (to_member k) (view_members m))
  unfolding list.update view_members
  updated_none h =
      let t : list.put here.same (to_member kept) (held_table m) ≡ held_table m =
      put_is ∙ set_out (held_table m) place (to_member kept) (omega (arith, view_many m p)) in
      sym (ap (λ (l : List (words.Member Addr)). pack_members own (record { table = l; order = take m.len m.order.row; position = m.order.position })) t ∙ pack_view own m p c)

  -- one less and one more is counted
  put-counted : place < m.len → (was is : Lamps) → was ≡ light_of here.same own k.addr (list.held_state here.same k.addr (held_table m)) → is ≡ light_of here.same own k.addr k.state
      → more (less m.lamps was) is ≡ lamps_of here.same own (list.put here.same (to_member kept) (held_table m))
  put-counted h was is q r =
      (λ i. more (less (c.lamps i) (q i)) (r i))
      ∙ sym (lamps_put here.same here_lawful.test own (to_member kept) (held_table m) (there m p k.addr place e h))

  pub updated : place < m.len → (was is : Lamps) → was ≡ light_of here.same own k.addr (list.held_state here.same k.addr (held_table m)) → is ≡ light_of here.same own k.addr k.state
      → ◌≡◌ {A = Members} (record { table = set m.table place kept; len = m.len; order = m.order; lamps = more (less m.lamps was) is })
      (pack_members own (list.update here.same (to_member k) (view_members m)))
  unfolding list.update view_members pack_with
  updated h was is q r =
      let u = take m.len m.table in
      let t : set m.table place kept ≡ pad_to 64 nobody (map from_member (list.put here.same (to_member kept) (held_table m))) =
      ap (λ (l : List Member). set l place kept) p.table
      ∙ pad_set 64 nobody u place kept (omega (arith, table_used m p))
      ∙ ap (pad_to 64 nobody) (sym (ap (map from_member) put_is ∙ replaced_row u place kept)) in
      let n : m.len ≡ length (list.put here.same (to_member kept) (held_table m)) =
      sym (ap length put_is ∙ length-set (held_table m) place (to_member kept) ∙ view_many m p) in
      λ i. record { table = t i; len = n i; order = record { row = p.order i; position = m.order.position }; lamps = put-counted h was is q r i }

-- the position of a list that nothing leaves
position_stays : (q n : ℕ) → q ≤ n - 1 → list.position_after here.same q n ≡ q
position_stays q n h =
    (elim (eqb q n) as (λ u. eqb q n ≡ u → pick u (n - 1) q ≡ q) [
      | true ↦ λ z. omega (arith, eqb-true q n z)
      | false ↦ λ z. refl
    ]) refl

module _ (own : Addr) (m : Members) (g : Held m) (c : Counted own m) (a : Addr) (place : ℕ) (e : place ≡ place_in m a) where
  -- as often in the order as in the table
  as_often : occurs here.same a (take m.len m.order.row) ≡ occurs here.same a (list.addrs (held_table m))
  unfolding view_members
  as_often = g.whole.counts a

  -- the place in the order is a used one if that in the table is, and none otherwise
  pub order-place : (at : ℕ) → at ≡ place_of here.same a (take m.len m.order.row) → place < m.len → at < m.len
  order-place at q h =
      let l = list.addrs (held_table m) in
      let o = take m.len m.order.row in
      let listed : has here.same a l ≡ true =
      has-place here.same a l ∙ lt-ltb (place_of here.same a l) (length l) (omega (arith, addresses m g.packed)) in
      let in-l : 0 < occurs here.same a l = omega (arith, has_le here.same a l, ap one listed) in
      let in-o : has here.same a o ≡ true =
      (elim (has here.same a o) as (λ u. has here.same a o ≡ u → u ≡ true) [
        | true ↦ λ _. refl
        | false ↦ λ z. absurd (omega (arith, has-none here.same a o z, as_often))
      ]) refl in
      omega (arith, ltb-true (place_of here.same a o) (length o) (sym (has-place here.same a o) ∙ in-o), order_used m g.packed)

  pub removed-none : place ≡ m.len → m ≡ pack_members own (list.remove here.same a (view_members m))
  unfolding list.remove view_members
  removed-none h =
      let l = list.addrs (held_table m) in
      let o = take m.len m.order.row in
      let t : list.strike here.same a (held_table m) ≡ held_table m =
      strike-place here.same a (held_table m) ∙ remove_at-out (held_table m) (place_in m a) (omega (arith, view_many m g.packed)) in
      let none-l : has here.same a l ≡ false =
      has-place here.same a l ∙ le-ltb (place_of here.same a l) (length l) (omega (arith, addresses m g.packed)) in
      let none-o : has here.same a o ≡ false =
      (elim (has here.same a o) as (λ u. has here.same a o ≡ u → u ≡ false) [
        | true ↦ λ z. absurd (omega (arith, has_le here.same a o, ap one z, has-none here.same a l none-l, as_often))
        | false ↦ λ _. refl
      ]) refl in
      let r : erase here.same a o ≡ o =
      erase-place here.same a o ∙ remove_at-out o (place_of here.same a o)
      (omega (arith, ltb-false (place_of here.same a o) (length o) (sym (has-place here.same a o) ∙ none-o))) in
      let s : list.position_after here.same m.order.position (length (erase here.same a o)) ≡ m.order.position =
      ap (λ (x : List Addr). list.position_after here.same m.order.position (length x)) r ∙ position_stays m.order.position (length o) g.whole.place in
      sym ((λ i. pack_members own (record { table = t i; order = r i; position = s i })) ∙ pack_view own m g.packed c)

  pub removed : (at position : ℕ) (table : List Member) (order : List Addr) (was : Lamps) → place < m.len
      → at ≡ place_of here.same a (take m.len m.order.row) → table ≡ pad_to 64 nobody (remove_at (take m.len m.table) place)
      → order ≡ pad_to 64 here.blank (remove_at (take m.len m.order.row) at) → position ≡ list.position_after here.same m.order.position (m.len - 1)
      → was ≡ light_of here.same own a (list.held_state here.same a (held_table m))
      → ◌≡◌ {A = Members} (record { table = table; len = m.len - 1; order = record { row = order; position = position }; lamps = less m.lamps was })
      (pack_members own (list.remove here.same a (view_members m)))
  unfolding list.remove view_members pack_with
  removed at position table order was h q tq oq pq wq =
      let o = take m.len m.order.row in
      let below = order-place at q h in
      let s : list.strike here.same a (held_table m) ≡ remove_at (held_table m) place =
      strike-place here.same a (held_table m) ∙ ap (remove_at (held_table m)) (sym e) in
      let r : erase here.same a o ≡ remove_at o at = erase-place here.same a o ∙ ap (remove_at o) (sym q) in
      let t : table ≡ pad_to 64 nobody (map from_member (list.strike here.same a (held_table m))) =
      tq ∙ ap (pad_to 64 nobody) (sym (ap (map from_member) s ∙ removed-row (take m.len m.table) place)) in
      let n : m.len - 1 ≡ length (list.strike here.same a (held_table m)) =
      omega (arith, ap length s, length-remove_at (held_table m) place (omega (arith, view_many m g.packed)), view_many m g.packed) in
      let k : m.len - 1 ≡ length (erase here.same a o) =
      omega (arith, ap length r, length-remove_at o at (omega (arith, order_used m g.packed)), order_used m g.packed) in
      λ i. record {
        table = t i;
        len = n i;
        order = record {
          row = (oq ∙ ap (pad_to 64 here.blank) (sym r)) i;
          position = (pq ∙ ap (list.position_after here.same m.order.position) k) i;
        };
        lamps = ((λ j. less (c.lamps j) (wq j)) ∙ sym (lamps_strike here.same here_lawful.test own a (held_table m) (there m g.packed a place e h))) i;
      }

-- each way out of an addition
module _ (m : list.Members Addr) (a : Addr) (number : ℕ) where
  pub add-full : (ds : List ℕ) → 64 ≤ length m.table → list.add here.same a number m ds ≡ refused ListFull
  unfolding list.add when
  add-full ds h = rw (le-leb 64 (length m.table) h)

  pub add-short : (ds : List ℕ) → length m.table < 64 → ds ≡ [] → list.add here.same a number m ds ≡ refused DrawsShort
  unfolding list.add when
  add-short ds h e = rw (lt-leb 64 (length m.table) h, e)

  pub add_done : (ds : List ℕ) (d : ℕ) (rest : List ℕ) → length m.table < 64 → ds ≡ d ∷ rest
      → list.add here.same a number m ds ≡ done (list.added here.same a number d m) rest
  unfolding list.add when
  add_done ds d rest h e = rw (lt-leb 64 (length m.table) h, e)

module _ (own : Addr) (m : Members) (p : Packed m) (a : Addr) (number : ℕ) (draws : List ℕ) (from : ℕ) where
  pub kept_full : 64 ≤ m.len → ◌≡◌ {A = Kept} (record { members = m; drew = Refused ListFull }) (added_of own m a number draws from)
  kept_full h = ap (kept_as own m (length draws - from)) (sym (add-full (view_members m) a number (drop from draws) (omega (arith, view_many m p))))

  pub kept-short : m.len < 64 → length draws ≤ from → ◌≡◌ {A = Kept} (record { members = m; drew = Refused DrawsShort }) (added_of own m a number draws from)
  kept-short h k =
      ap (kept_as own m (length draws - from))
      (sym (add-short (view_members m) a number (drop from draws) (omega (arith, view_many m p)) (drop_of_length-le draws k)))

  -- the rows with one more
  abbrev with_added : List Addr → Lamps → Members
  with_added order is =
      record {
        table = set m.table m.len (record { addr = a; state = Alive; number = number });
        len = m.len + 1;
        order = record { row = order; position = m.order.position };
        lamps = more m.lamps is;
      }

  added-rows : (order : List Addr) (is : Lamps) → m.len < 64 → Counted own m → is ≡ light_of here.same own a Alive
      → order ≡ pad_to 64 here.blank (insert_at (take m.len m.order.row) (get_or draws from 0 % (m.len + 1)) a)
      → ◌≡◌ {A = Members}
      (with_added order is)
      (pack_members own (list.added here.same a number (get_or draws from 0) (view_members m)))
  unfolding list.added view_members pack_with
  added-rows order is h c q e =
      let u = take m.len m.table in
      let o = take m.len m.order.row in
      let v : Member = record { addr = a; state = Alive; number = number } in
      let t : set m.table m.len v ≡ pad_to 64 nobody (map from_member (map to_member u ++ (to_member v ∷ []))) =
      ap (λ (l : List Member). set l m.len v) p.table
      ∙ ap (λ (i : ℕ). set (pad_to 64 nobody u) i v) (sym (table_used m p))
      ∙ pad_snoc 64 nobody u v (omega (arith, table_used m p))
      ∙ ap (pad_to 64 nobody) (sym (added-row u v)) in
      let j : m.len + 1 ≡ suc (length o) = omega (arith, order_used m p) in
      let n : m.len + 1 ≡ length (map to_member u ++ (to_member v ∷ [])) =
      omega (arith, length-append (map to_member u) (to_member v ∷ []), length-map u to_member, table_used m p) in
      λ i. record {
        table = t i;
        len = n i;
        order = record { row = (e ∙ ap (λ (x : ℕ). pad_to 64 here.blank (insert_at o (get_or draws from 0 % x) a)) j) i; position = m.order.position };
        lamps = ((λ x. more (c.lamps x) (q x)) ∙ sym (lamps_snoc here.same own (map to_member u) (to_member v))) i;
      }

  pub kept-added : (order : List Addr) (is : Lamps) → m.len < 64 → from < length draws → Counted own m → is ≡ light_of here.same own a Alive
      → order ≡ pad_to 64 here.blank (insert_at (take m.len m.order.row) (get_or draws from 0 % (m.len + 1)) a)
      → ◌≡◌ {A = Kept}
      (record { members = with_added order is; drew = Used 1 })
      (added_of own m a number draws from)
  kept-added order is h k c z e =
      let q : 1 ≡ length draws - from - length (drop (suc from) draws) = omega (arith, length-drop (suc from) draws) in
      (λ i. record { members = added-rows order is h c z e i; drew = Used (q i) })
      ∙ ap (kept_as own m (length draws - from))
      (sym (add_done (view_members m) a number (drop from draws) (get_or draws from 0) (drop (suc from) draws) (omega (arith, view_many m p)) (drop-cons draws from 0 k)))
