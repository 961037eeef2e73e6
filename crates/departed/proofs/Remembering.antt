-- What a look-up and a removal come to in the rules' words, at the place of the address.
-- Assumes nothing.
use mathlib.Core.Path.{◌≡◌, refl, ap, sym, ◌∙◌}
use mathlib.Core.Option.{Option, none, some}
use mathlib.Core.List.{List, [], ◌∷◌, ◌++◌, map}
use Prim.Native.Nat.{ℕ, suc, ◌-◌, ◌≤◌, ◌<◌, max}
use native.Mathlib.Omega.{arith}
use lib.ListN.{length, get_or, take, get_or-map}
use lib.Seq.{get_or-take}
use Rattle.model.specs.Rows.{remove_at}
use Rattle.model.specs.Words as W
use Rattle.model.specs.Departed.{gone, greatest, make_room, look_up, without, depart}
use Rattle.address.specs.Here.{Addr, here}
use Rattle.laws.specs.Loops.{place_map}
use Rattle.laws.specs.Pad.{length-remove_at}
use Rattle.laws.specs.Padded.{remove_at-out}
use Rattle.laws.specs.Packing.{view_pack, view_length, packed_pack}
use Rattle.laws_list.specs.Places.{place_of}
use Rattle.laws_list.specs.Departing.{room-left, room-full, without-place, found_place, lost_place}
use Rattle.departed.specs.declared.Departed.{Departed}
use Rattle.departed.specs.declared.DepartedRow.{DepartedRow}
use Rattle.departed.specs.Views.{to_departed, from_departed, no_departed, addr_of, departed_view, pack_departed, Packed}

-- a row without one of its places is packed, and has room
pub less-packed : (r rest : DepartedRow) (place : ℕ) → Packed r → place < r.len → rest ≡ pack_departed (remove_at (departed_view r) place) → Packed rest × (rest.len < 128)
less-packed r rest place p h e =
    let long = view_length to_departed from_departed (λ b. refl) 128 no_departed r.entries r.len p in
    let less = length-remove_at (departed_view r) place (omega arith) in
    rw e (packed_pack to_departed from_departed 128 no_departed (remove_at (departed_view r) place) (omega (arith, p.few)), omega (arith, p.few))

module _ (r : DepartedRow) (p : Packed r) (a : Addr) (place : ℕ) (e : place ≡ place_of here.same a (map addr_of (take r.len r.entries))) where
  abbrev seen : List (W.Departed Addr)
  seen = departed_view r

  long : length seen ≡ r.len
  long = view_length to_departed from_departed (λ b. refl) 128 no_departed r.entries r.len p

  -- its place in the rules' row
  place_is : place ≡ place_of here.same a (gone seen)
  place_is =
      e
      ∙ place_map (here.same a) addr_of (take r.len r.entries)
      ∙ sym (place_map (λ (d : W.Departed Addr). here.same a d.addr) to_departed (take r.len r.entries))
      ∙ sym (place_map (here.same a) (λ (d : W.Departed Addr). d.addr) seen)

  taken_out : without here.same a seen ≡ remove_at seen place
  taken_out = without-place here.same a seen ∙ ap (remove_at seen) (sym place_is)

  pub look_found : place < r.len → look_up here.same a seen ≡ some (get_or r.entries place no_departed).number
  look_found h =
      found_place here.same a seen (to_departed no_departed) (omega (arith, place_is, long))
      ∙ ap (λ (i : ℕ). some (get_or seen i (to_departed no_departed)).number) (sym place_is)
      ∙ ap (λ (d : W.Departed Addr). some d.number) (get_or-map to_departed (take r.len r.entries) place no_departed ∙ ap to_departed (get_or-take r.len r.entries place no_departed h))

  pub look_lost : r.len ≤ place → look_up here.same a seen ≡ none
  look_lost h = lost_place here.same a seen (omega (arith, place_is, long))

  -- an address that departs, by what the row says of it and what is left of the row
  departed_as : (n : ℕ) (o : Option ℕ) (q rest : List (W.Departed Addr)) → look_up here.same a seen ≡ o → without here.same a seen ≡ q → make_room q ≡ rest
      → depart here.same a n seen ≡ rest ++ (record { addr = a; number = greatest o n } ∷ [])
  unfolding depart
  departed_as n o q rest l w m = λ i. (ap make_room w ∙ m) i ++ (record { addr = a; number = greatest (l i) n } ∷ [])

  -- the row of what one place less leaves, read again
  left : (rest : DepartedRow) (i : ℕ) → rest ≡ pack_departed (remove_at seen i) → departed_view rest ≡ remove_at seen i
  left rest i q = ap departed_view q ∙ view_pack to_departed from_departed (λ w. refl) 128 no_departed (remove_at seen i)

  pub departs_again : (n : ℕ) (rest : DepartedRow) → place < r.len → rest ≡ pack_departed (remove_at seen place)
      → pack_departed (departed_view rest ++ (record { addr = a; number = max (get_or r.entries place no_departed).number n } ∷ [])) ≡ pack_departed (depart here.same a n seen)
  departs_again n rest h q =
      let room = room-left (remove_at seen place) (omega (arith, length-remove_at seen place (omega (arith, long)), long, p.few)) in
      ap (λ (l : List (W.Departed Addr)). pack_departed (l ++ (record { addr = a; number = max (get_or r.entries place no_departed).number n } ∷ []))) (left rest place q)
      ∙ sym (ap pack_departed (departed_as n _ _ _ (look_found h) taken_out room))

  pub departs-new : (n : ℕ) → r.len ≤ place → r.len < 128 → pack_departed (seen ++ (record { addr = a; number = n } ∷ [])) ≡ pack_departed (depart here.same a n seen)
  departs-new n h k =
      let out = taken_out ∙ remove_at-out seen place (omega (arith, long)) in
      sym (ap pack_departed (departed_as n _ _ _ (look_lost h) out (room-left seen (omega (arith, long)))))

  pub departs-full : (n : ℕ) (rest : DepartedRow) → r.len ≤ place → 128 ≤ r.len → rest ≡ pack_departed (remove_at seen 0)
      → pack_departed (departed_view rest ++ (record { addr = a; number = n } ∷ [])) ≡ pack_departed (depart here.same a n seen)
  departs-full n rest h k q =
      let out = taken_out ∙ remove_at-out seen place (omega (arith, long)) in
      ap (λ (l : List (W.Departed Addr)). pack_departed (l ++ (record { addr = a; number = n } ∷ []))) (left rest 0 q)
      ∙ sym (ap pack_departed (departed_as n _ _ _ (look_lost h) out (room-full seen (omega (arith, long)))))
