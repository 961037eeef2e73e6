-- The test of soundness in the order of the code.
-- Assumes nothing.
use Rattle.std.specs.Prelude.{◌≡◌, refl, Bool, true, false, ◌&&◌, List, [], ◌∷◌, map, ℕ, zero, suc, take, drop}
use Rattle.std.proofs.Common.{ap, sym, ◌∙◌}
use Rattle.std.proofs.Math.Dec.{leb}
use Rattle.model.specs.Rows.{every}
use Rattle.model.specs.Lamps.{lamps_of, same_lamps}
use Rattle.laws.specs.Bools.{take-map}
use Rattle.address.specs.Here.{Addr, here}
use Rattle.model.specs.Members as list
use Rattle.model.specs.Sound.{distinct, permutes, positioned, is_no_member, sound_rows, sound_members}
use Rattle.member.specs.declared.Member.{Member}
use Rattle.member.specs.declared.Members.{Members}
use Rattle.member.specs.Views.{to_member, addr_of, blank_address}

-- the addresses of the first n
addrs-row : (n : ℕ) (t : List Member) → list.addrs (take n (map to_member t)) ≡ take n (map addr_of t)
addrs-row zero t = refl
addrs-row (suc n) [] = refl
addrs-row (suc n) (m ∷ t) = ap (λ (l : List Addr). m.addr ∷ l) (addrs-row n t)

-- seven tests one after the other
unfoldable pub tests : Bool → Bool → Bool → Bool → Bool → Bool → Bool → Bool
tests a b c d e f g = a && b && c && d && e && f && g

module _ (a b c d e f g : Bool) where
  pub stops_1 : a ≡ false → false ≡ tests a b c d e f g
  unfolding tests
  stops_1 p = rw p

  pub stops_2 : a ≡ true → b ≡ false → false ≡ tests a b c d e f g
  unfolding tests
  stops_2 p q = rw (p, q)

  pub stops_3 : a ≡ true → b ≡ true → c ≡ false → false ≡ tests a b c d e f g
  unfolding tests
  stops_3 p q r = rw (p, q, r)

  pub stops_4 : a ≡ true → b ≡ true → c ≡ true → d ≡ false → false ≡ tests a b c d e f g
  unfolding tests
  stops_4 p q r s = rw (p, q, r, s)

  pub stops_5 : a ≡ true → b ≡ true → c ≡ true → d ≡ true → e ≡ false → false ≡ tests a b c d e f g
  unfolding tests
  stops_5 p q r s t = rw (p, q, r, s, t)

  pub stops_6 : a ≡ true → b ≡ true → c ≡ true → d ≡ true → e ≡ true → f ≡ false → false ≡ tests a b c d e f g
  unfolding tests
  stops_6 p q r s t v = rw (p, q, r, s, t, v)

  last : (u : Bool) → u ≡ g → a ≡ true → b ≡ true → c ≡ true → d ≡ true → e ≡ true → f ≡ true → u ≡ tests a b c d e f g
  unfolding tests
  last u v p q r s t w = rw (p, q, r, s, t, w) v

and_false : (x : Bool) → (x && false) ≡ false
and_false true = refl
and_false false = refl

and_true : (x : Bool) → (x && true) ≡ x
and_true true = refl
and_true false = refl

-- the code tests distinct and permutation last, both at once
reorder : (a b c d e f g h : Bool) → (a && b && c && d && e && f && g && h) ≡ tests a d e f g h (b && c)
unfolding tests
reorder false b c d e f g h = refl
reorder true false c d e f g h = sym (and_false (d && e && f && g && h))
reorder true true false d e f g h = sym (and_false (d && e && f && g && h))
reorder true true true d e f g h = sym (and_true (d && e && f && g && h))

module _ (own : Addr) (m : Members) where
  abbrev row : List Addr
  row = take m.len (map addr_of m.table)

  -- the counts of the used places
  abbrev pub counts_true : Bool
  counts_true = same_lamps m.lamps (lamps_of here.same own (map to_member (take m.len m.table)))

  abbrev pub sound_list : Bool
  sound_list = sound_members here own (map to_member m.table) m.order.row m.len m.order.position m.lamps

  pub sound_parts : sound_list
      ≡ tests (leb m.len 64)
      (positioned m.order.position m.len)
      (every here.valid row)
      (every (is_no_member here) (drop m.len (map to_member m.table)))
      (every blank_address (drop m.len m.order.row))
      counts_true
      (distinct here.same row && permutes here.same (take m.len m.order.row) row)
  unfolding sound_members sound_rows
  sound_parts =
      (λ i. leb m.len 64
      && distinct here.same (addrs-row m.len m.table i)
      && permutes here.same (take m.len m.order.row) (addrs-row m.len m.table i)
      && positioned m.order.position m.len
      && every here.valid (addrs-row m.len m.table i)
      && every (is_no_member here) (drop m.len (map to_member m.table))
      && every blank_address (drop m.len m.order.row)
      && same_lamps m.lamps (lamps_of here.same own (take-map to_member m.len m.table i)))
      ∙ reorder (leb m.len 64) (distinct here.same row) (permutes here.same (take m.len m.order.row) row)
      (positioned m.order.position m.len) (every here.valid row) (every (is_no_member here) (drop m.len (map to_member m.table)))
      (every blank_address (drop m.len m.order.row)) counts_true

  -- all but the last test have passed
  pub sound-last : (u : Bool) → leb m.len 64 ≡ true → positioned m.order.position m.len ≡ true
      → every here.valid row ≡ true → every (is_no_member here) (drop m.len (map to_member m.table)) ≡ true
      → every blank_address (drop m.len m.order.row) ≡ true → counts_true ≡ true
      → u ≡ (distinct here.same row && permutes here.same (take m.len m.order.row) row)
      → u ≡ sound_list
  sound-last u p q r s t w v = last _ _ _ _ _ _ _ u v p q r s t w ∙ sym sound_parts
