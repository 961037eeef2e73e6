-- The row of the departed: what a removal keeps of it, and what it comes to at the place of its address.
-- Assumes nothing.
use Rattle.std.specs.Prelude.{◌≡◌, Bool, ◌&&◌, get_or, drop, ltb}
use Rattle.std.proofs.Math.Path.{refl, ap}
use Rattle.std.proofs.Common.{sym, ◌∙◌}
use Rattle.std.proofs.Math.Bool.{true, false}
use mathlib.Core.List.{List, [], ◌∷◌, ◌++◌}
use Rattle.std.proofs.Math.Option.{Option, none, some}
use Prim.Native.Nat.{ℕ, zero, suc, ◌+◌, ◌-◌, ◌≤◌, ◌<◌, max}
use native.Mathlib.Omega.{arith}
use Rattle.std.proofs.Math.ListN.{length, length-append}
use Rattle.std.proofs.lemmas.List.{length-map}
use Rattle.std.proofs.Math.Dec.{leb}
use borrow.Author.Tests.{leb-true, leb-false}
use Rattle.model.specs.Rows.{one, pick, every, remove_at, has, erase, occurs, Test}
use Rattle.model.specs.Words.{Departed}
use Rattle.model.specs.Departed.{gone, greatest, make_room, look_up, without, depart}
use Rattle.laws.specs.Bools.{and_split, and_join, every_append}
use Rattle.laws.specs.Counts.{occurs-append, occurs-erase, has_le, has-none}
use Rattle.laws.specs.Loops.{first_place}
use Rattle.laws_list.specs.Places.{place_of}

-- a full row loses its first place, another none
module _ {A : Type 0} where
  pub room-full : (r : List (Departed A)) → 128 ≤ length r → make_room r ≡ remove_at r 0
  unfolding make_room
  room-full [] h = absurd (omega arith)
  room-full (d ∷ r) h =
      (elim (leb 128 (suc (length r))) as (λ u. leb 128 (suc (length r)) ≡ u → pick u r (d ∷ r) ≡ r) [
        | true ↦ λ e. refl
        | false ↦ λ e. absurd (omega (arith, leb-false 128 (suc (length r)) e))
      ]) refl

  pub room-left : (r : List (Departed A)) → length r < 128 → make_room r ≡ r
  unfolding make_room
  room-left r h =
      (elim (leb 128 (length r)) as (λ u. leb 128 (length r) ≡ u → pick u (drop 1 r) r ≡ r) [
        | true ↦ λ e. absurd (omega (arith, leb-true 128 (length r) e))
        | false ↦ λ e. refl
      ]) refl

  -- what holds of a row's front holds where room is made
  room_case : (P : List (Departed A) → Type 0) (r : List (Departed A)) → P r → P (drop 1 r) → P (make_room r)
  unfolding make_room
  room_case P r p q = elim (leb 128 (length r)) as (λ u. P (pick u (drop 1 r) r)) [ true ↦ q | false ↦ p ]

  drop-one : (r : List (Departed A)) → length (drop 1 r) ≡ length r - 1
  drop-one [] = refl
  drop-one (d ∷ r) = omega arith

  pub room_few : (r : List (Departed A)) → length r ≤ 128 → length (make_room r) ≤ 127
  unfolding make_room
  room_few r h =
      (elim (leb 128 (length r)) as (λ u. leb 128 (length r) ≡ u → length (pick u (drop 1 r) r) ≤ 127) [
        | true ↦ λ e. omega (arith, drop-one r)
        | false ↦ λ e. omega (arith, leb-false 128 (length r) e)
      ]) refl

  pub gone-append : (r q : List (Departed A)) → gone (r ++ q) ≡ gone r ++ gone q
  gone-append [] q = refl
  gone-append (d ∷ r) q = ap (λ (l : List A). d.addr ∷ l) (gone-append r q)

module _ {A : Type 0} (same : A → A → Bool) where
  pub without-addrs : (a : A) (r : List (Departed A)) → gone (without same a r) ≡ erase same a (gone r)
  unfolding without
  without-addrs a [] = refl
  without-addrs a (d ∷ r) =
      elim (same a d.addr) as (λ u. gone (pick u r (d ∷ without same a r)) ≡ pick u (gone r) (d.addr ∷ erase same a (gone r))) [
        | true ↦ refl
        | false ↦ ap (λ (l : List A). d.addr ∷ l) (without-addrs a r)
      ]

  -- the row without an address, and its number, by its place
  pub without-place : (a : A) (r : List (Departed A)) → without same a r ≡ remove_at r (place_of same a (gone r))
  unfolding first_place without
  without-place a [] = refl
  without-place a (d ∷ r) =
      elim (same a d.addr) as (λ u. pick u r (d ∷ without same a r) ≡ remove_at (d ∷ r) (pick u 0 (suc (place_of same a (gone r))))) [
        | true ↦ refl
        | false ↦ ap (λ (l : List (Departed A)). d ∷ l) (without-place a r)
      ]

  pub found_place : (a : A) (r : List (Departed A)) (z : Departed A) → place_of same a (gone r) < length r → look_up same a r ≡ some (get_or r (place_of same a (gone r)) z).number
  unfolding first_place look_up
  found_place a [] z h = absurd (omega arith)
  found_place a (d ∷ r) z h =
      (elim (same a d.addr) as (λ u. pick u 0 (suc (place_of same a (gone r))) < suc (length r)
      → pick u (some d.number) (look_up same a r) ≡ some (get_or (d ∷ r) (pick u 0 (suc (place_of same a (gone r)))) z).number) [
        | true ↦ λ k. refl
        | false ↦ λ k. found_place a r z (omega arith)
      ]) h

  pub lost_place : (a : A) (r : List (Departed A)) → length r ≤ place_of same a (gone r) → look_up same a r ≡ none
  unfolding first_place look_up
  lost_place a [] h = refl
  lost_place a (d ∷ r) h =
      (elim (same a d.addr) as (λ u. suc (length r) ≤ pick u 0 (suc (place_of same a (gone r))) → pick u (some d.number) (look_up same a r) ≡ none) [
        | true ↦ λ k. absurd (omega arith)
        | false ↦ λ k. lost_place a r (omega arith)
      ]) h

  erase-less : (a b : A) (l : List A) → occurs same b (erase same a l) ≤ occurs same b l
  erase-less a b [] = omega arith
  erase-less a b (x ∷ l) =
      elim (same a x) as (λ u. occurs same b (pick u l (x ∷ erase same a l)) ≤ one (same b x) + occurs same b l) [
        | true ↦ omega arith
        | false ↦ omega (arith, erase-less a b l)
      ]

  shorter : (a : A) (r : List (Departed A)) → length (without same a r) ≤ length r
  unfolding without
  shorter a [] = omega arith
  shorter a (d ∷ r) =
      elim (same a d.addr) as (λ u. length (pick u r (d ∷ without same a r)) ≤ suc (length r)) [
        | true ↦ omega arith
        | false ↦ omega (arith, shorter a r)
      ]

  pub depart_few : (a : A) (n : ℕ) (r : List (Departed A)) → length r ≤ 128 → length (depart same a n r) ≤ 128
  unfolding depart
  depart_few a n r h =
      let q = make_room (without same a r) in
      let d : Departed A = record { addr = a; number = greatest (look_up same a r) n } in
      omega (arith, length-append q (d ∷ []), room_few (without same a r) (omega (arith, shorter a r)))

  -- a test that passes at each address passes at each after the removal of one that passes it
  pub depart-every : (f : A → Bool) (a : A) (n : ℕ) (r : List (Departed A)) → f a ≡ true → every f (gone r) ≡ true → every f (gone (depart same a n r)) ≡ true
  unfolding depart
  depart-every f a n r v e =
      let d : Departed A = record { addr = a; number = greatest (look_up same a r) n } in
      let q : every f (gone (without same a r)) ≡ true = ap (every f) (without-addrs a r) ∙ kept (gone r) e in
      rw (gone-append (make_room (without same a r)) (d ∷ []))
      (every_append f (gone (make_room (without same a r))) (a ∷ []) (room_case (λ (l : List (Departed A)). every f (gone l) ≡ true) (without same a r) q (fewer (without same a r) q)) (and_join v refl))
    where
      kept : (l : List A) → every f l ≡ true → every f (erase same a l) ≡ true
      kept [] e₁ = refl
      kept (x ∷ l) e₁ =
          let p = and_split (f x) (every f l) e₁ in
          elim (same a x) as (λ u. every f (pick u l (x ∷ erase same a l)) ≡ true) [
            | true ↦ p.1
            | false ↦ and_join p.0 (kept l p.1)
          ]

      fewer : (l : List (Departed A)) → every f (gone l) ≡ true → every f (gone (drop 1 l)) ≡ true
      fewer [] e₁ = refl
      fewer (x ∷ l) e₁ = (and_split (f x.addr) (every f (gone l)) e₁).1

  module _ (test : Test same) where
    room-less : (b : A) (r : List (Departed A)) → occurs same b (gone (make_room r)) ≤ occurs same b (gone r)
    room-less b r = room_case (λ (l : List (Departed A)). occurs same b (gone l) ≤ occurs same b (gone r)) r (omega arith) (dropped r)
      where
        dropped : (l : List (Departed A)) → occurs same b (gone (drop 1 l)) ≤ occurs same b (gone l)
        dropped [] = omega arith
        dropped (x ∷ l) = omega arith

    -- what is taken out of a row that has each address once is not in it
    taken_out : (a b : A) (l : List A) → ((x : A) → occurs same x l ≤ 1) → same b a ≡ true → occurs same b (erase same a l) ≡ 0
    taken_out a b l once e =
        (elim (has same a l) as (λ u. has same a l ≡ u → occurs same b (erase same a l) ≡ 0) [
          | true ↦ λ h. omega (arith, occurs-erase same test a b l (omega (arith, has_le same a l, ap one h)), once b, ap one e)
          | false ↦ λ h. let z : occurs same b l ≡ 0 = rw (test.same_eq b a e) (has-none same a l h) in omega (arith, erase-less a b l)
        ]) refl

    pub depart_once : (a : A) (n : ℕ) (r : List (Departed A)) → ((b : A) → occurs same b (gone r) ≤ 1) → (b : A) → occurs same b (gone (depart same a n r)) ≤ 1
    unfolding depart
    depart_once a n r once b =
        let d : Departed A = record { addr = a; number = greatest (look_up same a r) n } in
        let q = make_room (without same a r) in
        let s : occurs same b (gone (q ++ (d ∷ []))) ≡ occurs same b (gone q) + (one (same b a) + 0) = ap (occurs same b) (gone-append q (d ∷ [])) ∙ occurs-append same b (gone q) (a ∷ []) in
        let less : occurs same b (gone q) ≤ occurs same b (erase same a (gone r)) = omega (arith, room-less b (without same a r), ap (occurs same b) (without-addrs a r)) in
        omega (arith, s, both b less)
      where
        both : (x : A) → occurs same x (gone (make_room (without same a r))) ≤ occurs same x (erase same a (gone r)) → occurs same x (gone (make_room (without same a r))) + (one (same x a) + 0) ≤ 1
        both x less =
            (elim (same x a) as (λ u. same x a ≡ u → occurs same x (gone (make_room (without same a r))) + (one u + 0) ≤ 1) [
              | true ↦ λ e. omega (arith, less, taken_out a x (gone r) once e)
              | false ↦ λ e. omega (arith, less, erase-less a x (gone r), once x)
            ]) refl
