-- A pick of k addresses advances at most 3k times, and 5k with an exclusion: however many looks it is allowed. What is counted are the advances of the rule `seek`: its members
-- and draws are those of so many.
-- Assumes nothing.
use Rattle.std.specs.Prelude.{◌≡◌, Bool, length, drop}
use Rattle.std.proofs.Math.Path.{refl}
use Rattle.std.proofs.Math.Bool.{true, false}
use mathlib.Core.List.{List, [], ◌∷◌, ◌++◌}
use Rattle.std.proofs.Math.Option.{Option, none, some}
use Prim.Native.Nat.{ℕ, zero, suc, ◌+◌, ◌-◌, ◌*◌, ◌≤◌, ◌<◌, min}
use native.Mathlib.Omega.{arith}
use Rattle.std.proofs.Math.ListN.{get_or}
use Rattle.model.specs.Rows.{pick}
use Rattle.model.specs.Answers.{done, refused, and_then}
use Rattle.laws.specs.After.{given}
use Rattle.model.specs.Members.{Members, advance, passed, looks, cap, seek, pick_from}
use Rattle.laws_list.specs.Whole.{Whole}
use Rattle.laws_pick.specs.Picks.{Drawn, Moved, advance_drawn, after_drawn, room, cost, cost_le, cost_pos, pays, skips_room, skips_drop}
use Rattle.probing.specs.Looks.{looks_taken, advances, leaves, Advances}

module _ {A : Type 0} (same : A → A → Bool) (blank own : A) where
  -- nobody is wanted: nobody is looked at
  taken_none : (f : ℕ) (e : Option A) (m : Members A) (ds : List ℕ) → (looks_taken same blank own) f e 0 m ds ≡ 0
  unfolding looks_taken
  taken_none zero e m ds = refl
  taken_none (suc f) e m ds = refl

  taken_within : (f : ℕ) (e : Option A) (k : ℕ) (r : Members A) (ds : List ℕ) → Whole same r → room same blank own e < length r.order
      → (looks_taken same blank own) f e (suc k) r ds ≤ looks same blank own e * k + cost same blank own e (drop r.position r.order)
  unfolding looks_taken
  taken_within zero e k r ds w h = omega arith
  taken_within (suc f) e k r ds w h =
      (elim (advance blank r ds) as (λ x. Drawn (Moved same blank own r) x
      → elim x [
        | refused _ ↦ 1
        | done m' rest ↦ suc ((looks_taken same blank own) f e (pick (passed same blank own e (get_or r.order r.position blank)) (suc k) k) m' rest)
      ]
      ≤ looks same blank own e * k + cost same blank own e (drop r.position r.order)) [
        | refused _ ↦ λ _. omega (arith, cost_pos same blank own e (drop r.position r.order))
        | done r' rest ↦ λ d.
            let m : Moved same blank own r r' = given (after_drawn d) in
            (elim (passed same blank own e (get_or r.order r.position blank)) as (λ u. passed same blank own e (get_or r.order r.position blank) ≡ u
            → suc ((looks_taken same blank own) f e (pick u (suc k) k) r' rest) ≤ looks same blank own e * k + cost same blank own e (drop r.position r.order)) [
              | true ↦ λ q. omega (arith, taken_within f e k r' rest m.whole (omega (arith, m.long)), pays same blank own e r r' w h m q)
              | false ↦ λ q.
                  (elim k as (λ j. suc ((looks_taken same blank own) f e j r' rest) ≤ looks same blank own e * j + cost same blank own e (drop r.position r.order)) [
                    | zero ↦ omega (arith, taken_none f e r' rest, cost_pos same blank own e (drop r.position r.order))
                    | suc j ↦
                        omega (
                          arith,
                          taken_within f e j r' rest m.whole (omega (arith, m.long)),
                          cost_pos same blank own e (drop r.position r.order),
                          cost_le same blank own e (drop r'.position r'.order)
                              (omega (arith, skips_drop same blank own e r'.position r'.order, skips_room same blank own e r' m.whole)),
                        )
                  ])
            ]) refl
      ]) (advance_drawn same blank own r ds w (omega arith))

  cap-room : (e : Option A) (v n k : ℕ) → cap same blank own e v n ≡ suc k → room same blank own e < n
  cap-room none v n k q = omega arith
  cap-room (some x) v n k q = omega arith

  -- 3 for each one picked, or 5
  pub pick-looks : (f : ℕ) (e : Option A) (wanted : ℕ) (r : Members A) (ds : List ℕ) → Whole same r
      → (looks_taken same blank own) f e (cap same blank own e wanted (length r.order)) r ds ≤ looks same blank own e * cap same blank own e wanted (length r.order)
  pick-looks f e wanted r ds w =
      (elim (cap same blank own e wanted (length r.order)) as (λ k. cap same blank own e wanted (length r.order) ≡ k
      → (looks_taken same blank own) f e k r ds ≤ looks same blank own e * k) [
        | zero ↦ λ _. omega (arith, taken_none f e r ds)
        | suc k ↦ λ q.
            omega (
              arith,
              taken_within f e k r ds w (cap-room e wanted (length r.order) k q),
              cost_le same blank own e (drop r.position r.order)
                  (omega (arith, skips_drop same blank own e r.position r.order, skips_room same blank own e r w)),
            )
      ]) refl

  seek-advances : (f : ℕ) (e : Option A) (k : ℕ) (got : List A) (m : Members A) (ds : List ℕ)
      → (leaves same blank own) (seek same blank own f e k got m ds) ≡ (advances same blank own) ((looks_taken same blank own) f e k m ds) m ds
  unfolding seek looks_taken
  seek-advances zero e zero got m ds = refl
  seek-advances zero e (suc k) got m ds = refl
  seek-advances (suc f) e zero got m ds = refl
  seek-advances (suc f) e (suc k) got m ds =
      let x = get_or m.order m.position blank in
      (elim (advance blank m ds) as (λ y. advance blank m ds ≡ y
      → (leaves same blank own) (and_then y λ m' rest. elim (passed same blank own e x) [
        | true ↦ seek same blank own f e (suc k) got m' rest
        | false ↦ seek same blank own f e k (got ++ (x ∷ [])) m' rest
      ])
      ≡ (advances same blank own) (elim y [
        | refused r ↦ 1
        | done m' rest ↦ suc ((looks_taken same blank own) f e (pick (passed same blank own e x) (suc k) k) m' rest)
      ]) m ds) [
        | refused r ↦ λ q. rw q refl
        | done m' rest ↦ λ q.
            rw q
            (elim (passed same blank own e x) as (λ u. (leaves same blank own) (elim u [
              | true ↦ seek same blank own f e (suc k) got m' rest
              | false ↦ seek same blank own f e k (got ++ (x ∷ [])) m' rest
            ])
            ≡ (advances same blank own) ((looks_taken same blank own) f e (pick u (suc k) k) m' rest) m' rest) [
              | true ↦ seek-advances f e (suc k) got m' rest
              | false ↦ seek-advances f e k (got ++ (x ∷ [])) m' rest
            ])
      ]) refl

  pick-advances : (e : Option A) (wanted : ℕ) (r : Members A) (ds : List ℕ) → Whole same r → (Advances same blank own) (looks same blank own e * cap same blank own e wanted (length r.order)) e wanted r ds
  unfolding pick_from
  pick-advances e wanted r ds w =
      let k = cap same blank own e wanted (length r.order) in
      ((looks_taken same blank own) (looks same blank own e * k) e k r ds, pick-looks (looks same blank own e * k) e wanted r ds w, seek-advances (looks same blank own e * k) e k [] r ds)

  pub pick-advances_3k : (wanted : ℕ) (r : Members A) (ds : List ℕ) → Whole same r → (Advances same blank own) (3 * min wanted (length r.order - 1)) none wanted r ds
  pick-advances_3k wanted r ds w = pick-advances none wanted r ds w

  pub pick-advances_5k : (x : A) (wanted : ℕ) (r : Members A) (ds : List ℕ) → Whole same r → (Advances same blank own) (5 * min wanted (length r.order - 2)) (some x) wanted r ds
  pick-advances_5k x wanted r ds w = pick-advances (some x) wanted r ds w
