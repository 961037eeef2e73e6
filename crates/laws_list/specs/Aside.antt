-- While the order is probed the table stands aside: an advance and a pick neither read it nor change it, and keep the order's length.
-- Assumes nothing.
use Rattle.std.specs.Prelude.{◌≡◌, Bool, get_or, eqb}
use Rattle.std.proofs.Math.Path.{refl, ap}
use Rattle.std.proofs.Common.{◌∙◌}
use Rattle.std.proofs.Math.Bool.{true, false}
use mathlib.Core.List.{List, [], ◌∷◌, ◌++◌}
use Rattle.std.proofs.Math.Option.{Option, none, some}
use Prim.Native.Nat.{ℕ, zero, suc, ◌+◌, ◌-◌, ◌*◌, ◌%◌, ◌≤◌, ◌<◌}
use native.Mathlib.Omega.{arith}
use Rattle.std.proofs.Math.Nat.{mod-lt}
use Rattle.std.proofs.Math.ListN.{length}
use Rattle.model.specs.Words.{Member}
use Rattle.model.specs.Answers.{Answer, done, refused, and_then, when}
use Rattle.laws.specs.After.{After, gives, after_map, after-when, after_then}
use Rattle.laws_list.specs.Whole.{shuffle-alike}
use Rattle.model.specs.Members.{Members, Picked, shuffle, advance, passed, looks, cap, seek, pick_from}

-- what a rule gives, changed
abbrev pub on_answer : {B C : Type 0} → (B → C) → Answer B → Answer C
on_answer f (refused r) = refused r
on_answer f (done b ds) = done (f b) ds

on_then : {B C D E : Type 0} (f : B → D) (g : C → E) (x : Answer B) (k : B → List ℕ → Answer C) (k' : D → List ℕ → Answer E)
    → ((b : B) (ds : List ℕ) → k' (f b) ds ≡ on_answer g (k b ds)) → and_then (on_answer f x) k' ≡ on_answer g (and_then x k)
on_then f g (refused r) k k' h = refl
on_then f g (done b ds) k k' h = h b ds

module _ {A : Type 0} (t : List (Member A)) where
  abbrev pub with_table : Members A → Members A
  with_table m = record { table = t; order = m.order; position = m.position }

  abbrev pub picked_with : Picked A → Picked A
  picked_with p = record { picks = p.picks; members = with_table p.members }

  pub advance-aside : (blank : A) (m : Members A) (ds : List ℕ) → advance blank (with_table m) ds ≡ on_answer with_table (advance blank m ds)
  unfolding advance when
  advance-aside blank m ds =
      elim (eqb ((m.position + 1) % length m.order) 0) as (λ u.
      when u
      (and_then (shuffle blank m.order ds) λ o rest. done (record { table = t; order = o; position = (m.position + 1) % length m.order }) rest)
      (done (record { table = t; order = m.order; position = (m.position + 1) % length m.order }) ds)
      ≡ on_answer with_table
      (when u
      (and_then (shuffle blank m.order ds) λ o rest. done (record { table = m.table; order = o; position = (m.position + 1) % length m.order }) rest)
      (done (record { table = m.table; order = m.order; position = (m.position + 1) % length m.order }) ds))) [
        | true ↦ shuffled (shuffle blank m.order ds)
        | false ↦ refl
      ]
    where
      shuffled : (x : Answer (List A))
          → and_then x (λ o rest. done (record { table = t; order = o; position = (m.position + 1) % length m.order }) rest)
          ≡ on_answer with_table (and_then x (λ o rest. done (record { table = m.table; order = o; position = (m.position + 1) % length m.order }) rest))
      shuffled (refused r) = refl
      shuffled (done o rest) = refl

  module _ (same : A → A → Bool) (blank own : A) where
    pub seek-aside : (f : ℕ) (e : Option A) (k : ℕ) (got : List A) (m : Members A) (ds : List ℕ)
        → seek same blank own f e k got (with_table m) ds ≡ on_answer picked_with (seek same blank own f e k got m ds)
    unfolding seek
    seek-aside f e zero got m ds = refl
    seek-aside zero e (suc k) got m ds = refl
    seek-aside (suc f) e (suc k) got m ds =
        elim (passed same blank own e (get_or m.order m.position blank)) as (λ u.
        and_then {C = Picked A} (advance blank (with_table m) ds)
        (λ m' rest. elim u [
          | true ↦ seek same blank own f e (suc k) got m' rest
          | false ↦ seek same blank own f e k (got ++ (get_or m.order m.position blank ∷ [])) m' rest
        ])
        ≡ on_answer picked_with (and_then (advance blank m ds)
        (λ m' rest. elim u [
          | true ↦ seek same blank own f e (suc k) got m' rest
          | false ↦ seek same blank own f e k (got ++ (get_or m.order m.position blank ∷ [])) m' rest
        ]))) [
          | true ↦
              ap (λ (x : Answer (Members A)). and_then x (λ m' rest. seek same blank own f e (suc k) got m' rest)) (advance-aside blank m ds)
              ∙ on_then with_table picked_with (advance blank m ds) (λ m' rest. seek same blank own f e (suc k) got m' rest) (λ m' rest. seek same blank own f e (suc k) got m' rest)
              (λ m' rest. seek-aside f e (suc k) got m' rest)
          | false ↦
              ap (λ (x : Answer (Members A)). and_then x (λ m' rest. seek same blank own f e k (got ++ (get_or m.order m.position blank ∷ [])) m' rest)) (advance-aside blank m ds)
              ∙ on_then with_table picked_with (advance blank m ds)
              (λ m' rest. seek same blank own f e k (got ++ (get_or m.order m.position blank ∷ [])) m' rest)
              (λ m' rest. seek same blank own f e k (got ++ (get_or m.order m.position blank ∷ [])) m' rest)
              (λ m' rest. seek-aside f e k (got ++ (get_or m.order m.position blank ∷ [])) m' rest)
        ]

    pub pick-aside : (e : Option A) (wanted : ℕ) (m : Members A) (ds : List ℕ)
        → pick_from same blank own e wanted (with_table m) ds ≡ on_answer picked_with (pick_from same blank own e wanted m ds)
    unfolding pick_from
    pick-aside e wanted m ds =
        let k : ℕ = cap same blank own e wanted (length m.order) in
        seek-aside (looks same blank own e * k) e k [] m ds

-- what an advance leaves: as many, the position a place of them, and the table as it was
pub record Fits {A : Type 0} (m m' : Members A) : Type 0 where
  pub long : length m'.order ≡ length m.order
  pub place : m'.position ≤ length m.order - 1
  pub table : m'.table ≡ m.table

module _ {A : Type 0} (blank : A) where
  pub advance_fits : (m : Members A) (ds : List ℕ) → 0 < length m.order → After (Fits m) (advance blank m ds)
  unfolding advance shuffle
  advance_fits m ds h =
      let below : (m.position + 1) % length m.order < length m.order = mod-lt (m.position + 1) h in
      after-when
      (λ e. after_then (shuffle-alike (λ x y. true) blank (length m.order - 1) m.order ds (omega arith))
      (λ o rest k. gives (record { long = k.long; place = omega arith; table = refl })))
      (λ e. gives (record { long = refl; place = omega arith; table = refl }))

  fits_then : (m m' m'' : Members A) → Fits m m' → Fits m' m'' → Fits m m''
  fits_then m m' m'' p q = record { long = q.long ∙ p.long; place = omega (arith, p.long, q.place); table = q.table ∙ p.table }

  module _ (same : A → A → Bool) (own : A) where
    pub seek_fits : (f : ℕ) (e : Option A) (k : ℕ) (got : List A) (m : Members A) (ds : List ℕ) → (0 < k → 0 < length m.order) → m.position ≤ length m.order - 1
        → After (λ p. Fits m p.members) (seek same blank own f e k got m ds)
    unfolding seek
    seek_fits f e zero got m ds h p = gives (record { long = refl; place = p; table = refl })
    seek_fits zero e (suc k) got m ds h p = gives (record { long = refl; place = p; table = refl })
    seek_fits (suc f) e (suc k) got m ds h p =
        after_then (advance_fits m ds (h (omega arith))) (λ m' rest q.
        elim (passed same blank own e (get_or m.order m.position blank)) as (λ u.
        After {B = Picked A} (λ r. Fits m r.members)
        (elim u [
          | true ↦ seek same blank own f e (suc k) got m' rest
          | false ↦ seek same blank own f e k (got ++ (get_or m.order m.position blank ∷ [])) m' rest
        ])) [
          | true ↦ after_map (λ r s. fits_then m m' r.members q s)
              (seek_fits f e (suc k) got m' rest (λ _. omega (arith, q.long, h (omega arith))) (omega (arith, q.long, q.place)))
          | false ↦ after_map (λ r s. fits_then m m' r.members q s)
              (seek_fits f e k (got ++ (get_or m.order m.position blank ∷ [])) m' rest (λ _. omega (arith, q.long, h (omega arith))) (omega (arith, q.long, q.place)))
        ])

    pub pick_fits : (e : Option A) (wanted : ℕ) (m : Members A) (ds : List ℕ) → m.position ≤ length m.order - 1
        → After (λ p. Fits m p.members) (pick_from same blank own e wanted m ds)
    unfolding pick_from
    pick_fits e wanted m ds p =
        let k : ℕ = cap same blank own e wanted (length m.order) in
        seek_fits (looks same blank own e * k) e k [] m ds (some_left e wanted (length m.order)) p
      where
        some_left : (x : Option A) (w n : ℕ) → 0 < cap same blank own x w n → 0 < n
        some_left none w n h = omega arith
        some_left (some y) w n h = omega arith
