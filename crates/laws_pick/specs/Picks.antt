-- A pick ends: it advances at most 3 times for each address wanted, and 5 times with an exclusion. It is refused for want of draws alone.
-- Assumes nothing.
use Rattle.std.specs.Prelude.{◌≡◌, Bool, get_or, drop}
use Rattle.std.proofs.Math.Path.{refl, ap, sym}
use Rattle.std.proofs.Common.{◌∙◌, zero-add, suc-add, add-one, drop_of_length-le, drop-cons}
use Rattle.std.proofs.Math.Bool.{true, false}
use mathlib.Core.List.{List, [], ◌∷◌, ◌++◌}
use Rattle.std.proofs.Math.Option.{Option, none, some}
use Prim.Native.Nat.{ℕ, zero, suc, ◌+◌, ◌-◌, ◌*◌, ◌%◌, ◌≤◌, ◌<◌}
use native.Mathlib.Omega.{arith}
use Rattle.std.proofs.Math.Nat.{mod-lt, mod-eq_of_lt, mod_self}
use Rattle.std.proofs.Math.Decide.{ℕ_discrete}
use Rattle.std.proofs.Math.ListN.{length, length-append}
use Rattle.std.proofs.Math.Dec.{eqb}
use borrow.Author.Tests.{eqb-true, eqb-false, ne_eqb, eq-eqb}
use Rattle.model.specs.Rows.{one, pick, occurs, swap}
use Rattle.model.specs.declared.Refusal.TheVariants.{DrawsShort}
use Rattle.model.specs.Answers.{Answer, done, refused, and_then, when}
use Rattle.laws.specs.After.{After, halts, gives}
use Rattle.model.specs.Members.{Members, Picked, shuffle_from, shuffle, advance, passed, looks, cap, seek, pick_from}
use Rattle.laws_list.specs.Whole.{Whole, Alike, shuffle-alike}

-- P holds of what is given, and a refusal is for want of draws
pub data Drawn {B : Type 0} (P : B → Type 0) : Answer B → Type 0 where
  short : Drawn P (refused DrawsShort)
  drawn : {b : B} {ds : List ℕ} → P b → Drawn P (done b ds)

pub drawn_then : {B C : Type 0} {P : B → Type 0} {Q : C → Type 0} {x : Answer B} {k : B → List ℕ → Answer C}
    → Drawn P x → ((b : B) (ds : List ℕ) → P b → Drawn Q (k b ds)) → Drawn Q (and_then x k)
drawn_then short f = short
drawn_then (drawn {b = b} {ds = ds} p) f = f b ds p

pub drawn_map : {B : Type 0} {P Q : B → Type 0} {x : Answer B} → ((b : B) → P b → Q b) → Drawn P x → Drawn Q x
drawn_map f short = short
drawn_map f (drawn {b = b} p) = drawn (f b p)

pub after_drawn : {B : Type 0} {P : B → Type 0} {x : Answer B} → Drawn P x → After P x
after_drawn short = halts
after_drawn (drawn p) = gives p

-- what follows is the same where it is the same after each answer
then_same : {B C : Type 0} {P : B → Type 0} (x : Answer B) (k k' : B → List ℕ → Answer C)
    → Drawn P x → ((b : B) (ds : List ℕ) → P b → k b ds ≡ k' b ds) → and_then x k ≡ and_then x k'
then_same (refused r) k k' d h = refl
then_same (done b ds) k k' (drawn p) h = h b ds p

drawn_when : {B : Type 0} {P : B → Type 0} {u : Bool} {x y : Answer B} → (u ≡ true → Drawn P x) → (u ≡ false → Drawn P y) → Drawn P (when u x y)
unfolding when
drawn_when {u = true} f g = f refl
drawn_when {u = false} f g = g refl

module _ {A : Type 0} (same : A → A → Bool) (blank own : A) where
  -- a shuffle is refused for want of draws alone
  shuffle_drawn : (i : ℕ) (l m : List A) (ds : List ℕ) → After (Alike same m) (shuffle_from blank i l ds) → Drawn (Alike same m) (shuffle_from blank i l ds)
  shuffle_drawn zero l m ds (gives p) = drawn p
  shuffle_drawn (suc i) l m [] h = short
  shuffle_drawn (suc i) l m (d ∷ ds) h = shuffle_drawn i (swap blank l (suc i) (d % suc (suc i))) m ds h

  pub record Moved (r r' : Members A) : Type 0 where
    pub whole : Whole same r'
    pub long : length r'.order ≡ length r.order
    pub table : r'.table ≡ r.table
    pub on : r.position + 1 < length r.order → (r'.order ≡ r.order) × (r'.position ≡ r.position + 1)
    pub round : r.position + 1 ≡ length r.order → r'.position ≡ 0

  pub advance_drawn : (r : Members A) (ds : List ℕ) → Whole same r → 0 < length r.order → Drawn (Moved r) (advance blank r ds)
  unfolding advance shuffle
  advance_drawn r ds w h =
      let next : ℕ = (r.position + 1) % length r.order in
      let below : next < length r.order = mod-lt (r.position + 1) h in
      let around : r.position + 1 ≡ length r.order → next ≡ 0 = λ e. ap (λ (n : ℕ). n % length r.order) e ∙ mod_self (length r.order) in
      drawn_when
      (λ e. drawn_then (shuffle_drawn (length r.order - 1) r.order r.order ds (shuffle-alike same blank (length r.order - 1) r.order ds (omega arith)))
      (λ o rest k. drawn (record {
        whole = record { once = w.once; counts = λ a. k.counts a ∙ w.counts a; long = k.long ∙ w.long; few = w.few; place = omega (arith, k.long) };
        long = k.long;
        table = refl;
        on = λ m. absurd (omega (arith, mod-eq_of_lt m, eqb-true next 0 e));
        round = around;
      })))
      (λ e. drawn (record {
        whole = record { once = w.once; counts = w.counts; long = w.long; few = w.few; place = omega arith };
        long = refl;
        table = refl;
        on = λ m. (refl, mod-eq_of_lt m);
        round = around;
      }))

  -- how many of a list are passed over
  pub skips : Option A → List A → ℕ
  skips e [] = 0
  skips e (x ∷ l) = one (passed same blank own e x) + skips e l

  -- how many are passed over at most: own, and the excluded one
  abbrev pub room : Option A → ℕ
  room none = 1
  room (some e) = 2

  skips_none : (l : List A) → skips none l ≡ occurs same own l
  unfolding skips
  skips_none [] = refl
  skips_none (x ∷ l) = ap (λ (n : ℕ). one (same own x) + n) (skips_none l)

  skips_some : (e : A) (l : List A) → skips (some e) l ≤ occurs same own l + occurs same e l
  unfolding skips
  skips_some e [] = omega arith
  skips_some e (x ∷ l) =
      elim (same own x) as (λ u. one (pick u true (same e x)) + skips (some e) l ≤ one u + occurs same own l + (one (same e x) + occurs same e l)) [
        | true ↦ omega (arith, skips_some e l)
        | false ↦ omega (arith, skips_some e l)
      ]

  pub skips_room : (e : Option A) (r : Members A) → Whole same r → skips e r.order ≤ room e
  skips_room none r w = omega (arith, skips_none r.order, w.counts own, w.once own)
  skips_room (some e) r w = omega (arith, skips_some e r.order, w.counts own, w.once own, w.counts e, w.once e)

  pub skips_drop : (e : Option A) (i : ℕ) (l : List A) → skips e (drop i l) ≤ skips e l
  unfolding skips
  skips_drop e zero l = omega arith
  skips_drop e (suc i) [] = omega arith
  skips_drop e (suc i) (x ∷ l) = omega (arith, skips_drop e i l)

  -- how many advances the pick in hand may still take, from what is left of the round
  pub cost : Option A → List A → ℕ
  cost e l = skips e l + 1 + pick (eqb (skips e l) (length l)) (room e) 0

  looks_is : (e : Option A) → looks same blank own e ≡ 2 * room e + 1
  looks_is none = refl
  looks_is (some e) = refl

  pub cost_le : (e : Option A) (l : List A) → skips e l ≤ room e → cost e l ≤ looks same blank own e
  unfolding cost
  cost_le e l h =
      elim (eqb (skips e l) (length l)) as (λ u. skips e l + 1 + pick u (room e) 0 ≤ looks same blank own e) [
        | true ↦ omega (arith, looks_is e)
        | false ↦ omega (arith, looks_is e)
      ]

  pub cost_pos : (e : Option A) (l : List A) → 0 < cost e l
  unfolding cost
  cost_pos e l = omega arith

  -- an address that is passed over takes one advance
  cost_pass : (e : Option A) (x : A) (l : List A) → passed same blank own e x ≡ true → cost e (x ∷ l) ≡ suc (cost e l)
  unfolding cost skips
  cost_pass e x l h =
      let p : one (passed same blank own e x) ≡ 1 = ap one h in
      (elim (eqb (skips e l) (length l)) as (λ u. eqb (skips e l) (length l) ≡ u
      → one (passed same blank own e x) + skips e l + 1 + pick (eqb (one (passed same blank own e x) + skips e l) (suc (length l))) (room e) 0
      ≡ suc (skips e l + 1 + pick u (room e) 0)) [
        | true ↦ λ q. rw (eq-eqb (one (passed same blank own e x) + skips e l) (suc (length l)) (omega (arith, eqb-true (skips e l) (length l) q))) (omega arith)
        | false ↦ λ q. rw (ne_eqb (one (passed same blank own e x) + skips e l) (suc (length l)) (λ z. eqb-false (skips e l) (length l) q (omega arith))) (omega arith)
      ]) refl

  -- the last place of a round, passed over: the next round has somebody to pick
  cost_last : (e : Option A) (x : A) → passed same blank own e x ≡ true → cost e (x ∷ []) ≡ suc (room e + 1)
  unfolding cost skips
  cost_last e x h = cost_pass e x [] h ∙ omega arith

  cost_round : (e : Option A) (l : List A) → skips e l ≤ room e → room e < length l → cost e l ≤ room e + 1
  unfolding cost
  cost_round e l h k = rw (ne_eqb (skips e l) (length l) (λ z. omega arith)) (omega arith)

  -- the place in hand, and what is left of the round
  pub here : (r : Members A) → Whole same r → 0 < length r.order → drop r.position r.order ≡ get_or r.order r.position blank ∷ drop (r.position + 1) r.order
  here r w h = rw add-one (drop-cons r.order r.position blank (omega (arith, w.place)))

  -- what a step leaves to pay
  pub pays : (e : Option A) (r r' : Members A) → Whole same r → room e < length r.order → Moved r r' → passed same blank own e (get_or r.order r.position blank) ≡ true
      → suc (cost e (drop r'.position r'.order)) ≤ cost e (drop r.position r.order)
  pays e r r' w h m q =
      rw (here r w (omega arith))
      (elim (ℕ_discrete (r.position + 1) (length r.order)) [
        | yes p ↦
            let none_left : drop (r.position + 1) r.order ≡ [] = drop_of_length-le r.order {i = r.position + 1} (omega arith) in
            rw (none_left, cost_last e (get_or r.order r.position blank) q, m.round p)
            (omega (arith, cost_round e r'.order (skips_room e r' m.whole) (omega (arith, m.long))))
        | no p ↦
            let inner : r.position + 1 < length r.order = omega (arith, w.place) in
            rw ((m.on inner).1, (m.on inner).0) (omega (arith, cost_pass e (get_or r.order r.position blank) (drop (r.position + 1) r.order) q))
      ])

  pub record Chosen (r : Members A) (k : ℕ) (got : List A) (p : Picked A) : Type 0 where
    pub whole : Whole same p.members
    pub table : p.members.table ≡ r.table
    pub many : length p.picks ≡ length got + k

  -- with enough looks for the pick in hand and 3, or 5, for each one after it, the looks do not run out
  seek-ends : (f : ℕ) (e : Option A) (k : ℕ) (got : List A) (r : Members A) (ds : List ℕ) → Whole same r → room e < length r.order
      → looks same blank own e * k + cost e (drop r.position r.order) ≤ f
      → Drawn (Chosen r (suc k) got) (seek same blank own f e (suc k) got r ds)
  unfolding seek
  seek-ends zero e k got r ds w h b = absurd (omega (arith, cost_pos e (drop r.position r.order)))
  seek-ends (suc f) e k got r ds w h b =
      drawn_then (advance_drawn r ds w (omega arith)) (λ r' rest m.
      (elim (passed same blank own e (get_or r.order r.position blank)) as (λ u.
      passed same blank own e (get_or r.order r.position blank) ≡ u
      → Drawn (Chosen r (suc k) got)
      (elim u [
        | true ↦ seek same blank own f e (suc k) got r' rest
        | false ↦ seek same blank own f e k (got ++ (get_or r.order r.position blank ∷ [])) r' rest
      ])) [
        | true ↦ λ q.
            drawn_map (λ p c. record { whole = c.whole; table = c.table ∙ m.table; many = c.many })
            (seek-ends f e k got r' rest m.whole (omega (arith, m.long)) (omega (arith, pays e r r' w h m q)))
        | false ↦ λ q.
            (elim k as (λ j. looks same blank own e * j + cost e (drop r.position r.order) ≤ suc f
            → Drawn (Chosen r (suc j) got) (seek same blank own f e j (got ++ (get_or r.order r.position blank ∷ [])) r' rest)) [
              | zero ↦ λ c. drawn (record { whole = m.whole; table = m.table; many = length-append got (get_or r.order r.position blank ∷ []) })
              | suc j ↦ λ c.
                  drawn_map (λ p d. record {
                    whole = d.whole;
                    table = d.table ∙ m.table;
                    many = omega (arith, d.many, length-append got (get_or r.order r.position blank ∷ []));
                  })
                  (seek-ends f e j (got ++ (get_or r.order r.position blank ∷ [])) r' rest m.whole (omega (arith, m.long))
                  (omega (
                    arith,
                    cost_pos e (drop r.position r.order),
                    cost_le e (drop r'.position r'.order) (omega (arith, skips_drop e r'.position r'.order, skips_room e r' m.whole)),
                  )))
            ]) b
      ]) refl)

  cap-room : (e : Option A) (v n k : ℕ) → cap same blank own e v n ≡ suc k → room e < n
  cap-room none v n k q = omega arith
  cap-room (some x) v n k q = omega arith

  -- a pick from a whole list gives as many as are wanted after the cap, and takes 3 looks for each at most, or 5
  pub pick_ends : (e : Option A) (wanted : ℕ) (r : Members A) (ds : List ℕ) → Whole same r
      → Drawn (Chosen r (cap same blank own e wanted (length r.order)) []) (pick_from same blank own e wanted r ds)
  unfolding pick_from seek
  pick_ends e wanted r ds w =
      (elim (cap same blank own e wanted (length r.order)) as (λ k. cap same blank own e wanted (length r.order) ≡ k
      → Drawn (Chosen r k []) (seek same blank own (looks same blank own e * k) e k [] r ds)) [
        | zero ↦ λ q. nobody e r ds w
        | suc k ↦ λ q. seek-ends (looks same blank own e * suc k) e k [] r ds w (cap-room e wanted (length r.order) k q)
            (omega (arith, cost_le e (drop r.position r.order) (omega (arith, skips_drop e r.position r.order, skips_room e r w))))
      ]) refl
    where
      nobody : (e₁ : Option A) (r₁ : Members A) (ds₁ : List ℕ) → Whole same r₁ → Drawn (Chosen r₁ 0 []) (seek same blank own (looks same blank own e₁ * 0) e₁ 0 [] r₁ ds₁)
      nobody e₁ r₁ ds₁ w₁ = drawn (record { whole = w₁; table = refl; many = refl })

  -- nobody more is wanted: looks play no part
  seek-none : (f g : ℕ) (e : Option A) (got : List A) (r : Members A) (ds : List ℕ) → seek same blank own f e 0 got r ds ≡ seek same blank own g e 0 got r ds
  unfolding seek
  seek-none zero zero e got r ds = refl
  seek-none zero (suc g) e got r ds = refl
  seek-none (suc f) zero e got r ds = refl
  seek-none (suc f) (suc g) e got r ds = refl

  -- one look more than enough changes nothing
  seek-more : (f : ℕ) (e : Option A) (k : ℕ) (got : List A) (r : Members A) (ds : List ℕ) → Whole same r → room e < length r.order
      → looks same blank own e * k + cost e (drop r.position r.order) ≤ f
      → seek same blank own f e (suc k) got r ds ≡ seek same blank own (suc f) e (suc k) got r ds
  unfolding seek
  seek-more zero e k got r ds w h b = absurd (omega (arith, cost_pos e (drop r.position r.order)))
  seek-more (suc f) e k got r ds w h b =
      (elim (passed same blank own e (get_or r.order r.position blank)) as (λ u.
      passed same blank own e (get_or r.order r.position blank) ≡ u
      → and_then {C = Picked A} (advance blank r ds)
      (λ r' rest. elim u [
        | true ↦ seek same blank own f e (suc k) got r' rest
        | false ↦ seek same blank own f e k (got ++ (get_or r.order r.position blank ∷ [])) r' rest
      ])
      ≡ and_then (advance blank r ds)
      (λ r' rest. elim u [
        | true ↦ seek same blank own (suc f) e (suc k) got r' rest
        | false ↦ seek same blank own (suc f) e k (got ++ (get_or r.order r.position blank ∷ [])) r' rest
      ])) [
        | true ↦ λ q.
            then_same (advance blank r ds) (λ r' rest. seek same blank own f e (suc k) got r' rest) (λ r' rest. seek same blank own (suc f) e (suc k) got r' rest)
            (advance_drawn r ds w (omega arith))
            (λ r' rest m. seek-more f e k got r' rest m.whole (omega (arith, m.long)) (omega (arith, pays e r r' w h m q)))
        | false ↦ λ q.
            then_same (advance blank r ds)
            (λ r' rest. seek same blank own f e k (got ++ (get_or r.order r.position blank ∷ [])) r' rest)
            (λ r' rest. seek same blank own (suc f) e k (got ++ (get_or r.order r.position blank ∷ [])) r' rest)
            (advance_drawn r ds w (omega arith))
            (λ r' rest m.
            (elim k as (λ j. looks same blank own e * j + cost e (drop r.position r.order) ≤ suc f
            → seek same blank own f e j (got ++ (get_or r.order r.position blank ∷ [])) r' rest
            ≡ seek same blank own (suc f) e j (got ++ (get_or r.order r.position blank ∷ [])) r' rest) [
              | zero ↦ λ _. seek-none f (suc f) e (got ++ (get_or r.order r.position blank ∷ [])) r' rest
              | suc j ↦ λ c.
                  seek-more f e j (got ++ (get_or r.order r.position blank ∷ [])) r' rest m.whole (omega (arith, m.long))
                  (omega (
                    arith,
                    cost_pos e (drop r.position r.order),
                    cost_le e (drop r'.position r'.order) (omega (arith, skips_drop e r'.position r'.order, skips_room e r' m.whole)),
                  ))
            ]) b)
      ]) refl

  -- the bound of 3 looks for each one wanted, or 5, is never met: with more looks a pick from a whole list gives the same
  pub pick_enough : (more : ℕ) (e : Option A) (wanted : ℕ) (r : Members A) (ds : List ℕ) → Whole same r
      → seek same blank own (more + looks same blank own e * cap same blank own e wanted (length r.order)) e (cap same blank own e wanted (length r.order)) [] r ds
      ≡ pick_from same blank own e wanted r ds
  unfolding pick_from
  pick_enough more e wanted r ds w =
      (elim (cap same blank own e wanted (length r.order)) as (λ k. cap same blank own e wanted (length r.order) ≡ k
      → seek same blank own (more + looks same blank own e * k) e k [] r ds ≡ seek same blank own (looks same blank own e * k) e k [] r ds) [
        | zero ↦ λ _. seek-none (more + looks same blank own e * 0) (looks same blank own e * 0) e [] r ds
        | suc k ↦ λ q. add-looks more k (cap-room e wanted (length r.order) k q)
      ]) refl
    where
      add-looks : (n k : ℕ) → room e < length r.order
          → seek same blank own (n + looks same blank own e * suc k) e (suc k) [] r ds ≡ seek same blank own (looks same blank own e * suc k) e (suc k) [] r ds
      add-looks zero k h = ap (λ (f : ℕ). seek same blank own f e (suc k) [] r ds) (zero-add (looks same blank own e * suc k))
      add-looks (suc n) k h =
          ap (λ (f : ℕ). seek same blank own f e (suc k) [] r ds) (suc-add n (looks same blank own e * suc k))
          ∙ sym (seek-more (n + looks same blank own e * suc k) e k [] r ds w h
          (omega (arith, cost_le e (drop r.position r.order) (omega (arith, skips_drop e r.position r.order, skips_room e r w)))))
          ∙ add-looks n k h
