-- Deciding first and moving afterwards does what climbing and going down by steps do, for any type of entry.
-- Assumes nothing.
use mathlib.Core.Path.{◌≡◌, refl, sym, ◌∙◌, ap}
use mathlib.Core.Bool.{Bool, true, false, ◌&&◌}
use mathlib.Core.List.{List}
use Prim.Native.Nat.{ℕ, zero, suc, ◌+◌, ◌-◌, ◌*◌, ◌/◌, ◌≤◌, ◌<◌}
use native.Mathlib.Nat.{pos_of_ne-zero, le_refl}
use native.Mathlib.Omega.{arith}
use lib.Dec.{eqb, leb, ltb, eqb-suc-zero}
use lib.ListN.{length, get_or, set, length-set}
use borrow.Author.Tests.{lt-ltb, le-ltb, le-leb, lt-leb, ltb-true, ltb-false, leb-true, leb-false, eqb-true, eqb-false, ne_eqb}
use Rattle.address.specs.Here.{here}
use Rattle.model.specs.Rows.{pick, swap}
use Rattle.model.specs.Heap.{parent, climb, lower, down, rank}
use lib.Seq.{get_or-set_same, get_or-set_other}
use Rattle.heap.specs.Deciding.{nth, Agree, climb_to_in, climb_to, lower_to, down_to_in, down_to}
use Rattle.laws_heap.specs.HeapSwaps.{by, below_or_not, length-swap, swap-first, swap-second, swap_other}
use Rattle.laws_heap.specs.HeapSteps.{climb_top, climb-step, climb_stop}
use Rattle.laws_heap.specs.HeapSteps.{pick_elim, down_end, down_stop_at, down-step-at}

module _ (K : ℕ → ℕ) (m : ℕ) where
  to_enough : (n k p : ℕ) → p ≤ n → p ≤ k → climb_to_in K m n p ≡ climb_to_in K m k p
  unfolding climb_to_in
  to_enough zero zero p h i = refl
  to_enough zero (suc k) zero h i = refl
  to_enough zero (suc k) (suc p) h i = absurd (omega arith)
  to_enough (suc n) zero zero h i = refl
  to_enough (suc n) zero (suc p) h i = absurd (omega arith)
  to_enough (suc n) (suc k) zero h i = refl
  to_enough (suc n) (suc k) (suc p) h i = rw (to_enough n k (parent (suc p)) (omega arith) (omega arith))

  pub to_top : (p : ℕ) → p ≡ 0 → climb_to K m p ≡ p
  unfolding climb_to climb_to_in
  to_top zero e = refl
  to_top (suc p) e = absurd (omega arith)

  pub to_step : (p : ℕ) → 0 < p → m < K (parent p) → climb_to K m p ≡ climb_to K m (parent p)
  unfolding climb_to climb_to_in
  to_step zero h k = absurd (omega arith)
  to_step (suc p) h k =
      rw (eqb-suc-zero, lt-ltb _ _ k) (to_enough p (parent (suc p)) (parent (suc p)) (omega arith) (omega arith))

  pub to_stop : (p : ℕ) → K (parent p) ≤ m → climb_to K m p ≡ p
  unfolding climb_to climb_to_in
  to_stop zero k = refl
  to_stop (suc p) k = rw (eqb-suc-zero, le-ltb _ _ k)

  to_in : (n p : ℕ) → climb_to_in K m n p ≤ p
  unfolding climb_to_in
  to_in zero p = le_refl p
  to_in (suc n) p =
      pick_elim (λ (q : ℕ). q ≤ p) (eqb p 0) p _ (λ e. le_refl p)
      (λ e. pick_elim (λ (q : ℕ). q ≤ p) (ltb m (K (parent p))) (climb_to_in K m n (parent p)) p
      (λ f. omega (arith, to_in n (parent p), pos_of_ne-zero (eqb-false p 0 e)))
      (λ f. le_refl p))

  pub to_within : (p : ℕ) → climb_to K m p ≤ p
  unfolding climb_to
  to_within p = to_in p p

  -- where it ends below p, it has fewer than the one above p
  pub to_goes : (p : ℕ) → climb_to K m p < p → m < K (parent p)
  to_goes p h = below_or_not m (K (parent p)) (λ l. l) (λ l. absurd (omega (arith, to_stop p l)))

  -- where it ends at p, it has not
  pub to_rests : (p : ℕ) → 0 < p → p ≤ climb_to K m p → K (parent p) ≤ m
  to_rests p pos h =
      below_or_not m (K (parent p)) (λ l. absurd (omega (arith, to_step p pos l, to_within (parent p)))) (λ l. l)

-- the state of a climb whose end is decided: e stands at p, and what is left leads to the same row
module _ {A : Type 0} (d : A) (key : A → ℕ) (K : ℕ → ℕ) (e : A) (to : ℕ) (goal : List A) where
  pub record Rising-to (xs : List A) (p : ℕ) : Type 0 where
    pub same : climb d key xs p ≡ goal
    pub ends : to ≡ climb_to K (key e) p
    pub here : get_or xs p d ≡ e
    pub rows : Agree d key K xs p
    pub fits : p < length xs

  pub rise : (xs : List A) (p : ℕ) → to < p → Rising-to xs p → Rising-to (swap d xs p (parent p)) (parent p)
  unfolding Agree
  rise xs p h r =
      let c : climb_to K (key e) p < p = omega (arith, r.ends) in
      let l : key e < K (parent p) = to_goes K (key e) p c in
      let k : K (parent p) ≡ key (get_or xs (parent p) d) = r.rows (parent p) (omega arith) in
      let f : p < length xs = r.fits in
      let w : key (get_or xs p d) < key (get_or xs (parent p) d) = omega (arith, ap key r.here) in
      record {
        same = sym (climb-step d key xs p (omega arith) w) ∙ r.same;
        ends = r.ends ∙ to_step K (key e) p (omega arith) l;
        here = swap-second d xs p (parent p) (omega arith) ∙ r.here;
        rows = λ i b. r.rows i (omega arith) ∙ ap key (sym (swap_other d xs p (parent p) i (λ z. omega arith) (λ z. omega arith)));
        fits = rw length-swap (omega arith);
      }

  pub risen_to : (xs : List A) (p : ℕ) → p ≤ to → Rising-to xs p → xs ≡ goal
  unfolding Agree
  risen_to xs p h r =
      by p 0
      (λ z. sym (climb_top d key xs p z) ∙ r.same)
      (λ n.
      let pos : 0 < p = pos_of_ne-zero n in
      let k : K (parent p) ≡ key (get_or xs (parent p) d) = r.rows (parent p) (omega arith) in
      let l : K (parent p) ≤ key e = to_rests K (key e) p pos (omega (arith, r.ends)) in
      sym (climb_stop d key xs p (omega (arith, ap key r.here))) ∙ r.same)

module _ (K : ℕ → ℕ) where
  pub lower_to-above : (len p : ℕ) → p < lower_to K len p
  unfolding lower_to
  lower_to-above len p =
      pick_elim (λ (c : ℕ). p < c) (ltb (2 * p + 2) len) _ (2 * p + 1)
      (λ e. pick_elim (λ (c : ℕ). p < c) (ltb (K (2 * p + 1)) (K (2 * p + 2))) (2 * p + 1) (2 * p + 2) (λ f. omega arith) (λ f. omega arith))
      (λ e. omega arith)

  pub lower_to_within : (len p : ℕ) → 2 * p + 1 < len → lower_to K len p < len
  unfolding lower_to
  lower_to_within len p h =
      pick_elim (λ (c : ℕ). c < len) (ltb (2 * p + 2) len) _ (2 * p + 1)
      (λ e. pick_elim (λ (c : ℕ). c < len) (ltb (K (2 * p + 1)) (K (2 * p + 2))) (2 * p + 1) (2 * p + 2) (λ f. h) (λ f. ltb-true _ _ e))
      (λ e. h)

  module _ (g : ℕ → Bool) where
    down_enough : (n k len p : ℕ) → len ≤ p + n → len ≤ p + k → down_to_in K g n len p ≡ down_to_in K g k len p
    unfolding down_to_in
    down_enough zero zero len p h i = refl
    down_enough zero (suc k) len p h i = rw (le-leb len (2 * p + 1) (omega arith))
    down_enough (suc n) zero len p h i = rw (le-leb len (2 * p + 1) (omega arith))
    down_enough (suc n) (suc k) len p h i =
        let a : p < lower_to K len p = lower_to-above len p in
        rw (down_enough n k len (lower_to K len p) (omega arith) (omega arith))

    pub down_to_end : (len p : ℕ) → len ≤ 2 * p + 1 → down_to K g len p ≡ p
    unfolding down_to down_to_in
    down_to_end zero p h = refl
    down_to_end (suc n) p h = rw (le-leb (suc n) (2 * p + 1) h)

    pub down_to_stop : (len p c : ℕ) → c ≡ lower_to K len p → g (K c) ≡ false → down_to K g len p ≡ p
    unfolding down_to down_to_in
    down_to_stop zero p c q e = refl
    down_to_stop (suc n) p c q e =
        let e' : g (K (lower_to K (suc n) p)) ≡ false = rw q at e in
        rw e' (pick_elim (λ (z : ℕ). z ≡ p) (leb (suc n) (2 * p + 1)) p p (λ f. refl) (λ f. refl))

    pub down_to-step : (len p c : ℕ) → c ≡ lower_to K len p → 2 * p + 1 < len → g (K c) ≡ true → down_to K g len p ≡ down_to K g len c
    unfolding down_to down_to_in
    down_to-step zero p c q h e = absurd (omega arith)
    down_to-step (suc n) p c q h e =
        let e' : g (K (lower_to K (suc n) p)) ≡ true = rw q at e in
        let a : p < lower_to K (suc n) p = lower_to-above (suc n) p in
        rw (q, lt-leb (suc n) (2 * p + 1) h, e') (down_enough n (suc n) (suc n) (lower_to K (suc n) p) (omega arith) (omega arith))

    down_in-above : (n len p : ℕ) → p ≤ down_to_in K g n len p
    unfolding down_to_in
    down_in-above zero len p = le_refl p
    down_in-above (suc n) len p =
        pick_elim (λ (q : ℕ). p ≤ q) (leb len (2 * p + 1)) p _ (λ e. le_refl p)
        (λ e. pick_elim (λ (q : ℕ). p ≤ q) (g (K (lower_to K len p))) (down_to_in K g n len (lower_to K len p)) p
        (λ f. omega (arith, down_in-above n len (lower_to K len p), lower_to-above len p))
        (λ f. le_refl p))

    pub down_to-above : (len p : ℕ) → p ≤ down_to K g len p
    unfolding down_to
    down_to-above len p = down_in-above len len p

    -- where it ends past p, there is one below p, and it says so
    pub down-room : (len p : ℕ) → p < down_to K g len p → 2 * p + 1 < len
    down-room len p h = below_or_not (2 * p + 1) len (λ l. l) (λ l. absurd (omega (arith, down_to_end len p l)))

    pub down-goes : (len p : ℕ) → p < down_to K g len p → g (K (lower_to K len p)) ≡ true
    down-goes len p h = go (g (K (lower_to K len p))) refl where
      go : (b : Bool) → g (K (lower_to K len p)) ≡ b → b ≡ true
      go true f = refl
      go false f = absurd (omega (arith, down_to_stop len p (lower_to K len p) refl f))

    pub down_rests : (len p : ℕ) → 2 * p + 1 < len → down_to K g len p ≤ p → g (K (lower_to K len p)) ≡ false
    down_rests len p r h = go (g (K (lower_to K len p))) refl where
      go : (b : Bool) → g (K (lower_to K len p)) ≡ b → b ≡ false
      go false f = refl
      go true f =
          absurd (omega (
            arith,
            down_to-step len p (lower_to K len p) refl r f,
            down_to-above len (lower_to K len p),
            lower_to-above len p,
          ))

-- K has the ranks of the places after p, up to len
unfoldable pub Under : {A : Type 0} → A → (A → ℕ) → (ℕ → ℕ) → List A → ℕ → ℕ → Type 0
Under d key K xs len p = (i : ℕ) → p < i → i < len → K i ≡ key (get_or xs i d)

module _ {A : Type 0} (d : A) (key : A → ℕ) (K : ℕ → ℕ) where
  pub lower-agrees : (xs : List A) (len p : ℕ) → 2 * p + 1 < len → Under d key K xs len p → lower_to K len p ≡ lower d key xs len p
  unfolding Under lower_to lower
  lower-agrees xs len p h u = go (ltb (2 * p + 2) len) refl where
    go : (b : Bool) → ltb (2 * p + 2) len ≡ b →
        pick b (pick (ltb (K (2 * p + 1)) (K (2 * p + 2))) (2 * p + 1) (2 * p + 2)) (2 * p + 1)
        ≡ pick b (pick (ltb (key (get_or xs (2 * p + 1) d)) (key (get_or xs (2 * p + 2) d))) (2 * p + 1) (2 * p + 2)) (2 * p + 1)
    go true e = rw (u (2 * p + 1) (omega arith) h, u (2 * p + 2) (omega arith) (ltb-true _ _ e))
    go false e = refl

-- the state of a descent whose end is decided
module _
    {A : Type 0}
    (d : A)
    (key : A → ℕ)
    (goes : A → A → Bool)
    (out : List A → ℕ → List A)
    (K : ℕ → ℕ)
    (g : ℕ → Bool)
    (e : A)
    (len to : ℕ)
    (goal : List A)
  where
    pub record Falling-to (xs : List A) (p : ℕ) : Type 0 where
      pub same : down d key goes out xs len p ≡ goal
      pub ends : to ≡ down_to K g len p
      pub here : get_or xs p d ≡ e
      pub rows : Under d key K xs len p
      pub fits : p < length xs
      pub all : len ≤ length xs

    pub fall_room : (xs : List A) (p : ℕ) → p < to → Falling-to xs p → 2 * p + 1 < len
    fall_room xs p h r = down-room K g len p (omega (arith, r.ends))

    module _ (says : (c : A) → goes c e ≡ g (key c)) where
      pub fall : (xs : List A) (p c : ℕ) → c ≡ lower_to K len p → p < to → Falling-to xs p → Falling-to (swap d xs p c) c
      unfolding Under
      fall xs p c q h r =
          let w : p < down_to K g len p = omega (arith, r.ends) in
          let room : 2 * p + 1 < len = down-room K g len p w in
          let t : g (K c) ≡ true = rw q (down-goes K g len p w) in
          let a : p < c = rw q (lower_to-above K len p) in
          let b : c < len = rw q (lower_to_within K len p room) in
          let f : len ≤ length xs = r.all in
          let z : goes (get_or xs c d) (get_or xs p d) ≡ true =
          ap (goes (get_or xs c d)) r.here ∙ says (get_or xs c d) ∙ ap g (sym (r.rows c a b)) ∙ t in
          record {
            same = sym (down-step-at d key goes out xs len p c (q ∙ lower-agrees d key K xs len p room r.rows) room z) ∙ r.same;
            ends = r.ends ∙ down_to-step K g len p c q room t;
            here = swap-second d xs p c (omega arith) ∙ r.here;
            rows = λ i l n. r.rows i (omega arith) n ∙ ap key (sym (swap_other d xs p c i (λ s. omega arith) (λ s. omega arith)));
            fits = rw length-swap (omega arith);
            all = rw length-swap f;
          }

      under_at : (xs : List A) (p : ℕ) → 2 * p + 1 < len → Falling-to xs p → K (lower_to K len p) ≡ key (get_or xs (lower_to K len p) d)
      unfolding Under
      under_at xs p room r = r.rows (lower_to K len p) (lower_to-above K len p) (lower_to_within K len p room)

      pub fallen_to : (xs : List A) (p : ℕ) → to ≤ p → Falling-to xs p → out xs p ≡ goal
      fallen_to xs p h r =
          let w : down_to K g len p ≤ p = omega (arith, r.ends) in
          below_or_not (2 * p + 1) len
          (λ room.
          let z : goes (get_or xs (lower_to K len p) d) (get_or xs p d) ≡ false =
          ap (goes (get_or xs (lower_to K len p) d)) r.here
          ∙ says (get_or xs (lower_to K len p) d)
          ∙ ap g (sym (under_at xs p room r))
          ∙ down_rests K g len p room w in
          sym (down_stop_at d key goes out xs len p (lower_to K len p) (lower-agrees d key K xs len p room r.rows) z) ∙ r.same)
          (λ l. sym (down_end d key goes out xs len p l) ∙ r.same)

module _ (K : ℕ → ℕ) (len p : ℕ) where
  pub lower-left : 2 * p + 2 < len → K (2 * p + 1) < K (2 * p + 2) → 2 * p + 1 ≡ lower_to K len p
  unfolding lower_to
  lower-left h k = rw (lt-ltb _ _ h, lt-ltb _ _ k)

  pub lower_right : 2 * p + 2 < len → K (2 * p + 2) ≤ K (2 * p + 1) → 2 * p + 2 ≡ lower_to K len p
  unfolding lower_to
  lower_right h k = rw (lt-ltb _ _ h, le-ltb _ _ k)

  pub lower_lone : len ≤ 2 * p + 2 → 2 * p + 1 ≡ lower_to K len p
  unfolding lower_to
  lower_lone h = rw (le-ltb _ _ h)

module _ {A : Type 0} (d : A) (key : A → ℕ) (xs : List A) where
  pub agree_none : (K : ℕ → ℕ) → Agree d key K xs 0
  unfolding Agree
  agree_none K i h = absurd (omega arith)

  pub agree_more :
      (ks : List ℕ) (n : ℕ) →
      n < length ks →
      Agree d key (nth ks) xs n →
      Agree d key (nth (set ks n (key (get_or xs n d)))) xs (n + 1)
  unfolding Agree
  agree_more ks n f a i h =
      by i n
      (λ s. rw s (get_or-set_same ks n (key (get_or xs n d)) 0 f))
      (λ m. get_or-set_other ks n i (key (get_or xs n d)) 0 m ∙ a i (omega arith))

  pub agree_less : (K : ℕ → ℕ) (n len : ℕ) → len ≤ n → Agree d key K xs n → Agree d key K xs len
  unfolding Agree
  agree_less K n len h a i l = a i (omega arith)

-- only the places above count
to_same : (K K' : ℕ → ℕ) (m n p : ℕ) → ((i : ℕ) → i < p → K i ≡ K' i) → climb_to_in K m n p ≡ climb_to_in K' m n p
unfolding climb_to_in
to_same K K' m zero p h = refl
to_same K K' m (suc n) zero h = refl
to_same K K' m (suc n) (suc p) h =
    rw (h (parent (suc p)) (omega arith), to_same K K' m n (parent (suc p)) (λ i l. h i (omega arith)))

module _ {A : Type 0} (d : A) (key : A → ℕ) where
  pub rise_starts :
      (K : ℕ → ℕ) (xs : List A) (p to : ℕ) →
      p < length xs →
      Agree d key K xs p →
      to ≡ climb_to K (key (get_or xs p d)) p →
      Rising-to d key (rank d key xs) (get_or xs p d) to (climb d key xs p) xs p
  unfolding Agree climb_to
  rise_starts K xs p to f a e =
      record {
        same = refl;
        ends = e ∙ to_same K (rank d key xs) (key (get_or xs p d)) p p a;
        here = refl;
        rows = λ i l. refl;
        fits = f;
      }

  pub fall_starts :
      (goes : A → A → Bool) (out : List A → ℕ → List A) (K : ℕ → ℕ) (g : ℕ → Bool) (xs : List A) (len p to : ℕ) →
      p < length xs →
      len ≤ length xs →
      Agree d key K xs len →
      to ≡ down_to K g len p →
      Falling-to d key goes out K g (get_or xs p d) len to (down d key goes out xs len p) xs p
  unfolding Agree Under
  fall_starts goes out K g xs len p to f w a e =
      record { same = refl; ends = e; here = refl; rows = λ i l n. a i n; fits = f; all = w }
