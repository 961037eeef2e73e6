-- Going to the bottom and climbing back, decided first: for any type of entry.
-- Assumes nothing.
use mathlib.Core.Path.{◌≡◌, refl, sym, ◌∙◌, ap}
use mathlib.Core.Bool.{Bool, true, false, ◌&&◌}
use mathlib.Core.List.{List}
use Prim.Native.Nat.{ℕ, zero, suc, ◌+◌, ◌-◌, ◌*◌, ◌/◌, ◌≤◌, ◌<◌}
use native.Mathlib.Nat.{pos_of_ne-zero, le_refl}
use native.Mathlib.Omega.{arith}
use lib.Dec.{eqb, leb, ltb}
use lib.ListN.{length, get_or, set, length-set}
use lib.Seq.{ext_get_or}
use borrow.Author.Tests.{lt-ltb, le-ltb, le-leb, lt-leb, ltb-true, ltb-false, eqb-true, eqb-false, ne_eqb, eq-eqb}
use Rattle.address.specs.Here.{here}
use Rattle.model.specs.Rows.{pick, swap}
use Rattle.model.specs.Heap.{parent, climb, lower, down}
use Rattle.heap.specs.Deciding.{Agree, lower_to, back, settle_in, settle_to}
use Rattle.laws_heap.specs.HeapSwaps.{by, below_or_not, length-swap, swap-first, swap-second, swap_other}
use Rattle.laws_heap.specs.HeapSteps.{climb_top, climb-step, climb_stop}
use Rattle.laws_heap.specs.HeapSteps.{pick_elim, down_end, down-step-at}
use Rattle.heap.proofs.Decided.{Under, lower_to-above, lower_to_within, lower-agrees}

module _ (K : ℕ → ℕ) (m : ℕ) where
  pub back-over : (p c t : ℕ) → t ≡ c → m < K c → back K m p c t ≡ p
  unfolding back
  back-over p c t e l = rw (eq-eqb _ _ e, lt-ltb _ _ l)

  pub back_apart : (p c t : ℕ) → (t ≡ c → ⊥) → back K m p c t ≡ t
  unfolding back
  back_apart p c t n = rw (ne_eqb _ _ n)

  pub back-held : (p c t : ℕ) → K c ≤ m → back K m p c t ≡ t
  unfolding back
  back-held p c t l = go (eqb t c) where
    go : (b : Bool) → pick (b && ltb m (K c)) p t ≡ t
    go true = rw (le-ltb _ _ l)
    go false = refl

  pub lower_to-parent : (len p : ℕ) → parent (lower_to K len p) ≡ p
  unfolding lower_to
  lower_to-parent len p =
      pick_elim (λ (c : ℕ). parent c ≡ p) (ltb (2 * p + 2) len) _ (2 * p + 1)
      (λ e. pick_elim (λ (c : ℕ). parent c ≡ p) (ltb (K (2 * p + 1)) (K (2 * p + 2))) (2 * p + 1) (2 * p + 2) (λ f. omega arith) (λ f. omega arith))
      (λ e. omega arith)

  settle_enough : (n k len p : ℕ) → len ≤ p + n → len ≤ p + k → settle_in K m n len p ≡ settle_in K m k len p
  unfolding settle_in
  settle_enough zero zero len p h i = refl
  settle_enough zero (suc k) len p h i = rw (le-leb len (2 * p + 1) (omega arith))
  settle_enough (suc n) zero len p h i = rw (le-leb len (2 * p + 1) (omega arith))
  settle_enough (suc n) (suc k) len p h i =
      let a : p < lower_to K len p = lower_to-above K len p in
      rw (settle_enough n k len (lower_to K len p) (omega arith) (omega arith))

  pub settle_end : (len p : ℕ) → len ≤ 2 * p + 1 → settle_to K m len p ≡ p
  unfolding settle_to settle_in
  settle_end zero p h = refl
  settle_end (suc n) p h = rw (le-leb (suc n) (2 * p + 1) h)

  pub settle_step : (len p c : ℕ) → c ≡ lower_to K len p → 2 * p + 1 < len → settle_to K m len p ≡ back K m p c (settle_to K m len c)
  unfolding settle_to settle_in
  settle_step zero p c q h = absurd (omega arith)
  settle_step (suc n) p c q h =
      let a : p < lower_to K (suc n) p = lower_to-above K (suc n) p in
      rw (q, lt-leb (suc n) (2 * p + 1) h, settle_enough n (suc n) (suc n) (lower_to K (suc n) p) (omega arith) (omega arith))

  -- the ways out of one step
  pub settle_over : (len p c t : ℕ) → c ≡ lower_to K len p → 2 * p + 1 < len → t ≡ settle_to K m len c → t ≡ c → m < K c → p ≡ settle_to K m len p
  settle_over len p c t q h e s l = sym (settle_step len p c q h ∙ back-over p c (settle_to K m len c) (sym e ∙ s) l)

  pub settle_apart : (len p c t : ℕ) → c ≡ lower_to K len p → 2 * p + 1 < len → t ≡ settle_to K m len c → (t ≡ c → ⊥) → t ≡ settle_to K m len p
  settle_apart len p c t q h e n = e ∙ sym (settle_step len p c q h ∙ back_apart p c (settle_to K m len c) (λ s. n (e ∙ s)))

  pub settle_held : (len p c t : ℕ) → c ≡ lower_to K len p → 2 * p + 1 < len → t ≡ settle_to K m len c → K c ≤ m → t ≡ settle_to K m len p
  settle_held len p c t q h e l = e ∙ sym (settle_step len p c q h ∙ back-held p c (settle_to K m len c) l)

  settle_in-above : (n len p : ℕ) → p ≤ settle_in K m n len p
  unfolding settle_in back
  settle_in-above zero len p = le_refl p
  settle_in-above (suc n) len p =
      let a : p < lower_to K len p = lower_to-above K len p in
      let b : lower_to K len p ≤ settle_in K m n len (lower_to K len p) = settle_in-above n len (lower_to K len p) in
      pick_elim (λ (q : ℕ). p ≤ q) (leb len (2 * p + 1)) p _ (λ e. le_refl p)
      (λ e. pick_elim (λ (q : ℕ). p ≤ q) (eqb (settle_in K m n len (lower_to K len p)) (lower_to K len p) && ltb m (K (lower_to K len p))) p (settle_in K m n len (lower_to K len p))
      (λ f. le_refl p)
      (λ f. omega arith))

  pub settle_above : (len p : ℕ) → p ≤ settle_to K m len p
  unfolding settle_to
  settle_above len p = settle_in-above len len p

  pub settle_room : (len p : ℕ) → p < settle_to K m len p → 2 * p + 1 < len
  settle_room len p h = below_or_not (2 * p + 1) len (λ l. l) (λ l. absurd (omega (arith, settle_end len p l)))

  -- where it ends past p, it ends where it does from the place below, and does not climb over that
  pub settle_goes : (len p c : ℕ) → c ≡ lower_to K len p → 2 * p + 1 < len → p < settle_to K m len p → settle_to K m len p ≡ settle_to K m len c
  settle_goes len p c q r h =
      by (settle_to K m len c) c
      (λ s. below_or_not m (K c)
      (λ l. absurd (omega (arith, settle_over len p c (settle_to K m len c) q r refl s l)))
      (λ l. sym (settle_held len p c (settle_to K m len c) q r refl l)))
      (λ n. sym (settle_apart len p c (settle_to K m len c) q r refl n))

  pub settle_holds : (len p c : ℕ) → c ≡ lower_to K len p → 2 * p + 1 < len → p < settle_to K m len p → settle_to K m len c ≡ c → K c ≤ m
  settle_holds len p c q r h s =
      below_or_not m (K c) (λ l. absurd (omega (arith, settle_over len p c (settle_to K m len c) q r refl s l))) (λ l. l)

  -- where it ends at p, it climbs back from the place below
  settle_back : (len p c : ℕ) → c ≡ lower_to K len p → 2 * p + 1 < len → settle_to K m len p ≡ p → settle_to K m len c ≡ c
  settle_back len p c q r e =
      let a : p < c = rw q (lower_to-above K len p) in
      by (settle_to K m len c) c (λ s. s)
      (λ n. absurd (omega (arith, settle_apart len p c (settle_to K m len c) q r refl n, settle_above len c)))

  settle_climbs : (len p c : ℕ) → c ≡ lower_to K len p → 2 * p + 1 < len → settle_to K m len p ≡ p → m < K c
  settle_climbs len p c q r e =
      let a : p < c = rw q (lower_to-above K len p) in
      below_or_not m (K c) (λ l. l)
      (λ l. absurd (omega (arith, settle_held len p c (settle_to K m len c) q r refl l, settle_above len c)))

module _ {A : Type 0} (d : A) where
  pub swap-back : (xs : List A) (p c : ℕ) → p < length xs → c < length xs → (c ≡ p → ⊥) → swap d (swap d xs p c) c p ≡ xs
  swap-back xs p c f h n =
      ext_get_or d (swap d (swap d xs p c) c p) xs (length-swap d (swap d xs p c) c p ∙ length-swap d xs p c)
      (λ i l.
      by i p
      (λ s. rw s (swap-second d (swap d xs p c) c p (rw length-swap f) ∙ swap-second d xs p c h))
      (λ np. by i c
      (λ s. rw s (swap-first d (swap d xs p c) c p (rw length-swap h) n ∙ swap-first d xs p c f (λ z. n (sym z))))
      (λ nc. swap_other d (swap d xs p c) c p i nc np ∙ swap_other d xs p c i np nc)))

module _ {A : Type 0} (d : A) (key : A → ℕ) (K : ℕ → ℕ) (e : A) (len : ℕ) where
  abbrev pub always : A → A → Bool
  always a b = true

  -- where it settles at p, the whole way down and back is a climb from p
  pub down_and_back :
      (n : ℕ) (xs : List A) (p : ℕ) →
      len ≤ p + n →
      settle_to K (key e) len p ≡ p →
      get_or xs p d ≡ e →
      Under d key K xs len p →
      p < length xs →
      len ≤ length xs →
      down d key always (climb d key) xs len p ≡ climb d key xs p
  unfolding Under
  down_and_back zero xs p h s w u f a = down_end d key always (climb d key) xs len p (omega arith)
  down_and_back (suc n) xs p h s w u f a =
      below_or_not (2 * p + 1) len
      (λ room.
      let c : ℕ = lower_to K len p in
      let q : lower_to K len p ≡ lower_to K len p = refl in
      let above : p < lower_to K len p = lower_to-above K len p in
      let within : lower_to K len p < len = lower_to_within K len p room in
      let up : parent (lower_to K len p) ≡ p = lower_to-parent K (key e) len p in
      let less : key e < K (lower_to K len p) = settle_climbs K (key e) len p (lower_to K len p) refl room s in
      let k : K (lower_to K len p) ≡ key (get_or xs (lower_to K len p) d) = u (lower_to K len p) above within in
      let here : get_or (swap d xs p (lower_to K len p)) (lower_to K len p) d ≡ e = swap-second d xs p (lower_to K len p) (omega arith) ∙ w in
      let over : get_or (swap d xs p (lower_to K len p)) p d ≡ get_or xs (lower_to K len p) d = swap-first d xs p (lower_to K len p) f (λ z. omega arith) in
      down-step-at d key always (climb d key) xs len p (lower_to K len p) (lower-agrees d key K xs len p room u) room refl
      ∙ down_and_back n (swap d xs p (lower_to K len p)) (lower_to K len p) (omega arith)
      (settle_back K (key e) len p (lower_to K len p) refl room s)
      here
      (λ i l b. u i (omega arith) b ∙ ap key (sym (swap_other d xs p (lower_to K len p) i (λ z. omega arith) (λ z. omega arith))))
      (rw length-swap (omega arith))
      (rw length-swap a)
      ∙ climb-step d key (swap d xs p (lower_to K len p)) (lower_to K len p) (omega arith)
      (rw up (omega (arith, ap key here, ap key over)))
      ∙ rw (up, swap-back d xs p (lower_to K len p) f (omega arith) (λ z. omega arith)))
      (λ l. down_end d key always (climb d key) xs len p l)

  module _ (to : ℕ) (goal : List A) where
    pub record Settling-to (xs : List A) (p : ℕ) : Type 0 where
      pub same : down d key always (climb d key) xs len p ≡ goal
      pub ends : to ≡ settle_to K (key e) len p
      pub here : get_or xs p d ≡ e
      pub rows : Under d key K xs len p
      pub over : 0 < p → K p ≡ key (get_or xs (parent p) d)
      pub held : 0 < p → settle_to K (key e) len p ≡ p → K p ≤ key e
      pub fits : p < length xs
      pub all : len ≤ length xs

    pub settles_room : (xs : List A) (p : ℕ) → p < to → Settling-to xs p → 2 * p + 1 < len
    settles_room xs p h r = settle_room K (key e) len p (omega (arith, r.ends))

    pub settles : (xs : List A) (p c : ℕ) → c ≡ lower_to K len p → p < to → Settling-to xs p → Settling-to (swap d xs p c) c
    unfolding Under
    settles xs p c q h r =
        let w : p < settle_to K (key e) len p = omega (arith, r.ends) in
        let room : 2 * p + 1 < len = settle_room K (key e) len p w in
        let a : p < c = rw q (lower_to-above K len p) in
        let b : c < len = rw q (lower_to_within K len p room) in
        let up : parent c ≡ p = rw q (lower_to-parent K (key e) len p) in
        let f : len ≤ length xs = r.all in
        record {
          same = sym (down-step-at d key always (climb d key) xs len p c (q ∙ lower-agrees d key K xs len p room r.rows) room refl) ∙ r.same;
          ends = r.ends ∙ settle_goes K (key e) len p c q room w;
          here = swap-second d xs p c (omega arith) ∙ r.here;
          rows = λ i l n. r.rows i (omega arith) n ∙ ap key (sym (swap_other d xs p c i (λ s. omega arith) (λ s. omega arith)));
          over = λ z. rw up (r.rows c a b ∙ ap key (sym (swap-first d xs p c r.fits (λ s. omega arith))));
          held = λ z s. settle_holds K (key e) len p c q room w s;
          fits = rw length-swap (omega arith);
          all = rw length-swap f;
        }

    pub settled_to : (xs : List A) (p : ℕ) → to ≤ p → Settling-to xs p → xs ≡ goal
    settled_to xs p h r =
        let s : settle_to K (key e) len p ≡ p = omega (arith, r.ends, settle_above K (key e) len p) in
        let z : down d key always (climb d key) xs len p ≡ climb d key xs p = down_and_back len xs p (omega arith) s r.here r.rows r.fits r.all in
        by p 0
        (λ t. sym (climb_top d key xs p t) ∙ sym z ∙ r.same)
        (λ n.
        let pos : 0 < p = pos_of_ne-zero n in
        sym (climb_stop d key xs p (omega (arith, ap key r.here, r.over pos, r.held pos s))) ∙ sym z ∙ r.same)

    pub settle_starts :
        (xs : List A) →
        0 < length xs →
        len ≤ length xs →
        Agree d key K xs len →
        e ≡ get_or xs 0 d →
        to ≡ settle_to K (key e) len 0 →
        goal ≡ down d key always (climb d key) xs len 0 →
        Settling-to xs 0
    unfolding Agree Under
    settle_starts xs f w a h t g =
        record {
          same = sym g;
          ends = t;
          here = sym h;
          rows = λ i l n. a i n;
          over = λ z. absurd (omega arith);
          held = λ z s. absurd (omega arith);
          fits = f;
          all = w;
        }
