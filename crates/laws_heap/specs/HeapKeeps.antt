-- What climbing and going down keep, and that they win heap order, for any type of entry. Each is one use of the two inductions.
-- Assumes nothing.
use Rattle.std.specs.Prelude.{◌≡◌, refl, Bool, true, List, ℕ, ◌+◌, ◌*◌, ◌≤◌, ◌<◌, ltb, length}
use Rattle.std.proofs.Common.{◌∙◌}
use Rattle.std.proofs.Math.Path.{ap}
use native.Mathlib.Omega.{arith}
use borrow.Author.Tests.{ltb-true, ltb-false}
use Rattle.model.specs.Rows.{pick, count, swap}
use Rattle.model.specs.Heap.{parent, climb, lower, down, sink, bottom, rank}
use Rattle.laws_heap.specs.HeapSwaps.{by, length-swap, count-swap, swap-first, swap-second, swap_other}
use Rattle.laws_heap.specs.HeapSteps.{pick_elim, fewer, lower-above, lower_within, climb_ind, down_ind}
use Rattle.laws_heap.specs.HeapOrder.{Hole, Rising, Falling, risen, fallen, step_up, step_down, Ordered}

-- what any swap of two of the first len places keeps, a climb and a descent keep
module _ {A : Type 0} (d : A) (key : A → ℕ) (len : ℕ) where
  -- the start: a place of the heap, but for the top of an empty one
  pub record At (xs : List A) (p : ℕ) : Type 0 where
    pub fits : len ≤ length xs
    pub place : 0 < p → p < len

  pub at-swap : (xs : List A) (p q : ℕ) → q < len → At xs p → At (swap d xs p q) q
  at-swap xs p q h a =
      let f : len ≤ length xs = a.fits in
      record { fits = rw length-swap f; place = λ k. h }

  module _
      (Q : List A → Type 0)
      (swaps : (xs : List A) (p q : ℕ) → p < len → q < len → len ≤ length xs → Q xs → Q (swap d xs p q))
    where
      pub climb-keeps : (xs : List A) (p : ℕ) → At xs p → Q xs → Q (climb d key xs p)
      climb-keeps xs p a s =
          climb_ind d key (λ ys r. At ys r × Q ys) Q (λ ys r h k. h.1)
          (λ ys r h k l.
          let b : r < len = h.0.place k in
          let c : parent r < len = omega arith in
          (at-swap ys r (parent r) c h.0, swaps ys r (parent r) b c h.0.fits h.1))
          xs
          p
          (a, s)

      pub down-keeps :
          (goes : A → A → Bool) (out : List A → ℕ → List A) →
          ((xs : List A) (p : ℕ) → At xs p → Q xs → Q (out xs p)) →
          (xs : List A) (p : ℕ) →
          At xs p →
          Q xs →
          Q (down d key goes out xs len p)
      down-keeps goes out o xs p a s =
          down_ind d key goes out len (λ ys r. At ys r × Q ys) Q (λ ys r h k. o ys r h.0 h.1) (λ ys r h k l. o ys r h.0 h.1)
          (λ ys r h k l.
          let c : lower d key ys len r < len = lower_within d key ys len r k in
          (at-swap ys r (lower d key ys len r) c h.0, swaps ys r (lower d key ys len r) (omega arith) c h.0.fits h.1))
          xs
          p
          (a, s)

      pub sink-keeps : (xs : List A) (p : ℕ) → At xs p → Q xs → Q (sink d key xs len p)
      sink-keeps = down-keeps _ _ (λ xs p a s. s)

      pub bottom-keeps : (xs : List A) (p : ℕ) → At xs p → Q xs → Q (bottom d key xs len p)
      bottom-keeps = down-keeps _ _ climb-keeps

  -- two such things
  pub swap-long : (n : ℕ) (xs : List A) (p q : ℕ) → p < len → q < len → len ≤ length xs → length xs ≡ n → length (swap d xs p q) ≡ n
  swap-long n xs p q h k l e = length-swap d xs p q ∙ e

  pub swap-counts :
      (f : A → Bool) (n : ℕ) (xs : List A) (p q : ℕ) → p < len → q < len → len ≤ length xs → count f xs ≡ n → count f (swap d xs p q) ≡ n
  swap-counts f n xs p q h k l e = count-swap d xs p q f (omega arith) (omega arith) ∙ e

module _ {A : Type 0} (d : A) (key : A → ℕ) where
  -- the place below to which an entry sinks hangs from p, and has the least
  lower-parent : (xs : List A) (len p : ℕ) → parent (lower d key xs len p) ≡ p
  unfolding lower
  lower-parent xs len p =
      pick_elim (λ (c : ℕ). parent c ≡ p) (ltb (2 * p + 2) len) (pick (fewer d key xs p) (2 * p + 1) (2 * p + 2)) (2 * p + 1)
      (λ e. pick_elim (λ (c : ℕ). parent c ≡ p) (fewer d key xs p) (2 * p + 1) (2 * p + 2) (λ f. omega arith) (λ f. omega arith))
      (λ e. omega arith)

  lower-least :
      (xs : List A) (len p i : ℕ) → 0 < i → i < len → parent i ≡ p → rank d key xs (lower d key xs len p) ≤ rank d key xs i
  unfolding lower
  lower-least xs len p i ip il e =
      by i (2 * p + 1)
      (λ s. pick_elim (λ (c : ℕ). rank d key xs c ≤ rank d key xs i) (ltb (2 * p + 2) len) (pick (fewer d key xs p) (2 * p + 1) (2 * p + 2)) (2 * p + 1)
      (λ f. pick_elim (λ (c : ℕ). rank d key xs c ≤ rank d key xs i) (fewer d key xs p) (2 * p + 1) (2 * p + 2)
      (λ g. omega (arith, ap (rank d key xs) s))
      (λ g. omega (arith, ap (rank d key xs) s, ltb-false (rank d key xs (2 * p + 1)) (rank d key xs (2 * p + 2)) g)))
      (λ f. omega (arith, ap (rank d key xs) s)))
      (λ n.
      let s : i ≡ 2 * p + 2 = omega arith in
      pick_elim (λ (c : ℕ). rank d key xs c ≤ rank d key xs i) (ltb (2 * p + 2) len) (pick (fewer d key xs p) (2 * p + 1) (2 * p + 2)) (2 * p + 1)
      (λ f. pick_elim (λ (c : ℕ). rank d key xs c ≤ rank d key xs i) (fewer d key xs p) (2 * p + 1) (2 * p + 2)
      (λ g. omega (arith, ap (rank d key xs) s, ltb-true (rank d key xs (2 * p + 1)) (rank d key xs (2 * p + 2)) g))
      (λ g. omega (arith, ap (rank d key xs) s)))
      (λ f. absurd (omega (arith, ltb-false (2 * p + 2) len f))))

  -- a climb ends in heap order
  pub climb_ordered :
      (len : ℕ) (xs : List A) (p : ℕ) → At d key len xs p → Rising (rank d key xs) len p → Ordered (rank d key (climb d key xs p)) len
  climb_ordered len xs p a r =
      climb_ind d key (λ ys q. At d key len ys q × Rising (rank d key ys) len q) (λ ys. Ordered (rank d key ys) len)
      (λ ys q h k. risen (rank d key ys) len q k h.1)
      (λ ys q h k l.
      let b : q < len = h.0.place k in
      let c : parent q < len = omega arith in
      let m : len ≤ length ys = h.0.fits in (
        at-swap d key len ys q (parent q) c h.0,
        step_up (rank d key ys) (rank d key (swap d ys q (parent q))) len q (parent q)
            (ap key (swap-first d ys q (parent q) (omega arith) (λ e. omega arith)))
            (ap key (swap-second d ys q (parent q) (omega arith)))
            (λ i n o. ap key (swap_other d ys q (parent q) i n o))
            refl
            k
            b
            l
            h.1,
      ))
      xs
      p
      (a, r)

  hole_down :
      (len : ℕ) (ys : List A) (q : ℕ) →
      At d key len ys q →
      2 * q + 1 < len →
      Hole (rank d key ys) len q →
      Hole (rank d key (swap d ys q (lower d key ys len q))) len (lower d key ys len q)
  hole_down len ys q a k h =
      let u : q < lower d key ys len q = lower-above d key ys len q in
      let w : lower d key ys len q < len = lower_within d key ys len q k in
      let m : len ≤ length ys = a.fits in
      step_down (rank d key ys) (rank d key (swap d ys q (lower d key ys len q))) len q (lower d key ys len q)
      (ap key (swap-first d ys q (lower d key ys len q) (omega arith) (λ e. omega arith)))
      (ap key (swap-second d ys q (lower d key ys len q) (omega arith)))
      (λ i n o. ap key (swap_other d ys q (lower d key ys len q) i n o))
      (lower-parent ys len q)
      (omega arith)
      w
      (λ i ip il e. lower-least ys len q i ip il e)
      h

  -- a sinking ends in heap order
  pub sink_ordered :
      (len : ℕ) (xs : List A) (p : ℕ) → At d key len xs p → Falling (rank d key xs) len p → Ordered (rank d key (sink d key xs len p)) len
  sink_ordered len xs p a r =
      down_ind d key (λ c e. ltb (key c) (key e)) (λ xs p. xs) len (λ ys q. At d key len ys q × Falling (rank d key ys) len q)
      (λ ys. Ordered (rank d key ys) len)
      (λ ys q h k. fallen (rank d key ys) len q (λ i ip il e. absurd (omega arith)) h.1)
      (λ ys q h k l. fallen (rank d key ys) len q
      (λ i ip il e. omega (arith, lower-least ys len q i ip il e, ltb-false (rank d key ys (lower d key ys len q)) (rank d key ys q) l))
      h.1)
      (λ ys q h k l.
      let u : q < lower d key ys len q = lower-above d key ys len q in
      let w : lower d key ys len q < len = lower_within d key ys len q k in
      let m : len ≤ length ys = h.0.fits in (
        at-swap d key len ys q (lower d key ys len q) w h.0,
        record {
          hole = hole_down len ys q h.0 k h.1.hole;
          above = λ z.
              omega (
                arith,
                ltb-true (rank d key ys (lower d key ys len q)) (rank d key ys q) l,
                ap (rank d key (swap d ys q (lower d key ys len q))) (lower-parent ys len q),
                ap key (swap-first d ys q (lower d key ys len q) (omega arith) (λ e. omega arith)),
                ap key (swap-second d ys q (lower d key ys len q) (omega arith)),
              );
        },
      ))
      xs
      p
      (a, r)

  pub bottom_ordered :
      (len : ℕ) (xs : List A) (p : ℕ) → At d key len xs p → Hole (rank d key xs) len p → Ordered (rank d key (bottom d key xs len p)) len
  bottom_ordered len xs p a r =
      down_ind d key (λ c e. true) (climb d key) len (λ ys q. At d key len ys q × Hole (rank d key ys) len q)
      (λ ys. Ordered (rank d key ys) len)
      (λ ys q h k. climb_ordered len ys q h.0 (record { hole = h.1; below = λ i ip il e. absurd (omega arith) }))
      (λ ys q h k l. let z : ◌≡◌ {A = ℕ} 0 1 = cc in absurd (omega arith))
      (λ ys q h k l. (at-swap d key len ys q (lower d key ys len q) (lower_within d key ys len q k) h.0, hole_down len ys q h.0 k h.1))
      xs
      p
      (a, r)
