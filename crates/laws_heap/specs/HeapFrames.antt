-- A heap can be read as the list of its used places: what stands behind them is left as it was, and entries may be read through a function
-- that keeps their rank.
-- Assumes nothing.
use Rattle.std.specs.Prelude.{◌≡◌, Bool, true, false, leb, get_or, set, take}
use Rattle.std.proofs.Math.Path.{refl, ap}
use Rattle.std.proofs.Common.{sym, ◌∙◌}
use mathlib.Core.List.{List, [], ◌∷◌, ◌++◌, map}
use Prim.Native.Nat.{ℕ, zero, suc, ◌+◌, ◌-◌, ◌*◌, ◌≤◌, ◌<◌}
use native.Mathlib.Omega.{arith}
use Rattle.std.proofs.Math.Dec.{ltb}
use Rattle.std.proofs.Math.ListN.{length, length-set, get_or-append, get_or-map}
use Rattle.std.proofs.lemmas.List.{length-map}
use Rattle.std.proofs.Math.Seq.{set-append_left}
use borrow.Author.Tests.{leb-false, ltb-true}
use Rattle.model.specs.Rows.{pick, swap}
use Rattle.model.specs.Heap.{parent, climb_in, climb, lower, down_in, down, sink, bottom, push, sink_top, remove_top}
use Rattle.laws.specs.Lists.{map-take, map-append}
use Rattle.laws_heap.specs.HeapSwaps.{length-swap, by}
use Rattle.laws_heap.specs.HeapSteps.{lower_within, climb_top}

pick-after : {A B : Type 0} (f : A → B) (b : Bool) (x y : A) → pick b (f x) (f y) ≡ f (pick b x y)
pick-after f true x y = refl
pick-after f false x y = refl

-- what is picked may be compared knowing the test
pick_same : {A : Type 0} (b : Bool) (x y z w : A) → (b ≡ true → x ≡ z) → (b ≡ false → y ≡ w) → pick b x y ≡ pick b z w
pick_same true x y z w f g = f refl
pick_same false x y z w f g = g refl

module _ {A : Type 0} (d : A) (key : A → ℕ) (ys : List A) where
  pub swap_frame : (xs : List A) (p q : ℕ) → p < length xs → q < length xs → swap d (xs ++ ys) p q ≡ swap d xs p q ++ ys
  unfolding swap
  swap_frame xs p q h k =
      let l : q < length (set xs p (get_or xs q d)) = rw length-set k in
      rw (get_or-append xs ys d p h, get_or-append xs ys d q k, set-append_left xs ys p (get_or xs q d) h)
      (set-append_left (set xs p (get_or xs q d)) ys q (get_or xs p d) l)

  climb_in_frame : (n : ℕ) (xs : List A) (p : ℕ) → p < length xs → climb_in d key n (xs ++ ys) p ≡ climb_in d key n xs p ++ ys
  unfolding climb_in
  climb_in_frame zero xs p h = refl
  climb_in_frame (suc n) xs p h =
      let k : parent p < length xs = omega arith in
      let l : parent p < length (swap d xs p (parent p)) = rw length-swap k in
      rw (
        get_or-append xs ys d p h,
        get_or-append xs ys d (parent p) k,
        swap_frame xs p (parent p) h k,
        climb_in_frame n (swap d xs p (parent p)) (parent p) l,
        pick-after (λ (zs : List A). zs ++ ys),
        pick-after (λ (zs : List A). zs ++ ys),
      )

  -- the top of an empty heap stays as it is as well
  pub climb_frame : (xs : List A) (p : ℕ) → (0 < p → p < length xs) → climb d key (xs ++ ys) p ≡ climb d key xs p ++ ys
  unfolding climb
  climb_frame xs p h =
      by p 0
      (λ e. climb_top d key (xs ++ ys) p e ∙ ap (λ (zs : List A). zs ++ ys) (sym (climb_top d key xs p e)))
      (λ n. climb_in_frame p xs p (h (omega arith)))

  lower_frame : (xs : List A) (len p : ℕ) → len ≤ length xs → 2 * p + 1 < len → lower d key (xs ++ ys) len p ≡ lower d key xs len p
  unfolding lower
  lower_frame xs len p h k =
      pick_same (ltb (2 * p + 2) len) _ (2 * p + 1) _ (2 * p + 1)
      (λ e.
      rw (
        get_or-append xs ys d (2 * p + 1) (omega arith),
        get_or-append xs ys d (2 * p + 2) (omega (arith, ltb-true (2 * p + 2) len e)),
      ))
      (λ e. refl)

  module _
      (goes : A → A → Bool)
      (out : List A → ℕ → List A)
      (out-frame : (xs : List A) (p : ℕ) → (0 < p → p < length xs) → out (xs ++ ys) p ≡ out xs p ++ ys)
    where
      down_in_frame :
          (n : ℕ) (xs : List A) (len p : ℕ) →
          len ≤ length xs →
          (0 < p → p < length xs) →
          down_in d key goes out n (xs ++ ys) len p ≡ down_in d key goes out n xs len p ++ ys
      unfolding down_in
      down_in_frame zero xs len p h k = out-frame xs p k
      down_in_frame (suc n) xs len p h k =
          pick_same (leb len (2 * p + 1)) _ _ (out xs p ++ ys) _ (λ e. out-frame xs p k)
          (λ e.
          let r : 2 * p + 1 < len = leb-false len (2 * p + 1) e in
          let w : lower d key xs len p < len = lower_within d key xs len p r in
          let l : lower d key xs len p < length xs = omega arith in
          let m : p < length xs = omega arith in
          let s : length (swap d xs p (lower d key xs len p)) ≡ length xs = length-swap d xs p (lower d key xs len p) in
          rw (
            lower_frame xs len p h r,
            get_or-append xs ys d (lower d key xs len p) l,
            get_or-append xs ys d p m,
            swap_frame xs p (lower d key xs len p) m l,
            down_in_frame n (swap d xs p (lower d key xs len p)) len (lower d key xs len p) (omega arith) (λ z. omega arith),
            out-frame xs p k,
          )
          (pick-after (λ (zs : List A). zs ++ ys) (goes (get_or xs (lower d key xs len p) d) (get_or xs p d)) _ _))
          ∙ pick-after (λ (zs : List A). zs ++ ys) (leb len (2 * p + 1)) (out xs p) _

      pub down_frame :
          (xs : List A) (len p : ℕ) →
          len ≤ length xs →
          (0 < p → p < length xs) →
          down d key goes out (xs ++ ys) len p ≡ down d key goes out xs len p ++ ys
      unfolding down
      down_frame xs len p h k = down_in_frame len xs len p h k

  pub sink_frame : (xs : List A) (len : ℕ) → len ≤ length xs → sink d key (xs ++ ys) len 0 ≡ sink d key xs len 0 ++ ys
  sink_frame xs len h = down_frame (λ c e. ltb (key c) (key e)) (λ zs p. zs) (λ zs p k. refl) xs len 0 h (λ z. absurd (omega arith))

  pub bottom_frame : (xs : List A) (len : ℕ) → len ≤ length xs → bottom d key (xs ++ ys) len 0 ≡ bottom d key xs len 0 ++ ys
  bottom_frame xs len h = down_frame (λ c e. true) (climb d key) climb_frame xs len 0 h (λ z. absurd (omega arith))

module _ {A B : Type 0} (f : A → B) where
  pub map-set : (xs : List A) (i : ℕ) (a : A) → map f (set xs i a) ≡ set (map f xs) i (f a)
  map-set [] i a = refl
  map-set (x ∷ xs) zero a = refl
  map-set (x ∷ xs) (suc i) a = ap (λ (l : List B). f x ∷ l) (map-set xs i a)

module _ {A B : Type 0} (d : A) (key : A → ℕ) (f : A → B) (key' : B → ℕ) (keeps : (x : A) → key' (f x) ≡ key x) where
  swap-map : (xs : List A) (p q : ℕ) → swap (f d) (map f xs) p q ≡ map f (swap d xs p q)
  unfolding swap
  swap-map xs p q =
      rw (get_or-map f xs p d, get_or-map f xs q d, ← map-set f xs p (get_or xs q d), ← map-set f (set xs p (get_or xs q d)) q (get_or xs p d))

  rank-map : (xs : List A) (p : ℕ) → key' (get_or (map f xs) p (f d)) ≡ key (get_or xs p d)
  rank-map xs p = ap key' (get_or-map f xs p d) ∙ keeps (get_or xs p d)

  climb_in-map : (n : ℕ) (xs : List A) (p : ℕ) → climb_in (f d) key' n (map f xs) p ≡ map f (climb_in d key n xs p)
  unfolding climb_in
  climb_in-map zero xs p = refl
  climb_in-map (suc n) xs p =
      rw (
        rank-map xs p,
        rank-map xs (parent p),
        swap-map xs p (parent p),
        climb_in-map n (swap d xs p (parent p)) (parent p),
        pick-after (map f),
        pick-after (map f),
      )

  pub climb-map : (xs : List A) (p : ℕ) → climb (f d) key' (map f xs) p ≡ map f (climb d key xs p)
  unfolding climb
  climb-map xs p = climb_in-map p xs p

  lower-map : (xs : List A) (len p : ℕ) → lower (f d) key' (map f xs) len p ≡ lower d key xs len p
  unfolding lower
  lower-map xs len p = rw (rank-map xs (2 * p + 1), rank-map xs (2 * p + 2))

  module _
      (goes : A → A → Bool)
      (goes' : B → B → Bool)
      (out : List A → ℕ → List A)
      (out' : List B → ℕ → List B)
      (says : (a b : A) → goes' (f a) (f b) ≡ goes a b)
      (outs : (xs : List A) (p : ℕ) → out' (map f xs) p ≡ map f (out xs p))
    where
      down_in-map : (n : ℕ) (xs : List A) (len p : ℕ) → down_in (f d) key' goes' out' n (map f xs) len p ≡ map f (down_in d key goes out n xs len p)
      unfolding down_in
      down_in-map zero xs len p = outs xs p
      down_in-map (suc n) xs len p =
          rw (
            lower-map xs len p,
            get_or-map f xs (lower d key xs len p) d,
            get_or-map f xs p d,
            says (get_or xs (lower d key xs len p) d) (get_or xs p d),
            swap-map xs p (lower d key xs len p),
            down_in-map n (swap d xs p (lower d key xs len p)) len (lower d key xs len p),
            outs xs p,
            pick-after (map f),
            pick-after (map f),
          )

      pub down-map : (xs : List A) (len p : ℕ) → down (f d) key' goes' out' (map f xs) len p ≡ map f (down d key goes out xs len p)
      unfolding down
      down-map xs len p = down_in-map len xs len p

  -- the operations on a heap whose entries are read through f
  pub push-map : (xs : List A) (a : A) → push (f d) key' (map f xs) (f a) ≡ map f (push d key xs a)
  unfolding push
  push-map xs a =
      rw (length-map xs f, ← map-append f xs (a ∷ [])) (climb-map (xs ++ (a ∷ [])) (length xs))

  pub sink_top-map : (xs : List A) (a : A) → sink_top (f d) key' (map f xs) (f a) ≡ map f (sink_top d key xs a)
  unfolding sink_top
  sink_top-map xs a =
      rw (length-map xs f, ← map-set f xs 0 a)
      (down-map (λ c e. ltb (key c) (key e)) (λ c e. ltb (key' c) (key' e)) (λ ys p. ys) (λ ys p. ys)
      (λ c e. ap (λ (n : ℕ). ltb n (key' (f e))) (keeps c) ∙ ap (ltb (key c)) (keeps e))
      (λ ys p. refl)
      (set xs 0 a)
      (length xs)
      0)

  pub remove_top-map : (xs : List A) → remove_top (f d) key' (map f xs) ≡ map f (remove_top d key xs)
  unfolding remove_top
  remove_top-map xs =
      rw (length-map xs f, get_or-map f xs (length xs - 1) d, ← map-set f xs 0 (get_or xs (length xs - 1) d), ← map-take f (length xs - 1) (set xs 0 (get_or xs (length xs - 1) d)))
      (down-map (λ c e. true) (λ c e. true) (climb d key) (climb (f d) key') (λ c e. refl) climb-map
      (take (length xs - 1) (set xs 0 (get_or xs (length xs - 1) d)))
      (length xs - 1)
      0)
