-- A test at every number below a bound, as a loop goes; and heap order as a test: what it says, and that the heap's operations keep it.
-- Assumes nothing.
use Rattle.std.specs.Prelude.{◌≡◌, Bool, true, false, ◌&&◌, List, length}
use Rattle.std.proofs.Math.Path.{refl, ap}
use Rattle.std.proofs.Common.{sym, ◌∙◌, le_refl, add-one, arith}
use Prim.Native.Nat.{ℕ, zero, suc, ◌+◌, ◌-◌, ◌≤◌, ◌<◌}
use Rattle.std.proofs.Math.Dec.{leb}
use borrow.Author.Tests.{le-leb, leb-true}
use Rattle.model.specs.Heap.{all_below, stands_in_order, parent, rank, push, sink_top, remove_top}
use Rattle.laws_heap.specs.HeapOrder.{Ordered}
use Rattle.laws_heap.specs.HeapSwaps.{by}
use Rattle.laws_heap.specs.HeapLaws.{push-length, push_ordered, sink_top-length, sink_top_ordered, remove_top-length, remove_top_ordered}

pub and_left : (a b : Bool) → (a && b) ≡ true → a ≡ true
and_left true b e = refl
and_left false b e = e

pub and_right : (a b : Bool) → (a && b) ≡ true → b ≡ true
and_right true b e = e
and_right false b e = cc

and_false : (a : Bool) → (a && false) ≡ false
and_false true = refl
and_false false = refl

module _ (f : ℕ → Bool) where
  pub all_at : (n i : ℕ) → i < n → all_below f n ≡ true → f i ≡ true
  unfolding all_below
  all_at zero i h e = absurd (omega arith)
  all_at (suc n) i h e =
      by i n (λ s. ap f s ∙ and_right (all_below f n) (f n) e) (λ m. all_at n i (omega arith) (and_left (all_below f n) (f n) e))

  pub all_less : (n m : ℕ) → m ≤ n → all_below f n ≡ true → all_below f m ≡ true
  unfolding all_below
  all_less n zero h e = refl
  all_less n (suc m) h e = rw (all_less n m (omega arith) e, all_at n m h e)

  pub all_more : (n : ℕ) → all_below f n ≡ true → f n ≡ true → all_below f (n + 1) ≡ true
  unfolding all_below
  all_more n e g = rw (add-one, e, g)

  pub all_fails : (n i : ℕ) → i < n → f i ≡ false → all_below f n ≡ false
  unfolding all_below
  all_fails zero i h e = absurd (omega arith)
  all_fails (suc n) i h e =
      by i n (λ s. rw ((ap f (sym s) ∙ e), and_false)) (λ m. rw (all_fails n i (omega arith) e))

  pub all_from : (n : ℕ) → ((i : ℕ) → i < n → f i ≡ true) → all_below f n ≡ true
  unfolding all_below
  all_from zero h = refl
  all_from (suc n) h = rw (all_from n (λ i l. h i (omega arith)), h n (le_refl (suc n)))

module _ {A : Type 0} (d : A) (key : A → ℕ) where
  pub in_order : (xs : List A) (len : ℕ) → stands_in_order d key xs len ≡ true → Ordered (rank d key xs) len
  unfolding Ordered
  in_order xs len e i ip il = leb-true _ _ (all_at (λ j. leb (rank d key xs (parent j)) (rank d key xs j)) len i il e)

  pub order_in : (xs : List A) (len : ℕ) → Ordered (rank d key xs) len → stands_in_order d key xs len ≡ true
  unfolding Ordered
  order_in xs len o =
      all_from (λ j. leb (rank d key xs (parent j)) (rank d key xs j)) len
      (λ i l. by i 0 (λ s. rw s (le-leb _ _ (le_refl (rank d key xs 0)))) (λ n. le-leb _ _ (o i (omega arith) l)))

  module _ (xs : List A) (e : stands_in_order d key xs (length xs) ≡ true) where
    pub push-in_order : (a : A) → stands_in_order d key (push d key xs a) (length (push d key xs a)) ≡ true
    push-in_order a =
        rw (push-length d key xs a)
        (order_in (push d key xs a) (length xs + 1) (push_ordered d key xs a (in_order xs (length xs) e)))

    module _ (some : 0 < length xs) where
      pub sink_top-in_order : (a : A) → stands_in_order d key (sink_top d key xs a) (length (sink_top d key xs a)) ≡ true
      sink_top-in_order a =
          rw (sink_top-length d key xs some a)
          (order_in (sink_top d key xs a) (length xs) (sink_top_ordered d key xs some a (in_order xs (length xs) e)))

      pub remove_top-in_order : stands_in_order d key (remove_top d key xs) (length (remove_top d key xs)) ≡ true
      remove_top-in_order =
          rw (remove_top-length d key xs some)
          (order_in (remove_top d key xs) (length xs - 1) (remove_top_ordered d key xs some (in_order xs (length xs) e)))
