-- Heap order over a swap, said of ranks alone: K of the places before it, K' after it.
-- Assumes nothing.
use Rattle.std.specs.Prelude.{◌≡◌, ℕ, ◌≤◌, ◌<◌}
use Rattle.std.proofs.Common.{sym, ◌∙◌, ap, arith}
use Rattle.model.specs.Heap.{parent}
use Rattle.laws_heap.specs.HeapSwaps.{by}

-- heap order of the first len places: none has fewer than the one above it
unfoldable pub Ordered : (ℕ → ℕ) → ℕ → Type 0
Ordered K len = (i : ℕ) → 0 < i → i < len → K (parent i) ≤ K i

-- in order but for what stands at p, which may be anything
pub record Hole (K : ℕ → ℕ) (len p : ℕ) : Type 0 where
  pub apart : (i : ℕ) → 0 < i → i < len → (i ≡ p → ⊥) → (parent i ≡ p → ⊥) → K (parent i) ≤ K i
  pub over : 0 < p → (i : ℕ) → 0 < i → i < len → parent i ≡ p → K (parent p) ≤ K i

-- besides, what stands at p is in order with those below it: it may climb
pub record Rising (K : ℕ → ℕ) (len p : ℕ) : Type 0 where
  pub hole : Hole K len p
  pub below : (i : ℕ) → 0 < i → i < len → parent i ≡ p → K p ≤ K i

-- besides, it is in order with the one above it: it may sink
pub record Falling (K : ℕ → ℕ) (len p : ℕ) : Type 0 where
  pub hole : Hole K len p
  pub above : 0 < p → K (parent p) ≤ K p

pub risen : (K : ℕ → ℕ) (len p : ℕ) → (0 < p → K (parent p) ≤ K p) → Rising K len p → Ordered K len
unfolding Ordered
risen K len p h r i pos l =
    by i p
    (λ e. let a : K (parent p) ≤ K p = h (omega arith) in omega (arith, ap K e, ap (λ (j : ℕ). K (parent j)) e))
    (λ n. by (parent i) p
    (λ e. let a : K p ≤ K i = r.below i pos l e in omega (arith, ap K e))
    (λ m. r.hole.apart i pos l n m))

pub fallen : (K : ℕ → ℕ) (len p : ℕ) → ((i : ℕ) → 0 < i → i < len → parent i ≡ p → K p ≤ K i) → Falling K len p → Ordered K len
fallen K len p h f = risen K len p f.above (record { hole = f.hole; below = h })

module _
    (K K' : ℕ → ℕ)
    (len p q : ℕ)
    (first : K' p ≡ K q)
    (second : K' q ≡ K p)
    (other : (i : ℕ) → (i ≡ p → ⊥) → (i ≡ q → ⊥) → K' i ≡ K i)
  where
    -- p changes places with the one above it, q
    pub step_up : q ≡ parent p → 0 < p → p < len → K p < K q → Rising K len p → Rising K' len q
    step_up w pos l lt r = record { hole = record { apart = apart'; over = over' }; below = below' } where
      -- what hung from q is no less than q was
      under : (i : ℕ) → 0 < i → i < len → parent i ≡ q → K q ≤ K' i
      under i ip il e =
          by i p
          (λ s. omega (arith, ap K' s, first))
          (λ n.
          let a : K (parent i) ≤ K i = r.hole.apart i ip il n (λ s. omega arith) in
          omega (arith, ap K e, other i n (λ s. omega arith)))

      apart' : (i : ℕ) → 0 < i → i < len → (i ≡ q → ⊥) → (parent i ≡ q → ⊥) → K' (parent i) ≤ K' i
      apart' i ip il n m =
          by i p
          (λ s. absurd (m (ap parent s ∙ sym w)))
          (λ np. by (parent i) p
          (λ s.
          let a : K (parent p) ≤ K i = r.hole.over pos i ip il s in
          omega (arith, ap K' s, first, ap K w, other i np n))
          (λ mp.
          let a : K (parent i) ≤ K i = r.hole.apart i ip il np mp in
          omega (arith, other i np n, other (parent i) mp m)))

      over' : 0 < q → (i : ℕ) → 0 < i → i < len → parent i ≡ q → K' (parent q) ≤ K' i
      over' qp i ip il e =
          let a : K (parent q) ≤ K q = r.hole.apart q qp (omega arith) (λ s. omega arith) (λ s. omega arith) in
          omega (arith, under i ip il e, other (parent q) (λ s. omega arith) (λ s. omega arith))

      below' : (i : ℕ) → 0 < i → i < len → parent i ≡ q → K' q ≤ K' i
      below' i ip il e = omega (arith, under i ip il e, second)

    -- p changes places with the least of those below it, q
    pub step_down :
        parent q ≡ p → 0 < q → q < len → ((i : ℕ) → 0 < i → i < len → parent i ≡ p → K q ≤ K i) → Hole K len p → Hole K' len q
    step_down w pos l lst h = record { apart = apart'; over = over' } where
      apart' : (i : ℕ) → 0 < i → i < len → (i ≡ q → ⊥) → (parent i ≡ q → ⊥) → K' (parent i) ≤ K' i
      apart' i ip il n m =
          by i p
          (λ s.
          let a : K (parent p) ≤ K q = h.over (omega arith) q pos l w in
          let b : K' (parent p) ≡ K (parent p) = other (parent p) (λ t. omega arith) (λ t. omega arith) in
          omega (arith, ap K' s, ap (λ (j : ℕ). K' (parent j)) s, first))
          (λ np. by (parent i) p
          (λ s. omega (arith, lst i ip il s, ap K' s, first, other i np n))
          (λ mp.
          let a : K (parent i) ≤ K i = h.apart i ip il np mp in
          omega (arith, other i np n, other (parent i) mp m)))

      over' : 0 < q → (i : ℕ) → 0 < i → i < len → parent i ≡ q → K' (parent q) ≤ K' i
      over' qp i ip il e =
          let a : K (parent i) ≤ K i = h.apart i ip il (λ s. omega arith) (λ s. omega arith) in
          omega (arith, ap K e, ap K' w, first, other i (λ s. omega arith) (λ s. omega arith))
