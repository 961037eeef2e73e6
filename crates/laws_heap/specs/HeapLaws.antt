-- What the heap's three operations keep, for any type of entry: the entries by count, the length, heap order, and whatever holds of every entry.
-- Assumes nothing.
use Rattle.std.proofs.Math.Path.{◌≡◌, refl, sym, ap}
use Rattle.std.proofs.Common.{◌∙◌, le_refl, length-append, take_all}
use Rattle.std.specs.Prelude.{Bool, ◌&&◌}
use Rattle.std.proofs.Math.Bool.{true, false}
use mathlib.Core.List.{List, [], ◌∷◌, ◌++◌}
use Prim.Native.Nat.{ℕ, suc, ◌+◌, ◌-◌, ◌≤◌, ◌<◌}
use native.Mathlib.Omega.{arith}
use Rattle.std.proofs.Math.ListN.{length, get_or, set, take, length-set, get_or-append}
use Rattle.std.proofs.Math.Seq.{get_or-set_other, get_or-take, length-take-le, take-suc}
use Rattle.model.specs.Rows.{one, count, every}
use Rattle.model.specs.Heap.{parent, push, sink_top, remove_top, rank}
use Rattle.laws_heap.specs.HeapSwaps.{count_set, kept}
use Rattle.laws_heap.specs.HeapOrder.{Ordered}
use Rattle.laws_heap.specs.HeapKeeps.{At, climb-keeps, sink-keeps, bottom-keeps, swap-long, swap-counts, climb_ordered, sink_ordered, bottom_ordered}

one_le : (b : Bool) → one b ≤ 1
one_le true = omega arith
one_le false = omega arith

module _ {A : Type 0} (f : A → Bool) where
  pub count-append : (xs ys : List A) → count f (xs ++ ys) ≡ count f xs + count f ys
  unfolding count
  count-append [] ys = omega arith
  count-append (x ∷ xs) ys = omega (arith, count-append xs ys)

  pub count_le : (xs : List A) → count f xs ≤ length xs
  unfolding count
  count_le [] = omega arith
  count_le (x ∷ xs) =
      elim (f x) as (λ u. one u + count f xs ≤ suc (length xs)) [
        | true ↦ omega (arith, count_le xs)
        | false ↦ omega (arith, count_le xs)
      ]

  -- every entry passes where as many pass as there are
  pub count-every : (xs : List A) → every f xs ≡ true → count f xs ≡ length xs
  unfolding count
  count-every [] e = refl
  count-every (x ∷ xs) e =
      (elim (f x) as (λ u. (u && every f xs) ≡ true → one u + count f xs ≡ suc (length xs)) [
        | true ↦ λ h. omega (arith, count-every xs h)
        | false ↦ λ h. let z : ◌≡◌ {A = ℕ} 0 1 = cc in absurd (omega arith)
      ]) e

  pub every-count : (xs : List A) → count f xs ≡ length xs → every f xs ≡ true
  unfolding count
  every-count [] e = refl
  every-count (x ∷ xs) e =
      (elim (f x) as (λ u. one u + count f xs ≡ suc (length xs) → (u && every f xs) ≡ true) [
        | true ↦ λ h. every-count xs (omega arith)
        | false ↦ λ h. absurd (omega (arith, count_le xs))
      ]) e

module _ {A : Type 0} (d : A) (key : A → ℕ) (xs : List A) where
  module _ (a : A) where
    more : length (xs ++ (a ∷ [])) ≡ length xs + 1
    more = length-append xs (a ∷ [])

    last : At d key (length xs + 1) (xs ++ (a ∷ [])) (length xs)
    last = record { fits = omega (arith, more); place = λ k. omega arith }

    pub push-length : length (push d key xs a) ≡ length xs + 1
    unfolding push
    push-length =
        climb-keeps d key (length xs + 1) (λ ys. length ys ≡ length xs + 1) (swap-long d key (length xs + 1) (length xs + 1)) (xs ++ (a ∷ [])) (length xs) last more

    pub push-count : (f : A → Bool) → count f (push d key xs a) ≡ count f xs + one (f a)
    unfolding push count
    push-count f =
        climb-keeps d key (length xs + 1) (λ ys. count f ys ≡ count f xs + one (f a)) (swap-counts d key (length xs + 1) f (count f xs + one (f a))) (xs ++ (a ∷ [])) (length xs) last
        (omega (arith, count-append f xs (a ∷ [])))

    pub push-every : (f : A → Bool) → every f xs ≡ true → f a ≡ true → every f (push d key xs a) ≡ true
    push-every f h e =
        every-count f (push d key xs a) (omega (arith, push-count f, push-length, count-every f xs h, ap one e))

    pub push_ordered : Ordered (rank d key xs) (length xs) → Ordered (rank d key (push d key xs a)) (length xs + 1)
    unfolding push Ordered
    push_ordered o =
        climb_ordered d key (length xs + 1) (xs ++ (a ∷ [])) (length xs) last
        (record {
          hole = record {
            apart = λ i ip il n m.
                let l : i < length xs = omega arith in
                let k : parent i < length xs = omega arith in
                omega (
                  arith,
                  o i ip l,
                  ap key (get_or-append xs (a ∷ []) d i l),
                  ap key (get_or-append xs (a ∷ []) d (parent i) k),
                );
            over = λ z i ip il e. absurd (omega arith);
          };
          below = λ i ip il e. absurd (omega arith);
        })

  module _ (some : 0 < length xs) where
    module _ (a : A) where
      top : At d key (length xs) (set xs 0 a) 0
      top = record { fits = rw length-set (le_refl (length xs)); place = λ k. some }

      pub sink_top-length : length (sink_top d key xs a) ≡ length xs
      unfolding sink_top
      sink_top-length =
          sink-keeps d key (length xs) (λ ys. length ys ≡ length xs) (swap-long d key (length xs) (length xs)) (set xs 0 a) 0 top (length-set xs 0 a)

      -- the top is traded for a
      pub sink_top-count : (f : A → Bool) → count f (sink_top d key xs a) + one (f (get_or xs 0 d)) ≡ count f xs + one (f a)
      unfolding sink_top
      sink_top-count f =
          omega (
            arith,
            count_set d f xs 0 a some,
            sink-keeps d key (length xs) (λ ys. count f ys ≡ count f (set xs 0 a)) (swap-counts d key (length xs) f (count f (set xs 0 a))) (set xs 0 a) 0 top refl,
          )

      pub sink_top-every : (f : A → Bool) → every f xs ≡ true → f a ≡ true → every f (sink_top d key xs a) ≡ true
      sink_top-every f h e =
          every-count f (sink_top d key xs a)
          (omega (arith, sink_top-count f, sink_top-length, count-every f xs h, ap one e, count_le f (sink_top d key xs a), one_le (f (get_or xs 0 d))))

      pub sink_top_ordered : Ordered (rank d key xs) (length xs) → Ordered (rank d key (sink_top d key xs a)) (length xs)
      unfolding sink_top Ordered
      sink_top_ordered o =
          sink_ordered d key (length xs) (set xs 0 a) 0 top
          (record {
            hole = record {
              apart = λ i ip il n m.
                  omega (
                    arith,
                    o i ip il,
                    ap key (get_or-set_other xs 0 i a d n),
                    ap key (get_or-set_other xs 0 (parent i) a d m),
                  );
              over = λ z. absurd (omega arith);
            };
            above = λ z. absurd (omega arith);
          })

    -- the last stands at the top, and the list is one shorter
    final : A
    final = get_or xs (length xs - 1) d

    moved : List A
    moved = set xs 0 final

    short : length (take (length xs - 1) moved) ≡ length xs - 1
    unfolding moved
    short = length-take-le (length xs - 1) (set xs 0 final) (rw length-set (omega arith))

    begin : At d key (length xs - 1) (take (length xs - 1) moved) 0
    begin = record { fits = omega (arith, short); place = λ k. absurd (omega arith) }

    pub remove_top-length : length (remove_top d key xs) ≡ length xs - 1
    unfolding remove_top moved final
    remove_top-length =
        bottom-keeps d key (length xs - 1) (λ ys. length ys ≡ length xs - 1) (swap-long d key (length xs - 1) (length xs - 1)) (take (length xs - 1) moved) 0 begin short

    stays : get_or (set xs 0 final) (length xs - 1) d ≡ final
    unfolding final
    stays = kept d xs 0 (length xs - 1)

    -- of the list with the last at the top, the first places and the last make up the whole
    parts : (f : A → Bool) → count f (take (length xs - 1) moved) + one (f final) ≡ count f moved
    unfolding moved count
    parts f =
        let l : length (set xs 0 final) ≡ length xs = length-set xs 0 final in
        let s : suc (length xs - 1) ≡ length xs = omega arith in
        let w : set xs 0 final ≡ take (length xs - 1) (set xs 0 final) ++ (get_or (set xs 0 final) (length xs - 1) d ∷ []) =
        sym (take_all (suc (length xs - 1)) (set xs 0 final) (omega arith)) ∙ take-suc (set xs 0 final) (length xs - 1) d (omega arith) in
        let k : get_or (set xs 0 final) (length xs - 1) d ≡ final = stays in
        sym
        (ap (count f) (w ∙ ap (λ (x : A). take (length xs - 1) (set xs 0 final) ++ (x ∷ [])) k)
        ∙ count-append f (take (length xs - 1) (set xs 0 final)) (final ∷ [])
        ∙ omega arith)

    -- the top goes, and nothing else
    pub remove_top-count : (f : A → Bool) → count f (remove_top d key xs) + one (f (get_or xs 0 d)) ≡ count f xs
    unfolding remove_top moved final
    remove_top-count f =
        omega (
          arith,
          count_set d f xs 0 final some,
          parts f,
          bottom-keeps d key (length xs - 1) (λ ys. count f ys ≡ count f (take (length xs - 1) moved)) (swap-counts d key (length xs - 1) f (count f (take (length xs - 1) moved))) (take (length xs - 1) moved) 0 begin refl,
        )

    pub remove_top-every : (f : A → Bool) → every f xs ≡ true → every f (remove_top d key xs) ≡ true
    remove_top-every f h =
        every-count f (remove_top d key xs)
        (omega (arith, remove_top-count f, remove_top-length, count-every f xs h, count_le f (remove_top d key xs), one_le (f (get_or xs 0 d))))

    pub remove_top_ordered : Ordered (rank d key xs) (length xs) → Ordered (rank d key (remove_top d key xs)) (length xs - 1)
    unfolding remove_top moved final Ordered
    remove_top_ordered o =
        bottom_ordered d key (length xs - 1) (take (length xs - 1) moved) 0 begin
        (record {
          apart = λ i ip il n m.
              omega (
                arith,
                o i ip (omega arith),
                ap key (same i n il),
                ap key (same (parent i) m (omega arith)),
              );
          over = λ z. absurd (omega arith);
        })
      where
        same : (i : ℕ) → (i ≡ 0 → ⊥) → i < length xs - 1 → get_or (take (length xs - 1) moved) i d ≡ get_or xs i d
        same i n l = get_or-take (length xs - 1) moved i d l ∙ get_or-set_other xs 0 i final d n
