-- What collecting keeps, by counting: what stays is what did not meet the condition, each with its sends; a good heap stays good. And off, nothing is done.
-- Assumes nothing.
use Rattle.std.specs.Prelude.{◌≡◌, Bool, ◌&&◌, ℕ, ◌+◌}
use Rattle.std.proofs.Math.Path.{refl, ap}
use Rattle.std.proofs.Common.{sym, ◌∙◌}
use Rattle.std.proofs.Math.Bool.{true, false, not}
use mathlib.Core.List.{List, [], ◌∷◌}
use native.Mathlib.Omega.{arith}
use Rattle.std.proofs.Math.ListN.{length}
use Rattle.std.proofs.Math.Dec.{eqb}
use borrow.Author.Tests.{eqb-true}
use Rattle.model.specs.declared.Kind.{Kind}
use Rattle.model.specs.Rows.{pick, count, those}
use Rattle.model.specs.Answers.{Answer, done, and_then}
use Rattle.model.specs.Words.{Address, Gossip, Entry, parts_of, unused, sends_of}
use Rattle.model.specs.Heap.{all_below}
use Rattle.model.specs.Collect.{is_old, collects, rebuilt, cleared}
use Rattle.model.specs.Node.{Node, Disseminator, Out, with_disseminator, pushes, pushed, emit}
use Rattle.model.specs.Sound.{sound_entry}
use Rattle.laws_heap.specs.HeapSifted.{those-length, those-count, those-every, count_split, count_never, count-others, all_length, all_count, all_every, all_in-order}
use Rattle.laws_choose.specs.GoodHeap.{GoodHeap}

never : (u : Bool) → (not u && u) ≡ false
never true = refl
never false = refl

module _ {A : Type 0} (address : Address A) (k : Kind) (g : Gossip A) where
  -- the condition
  abbrev pub old : Entry A → Bool
  old = is_old address k (parts_of address g.event)

  module _ (h : List (Entry A)) where
    -- what stays has room for as many as were taken
    pub rebuilt-length : length (rebuilt address k g h) + count old h ≡ length h
    unfolding rebuilt count
    rebuilt-length =
        omega (arith, all_length unused sends_of [] (those (λ e. not (old e)) h), those-length (λ e. not (old e)) h, count_split old h)

    rebuilt-count : (f : Entry A → Bool) → count f (rebuilt address k g h) ≡ count (λ e. not (old e) && f e) h
    unfolding rebuilt count
    rebuilt-count f = omega (arith, all_count unused sends_of f [] (those (λ e. not (old e)) h), those-count (λ e. not (old e)) f h)

    pub cleared-length : (on : Bool) → length (cleared address on k g h) + collects address on k g h ≡ length h
    unfolding cleared collects
    cleared-length false = omega arith
    cleared-length true =
        elim (eqb (count old h) 0) as (λ u. eqb (count old h) 0 ≡ u → length (pick u h (rebuilt address k g h)) + count old h ≡ length h) [
          | true ↦ λ e. omega (arith, eqb-true (count old h) 0 e)
          | false ↦ λ e. rebuilt-length
        ] refl

    -- whatever is asked of an entry, its event, its sends, its size, as many answer to it as of those that were not outdated
    pub cleared-count : (f : Entry A → Bool) → count f (cleared address true k g h) ≡ count (λ e. not (old e) && f e) h
    unfolding cleared collects
    cleared-count f =
        (elim (eqb (count old h) 0) as (λ u. eqb (count old h) 0 ≡ u → count f (pick u h (rebuilt address k g h)) ≡ count (λ e. not (old e) && f e) h) [
          | true ↦ λ e. count-others old f h (eqb-true (count old h) 0 e)
          | false ↦ λ e. rebuilt-count f
        ]) refl

    -- none that was is left
    pub cleared-left : count old (cleared address true k g h) ≡ 0
    cleared-left = cleared-count old ∙ count_never (λ e. not (old e) && old e) (λ e. never (old e)) h

    -- where nothing is taken the heap is as it was
    pub none-taken : (on : Bool) → collects address on k g h ≡ 0 → cleared address on k g h ≡ h
    unfolding cleared
    none-taken on e = ap (λ (n : ℕ). pick (eqb n 0) h (rebuilt address k g h)) e

    pub rebuilt_good : (j : Kind) → GoodHeap address j h → GoodHeap address j (rebuilt address k g h)
    unfolding rebuilt all_below
    rebuilt_good j q =
        let rest : List (Entry A) = those (λ e. not (old e)) h in
        record {
          few = omega (arith, q.few, rebuilt-length);
          entries = all_every unused sends_of (sound_entry address j) [] rest refl (those-every (λ e. not (old e)) (sound_entry address j) h q.entries);
          order = all_in-order unused sends_of [] rest refl;
        }

    pub cleared_good : (on : Bool) (j : Kind) → GoodHeap address j h → GoodHeap address j (cleared address on k g h)
    unfolding cleared
    cleared_good on j q =
        elim (eqb (collects address on k g h) 0) as (λ u. GoodHeap address j (pick u h (rebuilt address k g h))) [
          | true ↦ q
          | false ↦ rebuilt_good j q
        ]

  -- off: a push is 01's, and so is an emit
  pub off_is_as_before : (d : Disseminator A) (ds : List ℕ) → pushed address false k g d ds ≡ pushes address k g d ds
  unfolding pushed cleared collects
  off_is_as_before d ds = refl

  pub off_emits_as_before : (s : Node A) (ds : List ℕ) → s.settings.collect ≡ false
      → emit address k g s ds ≡ and_then (pushes address k g s.disseminator ds) λ d rest. done (record { node = with_disseminator s d; said = g ∷ []; collected = 0 }) rest
  unfolding emit pushed cleared collects
  off_emits_as_before s ds e =
      ap
      (λ (on : Bool).
      and_then (pushed address on k g s.disseminator ds) λ d rest.
      done (record { node = with_disseminator s d; said = g ∷ []; collected = collects address on k g s.disseminator.alive }) rest)
      e
