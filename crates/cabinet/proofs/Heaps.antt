-- A heap's operations and the choosing of gossip make nothing up: what holds of each entry, whatever its sends, holds after them, and of each chosen gossip.
-- Assumes nothing.
use Rattle.std.specs.Prelude.{◌≡◌, Bool, ℕ, ◌+◌, ◌-◌, ◌≤◌, ◌<◌, eqb, leb, set, take}
use Rattle.std.proofs.Math.Bool.{true, false, not}
use mathlib.Core.List.{List, [], ◌∷◌, ◌++◌}
use Rattle.std.proofs.Common.{le_refl}
use native.Mathlib.Omega.{arith}
use Rattle.std.proofs.Math.ListN.{length, get_or, length-set, length-append}
use Rattle.std.proofs.Math.Seq.{length-take-le}
use Rattle.model.specs.declared.Kind.{Kind}
use Rattle.model.specs.Rows.{pick, swap, those}
use Rattle.model.specs.Words.{Address, Gossip, Entry, parts_of, unused, sends_of}
use Rattle.model.specs.Heap.{push, push_all, sink_top, remove_top}
use Rattle.laws_heap.specs.HeapKeeps.{climb-keeps, sink-keeps, bottom-keeps}
use Rattle.model.specs.Collect.{is_old, collects, rebuilt, cleared}
use Rattle.model.specs.Choose.{Terms, Taken, take_top, begin, choose}
use Rattle.laws_choose.specs.ChooseLaws.{Gave, rounds_keep}
use Rattle.cabinet.specs.Each.{Each, nil, cons}
use Rattle.cabinet.proofs.Each.{each_append, each-one, each_get, each_set, each_take, each-swap}
use Rattle.cabinet.specs.Heaps.{Entries, Sorted}

module _ {B : Type 0} (P : B → Type 0) (d : B) (key : B → ℕ) where
  swaps : (len : ℕ) (xs : List B) (p q : ℕ) → p < len → q < len → len ≤ length xs → Each P xs → Each P (swap d xs p q)
  swaps len xs p q h k l ps = each-swap d xs p q (omega arith) (omega arith) ps

  pub push-each : (xs : List B) (a : B) → P a → Each P xs → Each P (push d key xs a)
  unfolding push
  push-each xs a q ps =
      climb-keeps d key (length xs + 1) (Each P) (swaps (length xs + 1)) (xs ++ (a ∷ [])) (length xs)
      (record { fits = omega (arith, length-append xs (a ∷ [])); place = λ k. omega arith })
      (each_append ps (each-one q))

  -- those that pass a test, and those put into a heap one after the other
  those-each : (f : B → Bool) {xs : List B} → Each P xs → Each P (those f xs)
  unfolding those
  those-each f nil = nil
  those-each f (cons {x = x} {l = l} p ps) =
      elim (f x) as (λ u. Each P (pick u (x ∷ those f l) (those f l))) [ true ↦ cons p (those-each f ps) | false ↦ those-each f ps ]

  all_each : (xs : List B) {more : List B} → Each P xs → Each P more → Each P (push_all d key xs more)
  unfolding push_all
  all_each xs ps nil = ps
  all_each xs ps (cons {x = x} q qs) = all_each (push d key xs x) (push-each xs x q ps) qs

  pub sink_top-each : (xs : List B) (a : B) → 0 < length xs → P a → Each P xs → Each P (sink_top d key xs a)
  unfolding sink_top
  sink_top-each xs a h q ps =
      sink-keeps d key (length xs) (Each P) (swaps (length xs)) (set xs 0 a) 0
      (record { fits = rw length-set (le_refl (length xs)); place = λ k. h })
      (each_set xs 0 a q ps)

  pub remove_top-each : (xs : List B) → 0 < length xs → Each P xs → Each P (remove_top d key xs)
  unfolding remove_top
  remove_top-each xs h ps =
      let last = get_or xs (length xs - 1) d in
      let short : length (take (length xs - 1) (set xs 0 last)) ≡ length xs - 1 = length-take-le (length xs - 1) (set xs 0 last) (rw length-set (omega arith)) in
      bottom-keeps d key (length xs - 1) (Each P) (swaps (length xs - 1)) (take (length xs - 1) (set xs 0 last)) 0
      (record { fits = omega (arith, short); place = λ k. absurd (omega arith) })
      (each_take (length xs - 1) (set xs 0 last) (each_set xs 0 last (each_get d xs (length xs - 1) (omega arith) ps) ps))

module _ {A : Type 0} (address : Address A) (P : Gossip A → Type 0) where
  -- what is left of a heap that old news was taken from
  pub cleared-each : (on : Bool) (k : Kind) (g : Gossip A) (h : List (Entry A)) → (Entries address P) h → (Entries address P) (cleared address on k g h)
  unfolding cleared rebuilt
  cleared-each on k g h ps =
      elim (eqb (collects address on k g h) 0) as (λ u. (Entries address P) (pick u h (push_all unused sends_of [] (those (λ e. not (is_old address k (parts_of address g.event) e)) h)))) [
        | true ↦ ps
        | false ↦ all_each (λ (x : Entry A). P x.gossip) unused sends_of [] nil (those-each (λ (x : Entry A). P x.gossip) unused sends_of (λ e. not (is_old address k (parts_of address g.event) e)) ps)
      ]

  -- a heap gave one: the gossip was its top's, and the top was removed or sent once more
  taken : (t : Terms) (size : ℕ) (h : List (Entry A)) (k : Taken A) → (Entries address P) h → Gave address t size h k → P k.gossip × (Entries address P) k.heap
  unfolding take_top
  taken t size h k ps v =
      let e = v.top in
      let es = v.rest in
      let q : (Entries address P) (e ∷ es) = rw v.is at ps in
      let g : P e.gossip = each_get (unused {A = A}) (e ∷ es) 0 (omega arith) q in
      let e' : Entry A = record { gossip = e.gossip; sends = e.sends + 1; size = e.size } in
      rw v.taken (
        g,
        elim (leb t.limit (e.sends + 1)) as (λ u. (Entries address P) (pick u (remove_top unused sends_of (e ∷ es)) (sink_top unused sends_of (e ∷ es) e'))) [
          | true ↦ remove_top-each (λ (x : Entry A). P x.gossip) unused sends_of (e ∷ es) (omega arith) q
          | false ↦ sink_top-each (λ (x : Entry A). P x.gossip) unused sends_of (e ∷ es) e' (omega arith) g q
        ],
      )

  pub choose-each : (t : Terms) (alive deceased : List (Entry A)) → (Entries address P) alive → (Entries address P) deceased → (Sorted address P) (choose address t alive deceased)
  unfolding choose
  choose-each t alive deceased p q =
      rounds_keep address t (Sorted address P)
      (λ c k s v. let r = taken t c.size c.alive k s.alive v in record { alive = r.1; deceased = s.deceased; chosen = each_append s.chosen (each-one r.0) })
      (λ c k s v. let r = taken t c.size c.deceased k s.deceased v in record { alive = s.alive; deceased = r.1; chosen = each_append s.chosen (each-one r.0) })
      64 (begin address alive deceased)
      (record { alive = p; deceased = q; chosen = nil })
