-- Old news, from the front: what is left of a heap's row adds up to the count, and goes into the heap of what was kept so far.
-- Assumes nothing.
use mathlib.Core.Path.{◌≡◌, refl, sym, ◌∙◌, ap}
use mathlib.Core.Bool.{Bool, true, false, not, ◌&&◌}
use mathlib.Core.List.{List, [], ◌∷◌, map}
use Prim.Native.Nat.{ℕ, ◌+◌, ◌<◌, ◌≤◌}
use native.Mathlib.Omega.{arith}
use native.Mathlib.Numerals.{add-one}
use lib.ListN.{length, take, drop, get_or, drop_of_length-le}
use lib.Seq.{drop-cons, get_or-take, length-take-le}
use Rattle.model.specs.declared.Kind.{Kind}
use Rattle.model.specs.Rows.{one, pick, count, those}
use Rattle.model.specs.Words as W
use Rattle.model.specs.Heap.{push, push_all}
use Rattle.model.specs.Collect.{outdates, is_old}
use Rattle.laws_heap.specs.HeapLaws.{push-length}
use Rattle.address.specs.Here.{Addr, here}
use Rattle.types.specs.declared.Parts.{Parts}
use Rattle.types.specs.Views.{to_event, to_parts, from_parts}
use Rattle.heap.specs.declared.Entry.{Entry}
use Rattle.heap.specs.declared.Heap.{Heap}
use Rattle.heap.specs.Views.{to_entry, no_entry, heap_view, pack_heap, Packed, view_length, view_pack, packed_pack}

-- an entry's parts as the code has them
pub old-by_parts : (kind : Kind) (news held : Parts) (e : Entry) → held ≡ from_parts (W.parts_of here (to_event e.gossip.event))
    → (here.same news.subject held.subject && outdates kind news.number held.number) ≡ is_old here kind (to_parts news) (to_entry e)
unfolding is_old
old-by_parts kind news held e p = ap (λ (x : Parts). here.same news.subject x.subject && outdates kind news.number x.number) p

pub one-most : (b : Bool) → one b ≤ 1
one-most true = omega arith
one-most false = omega arith

-- what is left of the first len places of a row
abbrev pub rest_from : ℕ → List Entry → ℕ → List (W.Entry Addr)
rest_from len es i = map to_entry (drop i (take len es))

module _ (len : ℕ) (es : List Entry) (fits : len ≤ length es) (i : ℕ) where
  next : i < len → rest_from len es i ≡ to_entry (get_or es i no_entry) ∷ rest_from len es (i + 1)
  next h =
      let l : i < length (take len es) = rw (length-take-le len es fits) h in
      rw (drop-cons (take len es) i no_entry l, get_or-take len es i no_entry h, add-one)

  over : len ≤ i → rest_from len es i ≡ []
  over h =
      let l : length (take len es) ≤ i = rw (length-take-le len es fits) h in
      rw (drop_of_length-le (take len es) l)

  -- counting
  module _ (f : W.Entry Addr → Bool) (total : ℕ) (n : ℕ) (e : n + count f (rest_from len es i) ≡ total) where
    pub count_next : (b : Bool) (m : ℕ) → i < len → b ≡ f (to_entry (get_or es i no_entry)) → m ≡ n + one b → m + count f (rest_from len es (i + 1)) ≡ total
    unfolding count
    count_next b m h q z = omega (arith, e, ap (count f) (next h), ap one q, z)

    pub count-ends : len ≤ i → n ≡ total
    unfolding count
    count-ends h = omega (arith, e, ap (count f) (over h))

-- the heap of what was kept of the first i places, and what is to be put into it yet
pub record Sifted (old : W.Entry Addr → Bool) (len : ℕ) (es : List Entry) (all : List (W.Entry Addr)) (kept : Heap) (i : ℕ) : Type 0 where
  pub packed : Packed kept
  pub fewer : kept.len ≤ i
  pub rest : push_all W.unused W.sends_of (heap_view kept) (those (λ e. not (old e)) (rest_from len es i)) ≡ all

module _ (old : W.Entry Addr → Bool) (len : ℕ) (es : List Entry) (all : List (W.Entry Addr)) where
  pub sift_starts : (kept : Heap) → kept ≡ pack_heap [] → push_all W.unused W.sends_of [] (those (λ e. not (old e)) (rest_from len es 0)) ≡ all → Sifted old len es all kept 0
  sift_starts kept e q =
      record {
        packed = rw e (packed_pack [] (omega arith));
        fewer = omega (arith, ap (λ (x : Heap). x.len) e);
        rest = ap (λ (x : Heap). push_all W.unused W.sends_of (heap_view x) (those (λ y. not (old y)) (rest_from len es 0))) e ∙ q;
      }

  module _ (fits : len ≤ length es) (few : len ≤ 128) (kept : Heap) (i : ℕ) (s : Sifted old len es all kept i) where
    abbrev here_at : W.Entry Addr
    here_at = to_entry (get_or es i no_entry)

    abbrev behind : List (W.Entry Addr)
    behind = those (λ e. not (old e)) (rest_from len es (i + 1))

    abbrev keeps : Bool → Heap
    keeps b = pick b kept (pack_heap (push W.unused W.sends_of (heap_view kept) here_at))

    ahead : i < len → push_all W.unused W.sends_of (heap_view kept) (pick (not (old here_at)) (here_at ∷ behind) behind) ≡ all
    unfolding those
    ahead h = sym (ap (λ (l : List (W.Entry Addr)). push_all W.unused W.sends_of (heap_view kept) (those (λ e. not (old e)) l)) (next len es fits i h)) ∙ s.rest

    by_test : i < len → (b : Bool) → push_all W.unused W.sends_of (heap_view kept) (pick (not b) (here_at ∷ behind) behind) ≡ all → Sifted old len es all (keeps b) (i + 1)
    unfolding push_all
    by_test h true q = record { packed = s.packed; fewer = omega (arith, s.fewer); rest = q }
    by_test h false q =
        let more : List (W.Entry Addr) = push W.unused W.sends_of (heap_view kept) here_at in
        let long = push-length W.unused W.sends_of (heap_view kept) here_at in
        let held = view_length kept s.packed in
        record {
          packed = packed_pack more (omega (arith, long, held, s.fewer, few));
          fewer = omega (arith, long, held, s.fewer);
          rest = ap (λ (l : List (W.Entry Addr)). push_all W.unused W.sends_of l behind) (view_pack more) ∙ q;
        }

    pub sift_next : (b : Bool) (after : Heap) → i < len → b ≡ old here_at → after ≡ keeps b → Sifted old len es all after (i + 1)
    sift_next b after h q e =
        rw e (by_test h b (ap (λ (u : Bool). push_all W.unused W.sends_of (heap_view kept) (pick (not u) (here_at ∷ behind) behind)) q ∙ ahead h))

    pub sift_ends : len ≤ i → heap_view kept ≡ all
    unfolding those push_all
    sift_ends h = sym (ap (λ (l : List (W.Entry Addr)). push_all W.unused W.sends_of (heap_view kept) (those (λ e. not (old e)) l)) (over len es fits i h)) ∙ s.rest
