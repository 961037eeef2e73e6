-- A push that is refused or not, and a taken top that goes or sinks.
-- Assumes nothing.
use mathlib.Core.Path.{◌≡◌, refl, sym, ◌∙◌, ap}
use mathlib.Core.Bool.{Bool, true, false}
use mathlib.Core.List.{List}
use Prim.Native.Nat.{ℕ, ◌+◌, ◌≤◌, ◌<◌}
use native.Mathlib.Omega.{arith}
use lib.Dec.{eqb, leb}
use lib.ListN.{length}
use borrow.Author.Tests.{le-leb, lt-leb}
use Rattle.model.specs.declared.Kind.{Kind}
use Rattle.model.specs.declared.Kind.TheVariants as kind
use Rattle.model.specs.Rows.{pick}
use Rattle.address.specs.Here.{Addr, here}
use Rattle.model.specs.Words as W
use Rattle.model.specs.Heap.{push, sink_top, remove_top}
use Rattle.model.specs.Choose.{entry_of, take_top}
use Rattle.model.specs.Collect.{collects, rebuilt, cleared}
use Rattle.laws_choose.specs.Collecting.{cleared-length}
use Rattle.heap.specs.declared.Heap.{Heap}
use Rattle.heap.specs.Views.{heap_view, pack_heap, Packed, view_length, pack_view, view_pack, packed_pack}
use Rattle.disseminate.specs.declared.Grown.{Grown}
use Rattle.disseminate.specs.declared.Disseminator.{Disseminator}
use Rattle.disseminate.specs.Views.{emitted, grown, cleared_heap, Pushes, PackedHeaps}

module _ (h : Heap) (p : Packed h) (g : W.Gossip Addr) where
  abbrev answer : Bool → Grown
  answer u = pick u (record { heap = h; full = true }) (record { heap = emitted h g; full = false })

  pub grow_full : 128 ≤ h.len → record { heap = h; full = true } ≡ grown h g
  grow_full k = sym (ap answer (le-leb 128 (length (heap_view h)) (omega (arith, view_length h p))))

  pub grow_held : (r : Heap) → h.len < 128 → r ≡ emitted h g → record { heap = r; full = false } ≡ grown h g
  grow_held r k e =
      ap (λ (x : Heap). record { heap = x; full = false }) e ∙ sym (ap answer (lt-leb 128 (length (heap_view h)) (omega (arith, view_length h p))))

-- the alive heap without what an event outdates is the rules'
module _ (on : Bool) (k : Kind) (g : W.Gossip Addr) (h : Heap) (p : Packed h) where
  pub cleared_is : cleared_heap on k g h ≡ pack_heap (cleared here on k g (heap_view h))
  unfolding cleared
  cleared_is =
      elim (eqb (collects here on k g (heap_view h)) 0) as (λ u. pick u h (pack_heap (rebuilt here k g (heap_view h))) ≡ pack_heap (pick u (heap_view h) (rebuilt here k g (heap_view h)))) [
        | true ↦ sym (pack_view h p)
        | false ↦ refl
      ]

  pub cleared_view : heap_view (cleared_heap on k g h) ≡ cleared here on k g (heap_view h)
  cleared_view = ap heap_view cleared_is ∙ view_pack (cleared here on k g (heap_view h))

  -- what was taken is room
  pub cleared_len : (cleared_heap on k g h).len + collects here on k g (heap_view h) ≡ h.len
  cleared_len = omega (arith, ap (λ (x : Heap). x.len) cleared_is, cleared-length here k g (heap_view h) on, view_length h p)

  pub cleared-packed : Packed (cleared_heap on k g h)
  cleared-packed = rw cleared_is (packed_pack (cleared here on k g (heap_view h)) (omega (arith, cleared-length here k g (heap_view h) on, view_length h p, p.few)))

-- a heap that has grown, or could not
module _ (h : Heap) (g : W.Gossip Addr) (r : Grown) (e : r ≡ grown h g) where
  grown-full : r.full ≡ leb 128 (length (heap_view h))
  grown-full =
      ap (λ (x : Grown). x.full) e
      ∙ elim (leb 128 (length (heap_view h))) as (λ u. (pick {B = Grown} u (record { heap = h; full = true }) (record { heap = emitted h g; full = false })).full ≡ u) [
        | true ↦ refl
        | false ↦ refl
      ]

  grown_heap : r.full ≡ false → r.heap ≡ emitted h g
  grown_heap q =
      ap (λ (x : Grown). x.heap) e
      ∙ ap (λ (u : Bool). (pick {B = Grown} u (record { heap = h; full = true }) (record { heap = emitted h g; full = false })).heap) (sym grown-full ∙ q)

-- both heaps after a push
module _ (d : Disseminator) (p : PackedHeaps d) (g : W.Gossip Addr) (on : Bool) (h : Heap) (r : Grown) where
  pub alive-pushes : h ≡ cleared_heap on kind.Alive g d.alive → r ≡ grown h g → Pushes on kind.Alive g d (record { alive = r.heap; deceased = d.deceased }) r.full
  alive-pushes e q =
      let v : heap_view h ≡ cleared here on kind.Alive g (heap_view d.alive) = ap heap_view e ∙ cleared_view on kind.Alive g d.alive p.alive in
      record {
        is_full = grown-full h g r q ∙ ap (λ (l : List (W.Entry Addr)). leb 128 (length l)) v;
        is_after = λ z.
            let a = grown_heap h g r q z ∙ ap (λ (l : List (W.Entry Addr)). pack_heap (push W.unused W.sends_of l (entry_of here g))) v in
            λ i. record { alive = a i; deceased = sym (pack_view d.deceased p.deceased) i };
      }

  pub deceased-pushes : h ≡ cleared_heap on kind.Deceased g d.alive → r ≡ grown d.deceased g → Pushes on kind.Deceased g d (record { alive = h; deceased = r.heap }) r.full
  deceased-pushes e q =
      record {
        is_full = grown-full d.deceased g r q;
        is_after = λ z.
            let a = e ∙ cleared_is on kind.Deceased g d.alive p.alive in
            λ i. record { alive = a i; deceased = grown_heap d.deceased g r q z i };
      }

module _ (limit : ℕ) (e : W.Entry Addr) (h : List (W.Entry Addr)) where
  abbrev more : W.Entry Addr
  more = record { gossip = e.gossip; sends = e.sends + 1; size = e.size }

  pub take_removes : limit ≤ e.sends + 1 → remove_top W.unused W.sends_of h ≡ (take_top here limit e h).heap
  unfolding take_top
  take_removes k =
      sym (ap (λ (u : Bool). pick u (remove_top W.unused W.sends_of h) (sink_top W.unused W.sends_of h more)) (le-leb limit (e.sends + 1) k))

  pub take_sinks : e.sends + 1 < limit → sink_top W.unused W.sends_of h more ≡ (take_top here limit e h).heap
  unfolding take_top
  take_sinks k =
      sym (ap (λ (u : Bool). pick u (remove_top W.unused W.sends_of h) (sink_top W.unused W.sends_of h more)) (lt-leb limit (e.sends + 1) k))
