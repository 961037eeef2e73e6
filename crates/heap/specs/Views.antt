-- How a heap's row carries the model's list of entries.
-- Assumes nothing.
use Rattle.std.specs.Prelude.{◌≡◌, refl, List, [], ◌∷◌, ◌++◌, map, ℕ, ◌+◌, ◌-◌, ◌≤◌, ◌<◌, length, take, replicate}
use Rattle.std.proofs.Common.{ap, sym, ◌∙◌, arith, length-take, take_at, length-take-le}
use Rattle.std.proofs.lemmas.List.{length-map}
use Rattle.address.specs.Here.{Addr}
use Rattle.model.specs.Rows.{pad_to}
use Rattle.laws.specs.Pad.{length-pad_to}
use Rattle.model.specs.Words as W
use Rattle.types.specs.Views.{to_gossip, from_gossip, no_gossip, to_from_gossip, from-to_gossip}
use Rattle.heap.specs.declared.Entry.{Entry}
use Rattle.heap.specs.declared.Heap.{Heap}

abbrev pub to_entry : Entry → W.Entry Addr
to_entry e = record { gossip = to_gossip e.gossip; sends = e.sends; size = e.size }

abbrev pub from_entry : W.Entry Addr → Entry
from_entry e = record { gossip = from_gossip e.gossip; sends = e.sends; size = e.size }

abbrev pub sends : Entry → ℕ
sends e = e.sends

-- an unused place
abbrev pub no_entry : Entry
no_entry = record { gossip = no_gossip; sends = 0; size = 0 }

abbrev pub heap_view : Heap → List (W.Entry Addr)
heap_view h = map to_entry (take h.len h.entries)

abbrev pub pack_heap : List (W.Entry Addr) → Heap
pack_heap l = record { entries = pad_to 128 no_entry (map from_entry l); len = length l }

-- the row holds len entries, and every place behind them is unused
pub record Packed (h : Heap) : Type 0 where
  pub few : h.len ≤ 128
  pub row : h.entries ≡ pad_to 128 no_entry (take h.len h.entries)

pub to_from_entry : (e : W.Entry Addr) → to_entry (from_entry e) ≡ e
to_from_entry e = λ i. record { gossip = to_from_gossip e.gossip i; sends = e.sends; size = e.size }

pub from-to_entry : (e : Entry) → from_entry (to_entry e) ≡ e
from-to_entry e = λ i. record { gossip = from-to_gossip e.gossip i; sends = e.sends; size = e.size }

pub to_from_entries : (l : List (W.Entry Addr)) → map to_entry (map from_entry l) ≡ l
to_from_entries [] = refl
to_from_entries (e ∷ l) = λ i. to_from_entry e i ∷ to_from_entries l i

pub from_to_entries : (l : List Entry) → map from_entry (map to_entry l) ≡ l
from_to_entries [] = refl
from_to_entries (e ∷ l) = λ i. from-to_entry e i ∷ from_to_entries l i

-- a packed row is whole, and its list as long as it says
pub packed-length : (h : Heap) → Packed h → length h.entries ≡ 128
packed-length h p =
    ap length p.row
    ∙ length-pad_to 128 no_entry (take h.len h.entries) (omega (arith, length-take h.len h.entries, p.few))

pub used_length : (h : Heap) → Packed h → length (take h.len h.entries) ≡ h.len
used_length h p = length-take-le h.len h.entries (omega (arith, packed-length h p, p.few))

pub view_length : (h : Heap) → Packed h → length (heap_view h) ≡ h.len
view_length h p = length-map (take h.len h.entries) to_entry ∙ used_length h p

-- what is packed is read back, and what is read is packed again
pub view_pack : (l : List (W.Entry Addr)) → heap_view (pack_heap l) ≡ l
view_pack l = ap (map to_entry) (take_at (map from_entry l) _ (length l) (length-map l from_entry)) ∙ to_from_entries l

pub packed_pack : (l : List (W.Entry Addr)) → length l ≤ 128 → Packed (pack_heap l)
packed_pack l h =
    record { few = h; row = sym (ap (pad_to 128 no_entry) (take_at (map from_entry l) _ (length l) (length-map l from_entry))) }

pub pack_view : (h : Heap) → Packed h → pack_heap (heap_view h) ≡ h
pack_view h p =
    let e : pad_to 128 no_entry (map from_entry (heap_view h)) ≡ h.entries =
    ap (pad_to 128 no_entry) (from_to_entries (take h.len h.entries)) ∙ sym p.row in
    λ i. record { entries = e i; len = view_length h p i }
