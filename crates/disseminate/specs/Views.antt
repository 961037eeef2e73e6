-- How the code's values carry the model's: terms, what is chosen and noted, and how far a choosing has come.
-- Assumes nothing.
use Rattle.std.specs.Prelude.{◌≡◌, Bool, true, false, List, [], ◌∷◌, ◌++◌, map, ℕ, zero, suc, ◌+◌, ◌*◌, ◌≤◌, ◌<◌, length, get_or, take, replicate, eqb, leb}
use Rattle.std.proofs.Math.Option.{Option, none, some}
use Rattle.model.specs.declared.Kind.{Kind}
use Rattle.model.specs.declared.Kind.TheVariants as kind
use Rattle.model.specs.Bounds.{greatest_size}
use Rattle.model.specs.Rows.{pick, pad_to}
use Rattle.address.specs.Here.{Addr, here}
use Rattle.model.specs.Words as W
use Rattle.model.specs.Heap.{push}
use Rattle.model.specs.Choose as M
use Rattle.model.specs.Collect as C
use Rattle.model.specs.Node as N
use Rattle.laws_choose.specs.ChooseLaws.{GoodHeaps, Within}
use Rattle.types.specs.declared.Gossip.{Gossip}
use Rattle.types.specs.Views.{to_gossip, from_gossip, no_gossip}
use Rattle.heap.specs.declared.Entry.{Entry}
use Rattle.heap.specs.declared.Heap.{Heap}
use Rattle.heap.specs.Views.{no_entry, heap_view, pack_heap, Packed, pack_view}
use Rattle.disseminate.specs.declared.Disseminator.{Disseminator}
use Rattle.disseminate.specs.declared.Grown.{Grown}
use Rattle.disseminate.specs.declared.collect.Renewed.{Renewed}
use Rattle.disseminate.specs.declared.Found.{Found}
use Rattle.disseminate.specs.declared.Found.TheVariants.{Missing, At}
use Rattle.disseminate.specs.declared.Terms.{Terms}
use Rattle.disseminate.specs.declared.Chosen.{Chosen}
use Rattle.disseminate.specs.declared.Choice.{Choice}

abbrev pub view_disseminator : Disseminator → N.Disseminator Addr
view_disseminator d = record { alive = heap_view d.alive; deceased = heap_view d.deceased }

abbrev pub pack_disseminator : N.Disseminator Addr → Disseminator
pack_disseminator d = record { alive = pack_heap d.alive; deceased = pack_heap d.deceased }

abbrev pub no_news : N.Disseminator Addr
no_news = record { alive = []; deceased = [] }

pub record PackedHeaps (d : Disseminator) : Type 0 where
  pub alive : Packed d.alive
  pub deceased : Packed d.deceased

-- what is read from packed heaps is packed again
pub both-back : (d : Disseminator) → PackedHeaps d → pack_disseminator (view_disseminator d) ≡ d
both-back d p = λ i. record { alive = pack_view d.alive p.alive i; deceased = pack_view d.deceased p.deceased i }

-- which heap: is it the same one, and which of two numbers is its own
abbrev pub same_kind : Kind → Kind → Bool
same_kind kind.Alive kind.Alive = true
same_kind kind.Alive kind.Deceased = false
same_kind kind.Deceased kind.Alive = false
same_kind kind.Deceased kind.Deceased = true

abbrev pub of_kind : Kind → ℕ → ℕ → ℕ
of_kind kind.Alive alive deceased = alive
of_kind kind.Deceased alive deceased = deceased

-- a heap with one gossip more
abbrev pub emitted : Heap → W.Gossip Addr → Heap
emitted h g = pack_heap (push W.unused W.sends_of (heap_view h) (M.entry_of here g))

-- the same, or as it came since it was full
abbrev pub grown : Heap → W.Gossip Addr → Grown
grown h g =
    pick (leb 128 (length (heap_view h)))
    (record { heap = h; full = true })
    (record { heap = emitted h g; full = false })

-- the alive heap without what an event outdates, or as it came where that is nothing
abbrev pub cleared_by : ℕ → Kind → W.Gossip Addr → Heap → Heap
cleared_by old k g h = pick (eqb old 0) h (pack_heap (C.rebuilt here k g (heap_view h)))

abbrev pub cleared_heap : Bool → Kind → W.Gossip Addr → Heap → Heap
cleared_heap on k g h = cleared_by (C.collects here on k g (heap_view h)) k g h

-- the alive heap that a gossip was pushed to, and how many were collected for it
abbrev pub renewed : Bool → W.Gossip Addr → Heap → Renewed
renewed on g h = record { grown = grown (cleared_heap on kind.Alive g h) g; collected = C.collects here on kind.Alive g (heap_view h) }

-- the heaps after a push that finds room, in the rules' words
abbrev pub pushed_to : Bool → Kind → W.Gossip Addr → N.Disseminator Addr → N.Disseminator Addr
pushed_to on k g d =
    let c = N.collecting here on k g d in
    N.with_heap k (push W.unused W.sends_of (N.heap_of k c) (M.entry_of here g)) c

-- what the code has of a push: whether there was no room, and else both heaps
pub record Pushes (on : Bool) (k : Kind) (g : W.Gossip Addr) (d after : Disseminator) (full : Bool) : Type 0 where
  pub is_full : full ≡ leb 128 (length (N.heap_of k (N.collecting here on k g (view_disseminator d))))
  pub is_after : full ≡ false → after ≡ pack_disseminator (pushed_to on k g (view_disseminator d))

abbrev pub from_found : Option ℕ → Found
from_found none = Missing
from_found (some n) = At n

abbrev pub to_terms : Terms → M.Terms
to_terms t =
    record {
      alive_share = t.alive_share;
      deceased_share = t.deceased_share;
      max_size = t.max_size;
      limit = t.limit;
    }

abbrev pub from_terms : M.Terms → Terms
from_terms t =
    record {
      alive_share = t.alive_share;
      deceased_share = t.deceased_share;
      max_size = t.max_size;
      limit = t.limit;
    }

-- the first k chosen with their send counts, the last one first
unfoldable pub noted : List Gossip → List ℕ → ℕ → List (W.Gossip Addr × ℕ)
noted rows sent zero = []
noted rows sent (suc k) = (to_gossip (get_or rows k no_gossip), get_or sent k 0) ∷ noted rows sent k

-- the send counts of what is noted, the first one first
unfoldable pub counts : List (W.Gossip Addr × ℕ) → List ℕ
counts [] = []
counts (x ∷ l) = counts l ++ (x.1 ∷ [])

abbrev pub chosen_none : Chosen
chosen_none = record { rows = replicate 64 no_gossip; sent = replicate 64 0; count = 0; size = 0 }

abbrev pub chosen_view : Chosen → List (W.Gossip Addr)
chosen_view n = map to_gossip (take n.count n.rows)

abbrev pub choice_view : Choice → M.Choice Addr
choice_view c =
    record {
      alive = heap_view c.alive;
      deceased = heap_view c.deceased;
      chosen = chosen_view c.chosen;
      noted = noted c.chosen.rows c.chosen.sent c.chosen.count;
      from-alive = c.from_alive;
      from-deceased = c.from_deceased;
      size = c.chosen.size;
    }

abbrev pub pack_choice : M.Choice Addr → Choice
pack_choice m =
    record {
      alive = pack_heap m.alive;
      deceased = pack_heap m.deceased;
      chosen = record {
        rows = pad_to 64 no_gossip (map from_gossip m.chosen);
        sent = pad_to 64 0 (counts m.noted);
        count = length m.chosen;
        size = m.size;
      };
      from_alive = m.from-alive;
      from_deceased = m.from-deceased;
    }

-- the rows hold count gossips and their send counts, and every place behind them is unused
pub record PackedChosen (n : Chosen) : Type 0 where
  pub few : n.count ≤ 64
  pub rows : n.rows ≡ pad_to 64 no_gossip (take n.count n.rows)
  pub sent : n.sent ≡ pad_to 64 0 (take n.count n.sent)

-- one more is chosen: a gossip, noted with a send count, of a size
pub record NotedOne (n : Chosen) (g : W.Gossip Addr) (s z : ℕ) (r : Chosen) : Type 0 where
  pub packed : PackedChosen r
  pub chosen : chosen_view r ≡ chosen_view n ++ (g ∷ [])
  pub noted : noted r.rows r.sent r.count ≡ (g, s) ∷ noted n.rows n.sent n.count
  pub size : r.size ≡ n.size + z

-- the first entry of a heap's row
abbrev pub top_of : Heap → Entry
top_of h = get_or h.entries 0 no_entry

-- an entry finds room among what is chosen
abbrev pub Room : Chosen → Entry → Type 0
Room n e = PackedChosen n × (n.count < 64) × (n.size ≤ greatest_size) × (e.size ≤ greatest_size) × (e.sends ≤ 22)

-- an entry is chosen with one send more, where it is given
abbrev pub NotedIf : Bool → Chosen → Entry → Chosen → Type 0
NotedIf false n e r = r ≡ n
NotedIf true n e r = NotedOne n (to_gossip e.gossip) (e.sends + 1) e.size r

-- what a try asks for: the heap's top is an entry as a good heap holds them, and what is chosen fits, 18 bytes each at least
pub record Open (t : Terms) (h : Heap) (n : Chosen) : Type 0 where
  pub heap : Packed h
  pub top : 0 < h.len → (18 ≤ (top_of h).size) × ((top_of h).size ≤ 111) × ((top_of h).sends ≤ 22)
  pub chosen : PackedChosen n
  pub counted : 18 * n.count ≤ n.size
  pub fits : n.size ≤ t.max_size
  pub size : t.max_size ≤ greatest_size

-- what holds of a choosing at each step: good heaps, and chosen gossip that fits, 18 bytes each at least
pub record Kept (t : M.Terms) (m : M.Choice Addr) : Type 0 where
  pub heaps : GoodHeaps here m
  pub within : Within here 18 t m
  pub living : m.from-alive ≤ length m.chosen
  pub dead : m.from-deceased ≤ length m.chosen

pub record Ready (t : Terms) (c : Choice) : Type 0 where
  pub alive : Packed c.alive
  pub deceased : Packed c.deceased
  pub chosen : PackedChosen c.chosen
  pub size : t.max_size ≤ greatest_size
  pub limit : t.limit ≤ 23
  pub kept : Kept (to_terms t) (choice_view c)
