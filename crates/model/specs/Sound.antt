-- "Sound": each clause of the scope's paragraph, as a test that computes.
-- Assumes nothing.
use Rattle.std.specs.Prelude.{Bool, true, not, ◌&&◌, List, [], ◌∷◌, ℕ, take, drop, eqb, ltb, leb}
use Rattle.model.specs.declared.Settings.{Settings}
use Rattle.model.specs.declared.Lamps.{Lamps}
use Rattle.model.specs.declared.Kind.{Kind}
use Rattle.model.specs.declared.Kind.TheVariants as kind
use Rattle.model.specs.Rows.{pick, every, is_empty, has, erase}
use Rattle.model.specs.Bounds.{list_places, heap_places, timer_places, departed_places, most_sends, wait_end, most_group, most_constant, most_selected, least_size, greatest_size}
use Rattle.model.specs.Words.{Address, is_alive, parts_of, Gossip, Entry, unused, sends_of, Member, Timer, Departed}
use Rattle.model.specs.Size.{size_of}
use Rattle.model.specs.Heap.{stands_in_order}
use Rattle.model.specs.Members.{addrs}
use Rattle.model.specs.Departed.{gone}
use Rattle.model.specs.Lamps.{lamps_of, same_lamps}
use Rattle.model.specs.Node.{Row, Stored, used_places}

-- "Settings: four waits below 2^31 ticks, group 0 to 4, send constant 0 to 8, max_selected 1 to 64, max_size 111 to 1169."
unfoldable pub in_range : Settings → Bool
in_range c =
    ltb c.ping_interval wait_end
    && ltb c.ping_timeout wait_end
    && ltb c.ping_req_timeout wait_end
    && ltb c.suspect_timeout wait_end
    && leb c.ping_req_group_size most_group
    && leb c.send_constant most_constant
    && leb 1 c.max_selected
    && leb c.max_selected most_selected
    && leb least_size c.max_size
    && leb c.max_size greatest_size

module _ {A : Type 0} (same : A → A → Bool) where
  -- "listed addresses distinct"
  abbrev pub distinct : List A → Bool
  distinct [] = true
  distinct (x ∷ l) = not (has same x l) && distinct l

  -- "the order a permutation of them"
  abbrev pub permutes : List A → List A → Bool
  permutes [] t = is_empty t
  permutes (x ∷ o) t = has same x t && permutes o (erase same x t)

-- "position below the length, or 0 if empty"
unfoldable pub positioned : ℕ → ℕ → Bool
positioned p len = pick (eqb len 0) (eqb p 0) (ltb p len)

-- which events a heap holds: 1 to 3 the alive heap, 4 the deceased heap
abbrev pub of_kind : Kind → ℕ → Bool
of_kind kind.Alive k = leb 1 k && leb k 3
of_kind kind.Deceased k = eqb k 4

module _ {A : Type 0} (address : Address A) where
  -- "addresses below 2^48", in a gossip record: one of no event holds none
  unfoldable pub valid_gossip : Gossip A → Bool
  valid_gossip g =
      pick (eqb (parts_of address g.event).kind 0)
      true
      (address.valid (parts_of address g.event).from && address.valid (parts_of address g.event).subject)

  -- "its events of its kind, sizes right, sends at most 22; addresses below 2^48"
  unfoldable pub sound_entry : Kind → Entry A → Bool
  sound_entry k e =
      of_kind k (parts_of address e.gossip.event).kind
      && eqb e.size (size_of address e.gossip)
      && leb e.sends most_sends
      && valid_gossip e.gossip

  abbrev pub is_unused : Entry A → Bool
  is_unused e = eqb (parts_of address e.gossip.event).kind 0 && eqb e.sends 0 && eqb e.size 0

  -- "each heap in heap order", its count in range and every unused place zero
  unfoldable pub sound_heap : Kind → Row (Entry A) → Bool
  sound_heap k h =
      leb h.used heap_places
      && every (sound_entry k) (used_places h)
      && stands_in_order unused sends_of (used_places h) h.used
      && every is_unused (drop h.used h.places)

  abbrev pub is_no_member : Member A → Bool
  is_no_member m = address.same m.addr address.blank && is_alive m.state && eqb m.number 0

  -- the list and the order: counts, distinct, a permutation, the position, addresses, and every unused place zero
  unfoldable pub sound_rows : List (Member A) → List A → ℕ → ℕ → Bool
  sound_rows table order n position =
      leb n list_places
      && distinct address.same (addrs (take n table))
      && permutes address.same (take n order) (addrs (take n table))
      && positioned position n
      && every address.valid (addrs (take n table))
      && every is_no_member (drop n table)
      && every (λ a. address.same a address.blank) (drop n order)

  -- and "the three counts" are those of the list
  unfoldable pub sound_members : A → List (Member A) → List A → ℕ → ℕ → Lamps → Bool
  sound_members own table order n position lamps = sound_rows table order n position && same_lamps lamps (lamps_of address.same own (take n table))

  abbrev pub is_no_timer : Timer A → Bool
  is_no_timer t = address.same t.addr address.blank && eqb t.number 0 && eqb t.since 0

  unfoldable pub sound_timers : Row (Timer A) → Bool
  sound_timers r =
      leb r.used timer_places
      && every (λ t. address.valid t.addr) (used_places r)
      && every is_no_timer (drop r.used r.places)

  abbrev pub is_no_departed : Departed A → Bool
  is_no_departed d = address.same d.addr address.blank && eqb d.number 0

  -- "in a sound node its addresses are distinct", in range, and every unused place is zero; the order by time "isn't checked"
  unfoldable pub sound_departed : Row (Departed A) → Bool
  sound_departed r =
      leb r.used departed_places
      && distinct address.same (gone (used_places r))
      && every address.valid (gone (used_places r))
      && every is_no_departed (drop r.used r.places)

  -- "Sound": the handed node passes every clause
  unfoldable pub sound : Stored A → Bool
  sound s =
      in_range s.settings
      && address.valid s.own
      && sound_members s.own s.table s.order s.listed s.position s.lamps
      && sound_heap kind.Alive s.alive
      && sound_heap kind.Deceased s.deceased
      && sound_timers s.timers
      && sound_departed s.departed
