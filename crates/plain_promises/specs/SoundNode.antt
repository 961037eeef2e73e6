-- A SOUND NODE, in plain words: numbers and comparisons instead of the test's own clauses. Of every node whose rows are as long as their arrays, both ways.
-- Assumes nothing.
use Rattle.std.specs.Prelude.{◌≡◌, true, List, ℕ, ◌-◌, ◌/◌, ◌^◌, ◌≤◌, ◌<◌, length, get_or}
use Rattle.model.specs.declared.Settings.{Settings}
use Rattle.model.specs.declared.Kind.{Kind}
use Rattle.model.specs.declared.Kind.TheVariants as kind
use Rattle.model.specs.Words as W
use Rattle.model.specs.Size.{size_of}
use Rattle.model.specs.Members.{addrs}
use Rattle.model.specs.Node as M
use Rattle.laws_list.specs.Whole.{Whole}
use Rattle.laws_node.specs.Good.{GoodDeparted}
use Rattle.address.specs.Here.{Addr, here}
use Rattle.history.specs.Tells.{At}

-- four waits below 2^31, a group of at most 4, a send constant of at most 8, 1 to 64 records, 111 to 1169 bytes
pub record SettingsFit (c : Settings) : Type 0 where
  pub interval : c.ping_interval < 2 ^ 31
  pub ack : c.ping_timeout < 2 ^ 31
  pub request : c.ping_req_timeout < 2 ^ 31
  pub suspect : c.suspect_timeout < 2 ^ 31
  pub group : c.ping_req_group_size ≤ 4
  pub constant : c.send_constant ≤ 8
  pub some : 1 ≤ c.max_selected
  pub selected : c.max_selected ≤ 64
  pub least : 111 ≤ c.max_size
  pub most : c.max_size ≤ 1169

-- the events that a heap holds, both addresses in range
pub data HeldIn : Kind → W.Event Addr → Type 0 where
  joined : (from a : Addr) (n : ℕ) → here.valid from ≡ true → here.valid a ≡ true → HeldIn kind.Alive (W.Joined from a n)
  recovered : (from a : Addr) (n : ℕ) → here.valid from ≡ true → here.valid a ≡ true → HeldIn kind.Alive (W.Recovered from a n)
  suspected : (from a : Addr) (n : ℕ) → here.valid from ≡ true → here.valid a ≡ true → HeldIn kind.Alive (W.Suspected from a n)
  deceased : (from a : Addr) (n : ℕ) → here.valid from ≡ true → here.valid a ≡ true → HeldIn kind.Deceased (W.Deceased from a n)

pub record EntryFits (k : Kind) (e : W.Entry Addr) : Type 0 where
  pub event : HeldIn k e.gossip.event
  pub size : e.size ≡ size_of here e.gossip
  pub sends : e.sends ≤ 22

-- at most 128 entries, each of its kind, and none with fewer sends than the one above it
pub record HeapFits (k : Kind) (h : List (W.Entry Addr)) : Type 0 where
  pub few : length h ≤ 128
  pub entries : (i : ℕ) (e : W.Entry Addr) → At h i e → EntryFits k e
  pub order : (i : ℕ) → i < length h → (get_or h ((i - 1) / 2) W.unused).sends ≤ (get_or h i W.unused).sends

-- the node that the rows hold
pub record NodeFits (s : M.Node Addr) : Type 0 where
  pub settings : SettingsFit s.settings
  pub own : here.valid s.own ≡ true
  -- each listed address once in the table and once in the order, at most 64; the position is one of their places, or 0
  pub whole : Whole here.same s.members
  pub valid : (i : ℕ) (a : Addr) → At (addrs s.members.table) i a → here.valid a ≡ true
  pub alive : HeapFits kind.Alive s.disseminator.alive
  pub deceased : HeapFits kind.Deceased s.disseminator.deceased
  pub few : length s.timers ≤ 16
  pub timers : (i : ℕ) (t : W.Timer Addr) → At s.timers i t → here.valid t.addr ≡ true
  -- at most 128 that left, each once and in range
  pub departed : GoodDeparted here s.departed

-- the rows hold such a node, and nothing else: every place that isn't in use is zero, and the three counts are those of the list
pub record RowsFit (s : M.Stored Addr) : Type 0 where
  pub node : NodeFits (M.loaded s)
  pub rows : M.stored here (M.loaded s) ≡ s
