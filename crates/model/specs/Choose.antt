-- "Choosing gossip": what goes out with a message.
-- Assumes nothing.
use Rattle.std.specs.Prelude.{Bool, true, false, ◌&&◌, ◌||◌, List, [], ◌∷◌, ◌++◌, ℕ, zero, suc, ◌+◌, ◌-◌, ◌/◌, eqb, ltb, leb}
use Rattle.std.proofs.Math.Option.{Option, none, some}
use Rattle.model.specs.Rows.{pick, is_empty}
use Rattle.model.specs.Bounds.{message_records}
use Rattle.model.specs.Words.{Address, Event, Nothing, Joined, Recovered, Suspected, Deceased, Gossip, Entry, unused, sends_of, same_gossip}
use Rattle.model.specs.Size.{size_of}
use Rattle.model.specs.Heap.{sink_top, remove_top}

-- what bounds one choosing: both shares, the size, and the limit of sends
pub record Terms : Type 0 where
  pub alive_share : ℕ
  pub deceased_share : ℕ
  pub max_size : ℕ
  pub limit : ℕ

-- "Shares: alive ⌈max_selected/2⌉, deceased the rest."
unfoldable pub terms_of : ℕ → ℕ → ℕ → Terms
terms_of max-selected max_size limit =
    record {
      alive_share = (max-selected + 1) / 2;
      deceased_share = max-selected - (max-selected + 1) / 2;
      max_size = max_size;
      limit = limit;
    }

module _ (A : Type 0) where
  -- how far a choosing has come; `noted` holds each taken gossip with its new send count
  pub record Choice : Type 0 where
    pub alive : List (Entry A)
    pub deceased : List (Entry A)
    pub chosen : List (Gossip A)
    pub noted : List (Gossip A × ℕ)
    pub from-alive : ℕ
    pub from-deceased : ℕ
    pub size : ℕ

  -- what one try at a heap gives
  pub record Taken : Type 0 where
    pub heap : List (Entry A)
    pub gossip : Gossip A
    pub sends : ℕ
    pub size : ℕ

module _ {A : Type 0} (address : Address A) where
  -- "an equal gossip with the same send count was noted in this call"
  unfoldable pub was_noted : Gossip A → ℕ → List (Gossip A × ℕ) → Bool
  was_noted g n [] = false
  was_noted g n (x ∷ l) = pick (same_gossip address g x.0 && eqb n x.1) true (was_noted g n l)

  -- "Taken: sends + 1, noted, removed if sends ≥ limit, else sunk."
  unfoldable pub take_top : ℕ → Entry A → List (Entry A) → Taken A
  take_top limit e heap =
      record {
        heap =
            pick (leb limit (e.sends + 1))
            (remove_top unused sends_of heap)
            (sink_top unused sends_of heap (record { gossip = e.gossip; sends = e.sends + 1; size = e.size }));
        gossip = e.gossip;
        sends = e.sends + 1;
        size = e.size;
      }

  -- "A top entry is taken unless its size would pass max_size or an equal gossip with the same send count was noted in this call."
  unfoldable pub try_heap : Terms → ℕ → List (Gossip A × ℕ) → List (Entry A) → Option (Taken A)
  try_heap t size noted [] = none
  try_heap t size noted (e ∷ es) =
      pick (ltb t.max_size (size + e.size) || was_noted e.gossip e.sends noted)
      none
      (some (take_top t.limit e (e ∷ es)))

  abbrev pub after_alive : Choice A → Option (Taken A) → Choice A
  after_alive c none = c
  after_alive c (some k) =
      record {
        alive = k.heap;
        deceased = c.deceased;
        chosen = c.chosen ++ (k.gossip ∷ []);
        noted = (k.gossip, k.sends) ∷ c.noted;
        from-alive = c.from-alive + 1;
        from-deceased = c.from-deceased;
        size = c.size + k.size;
      }

  abbrev pub after_deceased : Choice A → Option (Taken A) → Choice A
  after_deceased c none = c
  after_deceased c (some k) =
      record {
        alive = c.alive;
        deceased = k.heap;
        chosen = c.chosen ++ (k.gossip ∷ []);
        noted = (k.gossip, k.sends) ∷ c.noted;
        from-alive = c.from-alive;
        from-deceased = c.from-deceased + 1;
        size = c.size + k.size;
      }

  abbrev pub gave : {B : Type 0} → Option B → Bool
  gave none = false
  gave (some b) = true

  unfoldable pub try_alive : Terms → Choice A → Option (Taken A)
  try_alive t c = try_heap t c.size c.noted c.alive

  unfoldable pub try_deceased : Terms → Choice A → Option (Taken A)
  try_deceased t c = try_heap t c.size c.noted c.deceased

  -- "stops if both heaps are empty or both counts have reached their shares"
  unfoldable pub over : Terms → Choice A → Bool
  over t c =
      (is_empty c.alive && is_empty c.deceased)
      || (leb t.alive_share c.from-alive && leb t.deceased_share c.from-deceased)

  -- "then it tries alive, then deceased; it stops if neither gave one": f rounds at most
  unfoldable pub rounds : ℕ → Terms → Choice A → Choice A
  rounds zero t c = c
  rounds (suc f) t c =
      elim (over t c) [
        | true ↦ c
        | false ↦
            let a = try_alive t c in
            let c₁ = after_alive c a in
            let b = try_deceased t c₁ in
            elim (gave a || gave b) [ true ↦ rounds f t (after_deceased c₁ b) | false ↦ c ]
      ]

  abbrev pub begin : List (Entry A) → List (Entry A) → Choice A
  begin alive deceased =
      record { alive = alive; deceased = deceased; chosen = []; noted = []; from-alive = 0; from-deceased = 0; size = 0 }

  -- each round but the last takes one at least, and a message has at most 64 records: 64 rounds are enough
  unfoldable pub choose : Terms → List (Entry A) → List (Entry A) → Choice A
  choose t alive deceased = rounds message_records t (begin alive deceased)

  -- "D is the number of the first matching entry in the deceased heap's array order."
  abbrev pub death_in : A → Event A → Option ℕ
  death_in a Nothing = none
  death_in a (Joined f s n) = none
  death_in a (Recovered f s n) = none
  death_in a (Suspected f s n) = none
  death_in a (Deceased f s n) = pick (address.same a s) (some n) none

  unfoldable pub or_else : Option ℕ → Option ℕ → Option ℕ
  or_else none y = y
  or_else (some n) y = some n

  unfoldable pub death : A → List (Entry A) → Option ℕ
  death a [] = none
  death a (e ∷ es) = or_else (death_in a e.gossip.event) (death a es)

  -- a gossip as it comes into a heap: not sent yet, with its size
  abbrev pub entry_of : Gossip A → Entry A
  entry_of g = record { gossip = g; sends = 0; size = size_of address g }
