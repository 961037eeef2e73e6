-- "List and order": the listed peers and the order in which they are probed.
-- Assumes nothing.
use Rattle.std.specs.Prelude.{Bool, true, false, List, [], ◌∷◌, ◌++◌, map, ℕ, zero, suc, ◌+◌, ◌-◌, ◌*◌, ◌%◌, min, max, length, get_or, eqb, leb}
use Rattle.std.proofs.Math.Option.{Option, none, some}
use Rattle.model.specs.declared.State.{State}
use Rattle.model.specs.declared.State.TheVariants.{Alive}
use Rattle.model.specs.declared.Refusal.TheVariants.{ListFull, DrawsShort}
use Rattle.model.specs.Rows.{pick, insert_at, swap, has, erase}
use Rattle.model.specs.Bounds.{list_places}
use Rattle.model.specs.Answers.{Answer, done, refused, and_then, when, draw}
use Rattle.model.specs.Words.{Member}

pub record Members (A : Type 0) : Type 0 where
  pub table : List (Member A)
  pub order : List A
  pub position : ℕ

abbrev pub addrs : {A : Type 0} → List (Member A) → List A
addrs t = map (λ m. m.addr) t

module _ {A : Type 0} (blank : A) where
  -- "for i from length − 1 down to 1 swap i with draw mod (i + 1)"
  abbrev pub shuffle_from : ℕ → List A → List ℕ → Answer (List A)
  shuffle_from zero l ds = done l ds
  shuffle_from (suc i) l [] = refused DrawsShort
  shuffle_from (suc i) l (d ∷ ds) = shuffle_from i (swap blank l (suc i) (d % suc (suc i))) ds

  unfoldable pub shuffle : List A → List ℕ → Answer (List A)
  shuffle l ds = shuffle_from (length l - 1) l ds

  -- "Advance: position + 1 mod length; on 0, shuffle"
  unfoldable pub advance : Members A → List ℕ → Answer (Members A)
  advance m ds =
      let next = (m.position + 1) % length m.order in
      when (eqb next 0)
      (and_then (shuffle m.order ds) λ o rest. done (record { table = m.table; order = o; position = next }) rest)
      (done (record { table = m.table; order = m.order; position = next }) ds)

module _ {A : Type 0} (same : A → A → Bool) where
  -- the table without the record of a
  abbrev pub strike : A → List (Member A) → List (Member A)
  strike a [] = []
  strike a (m ∷ t) = pick (same a m.addr) t (m ∷ strike a t)

  -- the record of m's address is m
  abbrev pub put : Member A → List (Member A) → List (Member A)
  put m [] = []
  put m (k ∷ t) = pick (same m.addr k.addr) (m ∷ t) (k ∷ put m t)

  abbrev pub listed : A → List (Member A) → Bool
  listed a t = has same a (addrs t)

  -- the held number and state of a listed address
  abbrev pub held : A → List (Member A) → ℕ
  held a [] = 0
  held a (m ∷ t) = pick (same a m.addr) m.number (held a t)

  abbrev pub held_state : A → List (Member A) → State
  held_state a [] = Alive
  held_state a (m ∷ t) = pick (same a m.addr) m.state (held_state a t)

  -- "Add: draw mod (length + 1) is the place; position unmoved; state Alive."
  unfoldable pub added : A → ℕ → ℕ → Members A → Members A
  added a n d m =
      record {
        table = m.table ++ (record { addr = a; state = Alive; number = n } ∷ []);
        order = insert_at m.order (d % suc (length m.order)) a;
        position = m.position;
      }

  -- refusals 7 and 8
  unfoldable pub add : A → ℕ → Members A → List ℕ → Answer (Members A)
  add a n m ds = when (leb list_places (length m.table)) (refused ListFull) (draw ds λ d rest. done (added a n d m) rest)

  -- "if position now equals the length, position − 1, but 0 on an emptied list"
  abbrev pub position_after : ℕ → ℕ → ℕ
  position_after p len = pick (eqb p len) (len - 1) p

  -- "Remove: close up"
  unfoldable pub remove : A → Members A → Members A
  remove a m =
      record {
        table = strike a m.table;
        order = erase same a m.order;
        position = position_after m.position (length (erase same a m.order));
      }

  -- "The list's update shall keep the larger of the held and the given number, and still take the given state."
  abbrev pub merged : Member A → List (Member A) → Member A
  merged k t = record { addr = k.addr; state = k.state; number = max (held k.addr t) k.number }

  -- "Update: replaces the record if listed."
  unfoldable pub update : Member A → Members A → Members A
  update k m = record { table = put (merged k m.table) m.table; order = m.order; position = m.position }

-- what a pick gives: the addresses, in the order in which they were picked, and the members after it
pub record Picked (A : Type 0) : Type 0 where
  pub picks : List A
  pub members : Members A

module _ {A : Type 0} (same : A → A → Bool) (blank own : A) where
  -- "own and excluded addresses are passed over"
  abbrev pub passed : Option A → A → Bool
  passed none x = same own x
  passed (some e) x = pick (same own x) true (same e x)

  -- looks that one pick may take: own and the excluded address, each once before the shuffle and once after it, and the one that is picked
  abbrev pub looks : Option A → ℕ
  looks none = 3
  looks (some e) = 5

  -- "wanted, capped at length − 1, or length − 2 with an exclusion, never below 0"
  abbrev pub cap : Option A → ℕ → ℕ → ℕ
  cap none wanted len = min wanted (len - 1)
  cap (some e) wanted len = min wanted (len - 2)

  -- "each look advances": f looks at most, which are enough on a sound list
  unfoldable pub seek : ℕ → Option A → ℕ → List A → Members A → List ℕ → Answer (Picked A)
  seek f e zero got m ds = done (record { picks = got; members = m }) ds
  seek zero e (suc k) got m ds = done (record { picks = got; members = m }) ds
  seek (suc f) e (suc k) got m ds =
      let x = get_or m.order m.position blank in
      and_then (advance blank m ds) λ m' rest.
      elim (passed e x) [
        | true ↦ seek f e (suc k) got m' rest
        | false ↦ seek f e k (got ++ (x ∷ [])) m' rest
      ]

  unfoldable pub pick_from : Option A → ℕ → Members A → List ℕ → Answer (Picked A)
  pick_from e wanted m ds =
      let k = cap e wanted (length m.order) in
      seek (looks e * k) e k [] m ds
