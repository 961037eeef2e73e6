-- "Stop spreading old news": which held events a push outdates, and the alive heap without them.
-- Assumes nothing.
use Rattle.std.specs.Prelude.{Bool, not, ◌&&◌, List, [], ℕ, eqb, ltb, leb}
use Rattle.model.specs.declared.Kind.{Kind}
use Rattle.model.specs.declared.Kind.TheVariants as kind
use Rattle.model.specs.Rows.{pick, count, those}
use Rattle.model.specs.Words.{Address, Parts, Gossip, Entry, parts_of, unused, sends_of}
use Rattle.model.specs.Heap.{push_all}

-- "a push of an event about X .. with a lower number, and a push of a death takes those with a number no higher": by the heap that it goes to, its number and the held one
abbrev pub outdates : Kind → ℕ → ℕ → Bool
outdates kind.Alive n held = ltb held n
outdates kind.Deceased n held = leb held n

module _ {A : Type 0} (address : Address A) where
  -- does an event, by its parts, outdate a held one? "About X" is the subject, whoever it is from
  unfoldable pub is_old : Kind → Parts A → Entry A → Bool
  is_old k p e =
      let held = parts_of address e.gossip.event in
      address.same p.subject held.subject && outdates k p.number held.number

  -- "The number collected .. equals the count of held events that met the condition": a function of the heap alone, and 0 with the setting off
  unfoldable pub collects : Bool → Kind → Gossip A → List (Entry A) → ℕ
  collects on k g h = pick on (count (is_old k (parts_of address g.event)) h) 0

  -- "The others keep their sends; .. they are put, in array order, into an empty heap by 01's climb"
  unfoldable pub rebuilt : Kind → Gossip A → List (Entry A) → List (Entry A)
  rebuilt k g h = push_all unused sends_of [] (those (λ e. not (is_old k (parts_of address g.event) e)) h)

  -- "where any was taken": else the heap is as it was
  unfoldable pub cleared : Bool → Kind → Gossip A → List (Entry A) → List (Entry A)
  cleared on k g h = pick (eqb (collects on k g h) 0) h (rebuilt k g h)
