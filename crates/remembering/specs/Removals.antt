-- "The row is exactly what the history of removals says under that rule": the removals of a history, and the row by them alone.
-- Assumes nothing.
use Rattle.std.specs.Prelude.{Bool, not, ◌&&◌, List, [], ◌∷◌, ◌++◌, ℕ, max, leb}
use Rattle.model.specs.Rows.{pick, has}
use Rattle.model.specs.Words.{Address, is_alive, Event, Nothing, Joined, Recovered, Suspected, Deceased, Departed}
use Rattle.model.specs.Departed.{gone, depart}
use Rattle.model.specs.Node.{Node, lists, numbered, state_of}
use Rattle.history.specs.Moments.{Deed, Told, Sender, Added, Ended, Other, Moment}

module _ {A : Type 0} (address : Address A) where
  -- an address that was removed, "the held number and the remover's number both counted"
  abbrev pub removed : Bool → A → ℕ → Node A → List (Departed A)
  removed goes b n s = pick goes (record { addr = b; number = max (numbered address b s) n } ∷ []) []

  -- "Departures: Deceased gossip while listed with a number ≥ the held one; an ended timer while listed", "not Alive, and its number is no greater than the timer's"
  abbrev pub by_notice : Event A → Node A → List (Departed A)
  by_notice Nothing s = []
  by_notice (Joined f b n) s = []
  by_notice (Recovered f b n) s = []
  by_notice (Suspected f b n) s = []
  by_notice (Deceased f b n) s = removed (lists address b s && leb (numbered address b s) n) b n s

  -- the removal of a moment, if it is one: by what was asked and, of the replay, who is listed, at which number and in which state
  abbrev pub removal : Deed A → Node A → List (Departed A)
  removal (Told e) s = by_notice e s
  removal (Sender b) s = []
  removal (Added b n) s = []
  removal (Ended b n) s = removed (lists address b s && (not (is_alive (state_of address b s)) && leb (numbered address b s) n)) b n s
  removal Other s = []

  abbrev pub removals : List (Moment A) → List (Departed A)
  removals [] = []
  removals (m ∷ ms) = removal m.deed m.before ++ removals ms

-- the row after removals, one after the other: by themselves alone
abbrev pub row_by : {A : Type 0} → (A → A → Bool) → List (Departed A) → List (Departed A) → List (Departed A)
row_by same [] r = r
row_by same (x ∷ xs) r = row_by same xs (depart same x.addr x.number r)

-- "since the address last came into the row": the numbers of its removals, from the one that found it not in the row
abbrev pub since : {A : Type 0} → (A → A → Bool) → A → List (Departed A) → List (Departed A) → List ℕ → List ℕ
since same a [] r ns = ns
since same a (x ∷ xs) r ns =
    since same a xs (depart same x.addr x.number r)
    (pick (same a x.addr) (x.number ∷ pick (has same a (gone r)) ns []) ns)
