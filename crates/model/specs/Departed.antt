-- "Remember the dead longer": beside the list a row of departed addresses, each with the greatest number seen at its removals, the oldest last removal first.
-- Assumes nothing.
use Rattle.std.specs.Prelude.{Bool, List, [], ◌∷◌, ◌++◌, map, ℕ, max, length, drop, leb}
use Rattle.std.proofs.Math.Option.{Option, none, some}
use Rattle.model.specs.Rows.{pick}
use Rattle.model.specs.Bounds.{departed_places}
use Rattle.model.specs.Words.{Address, Entry, Member, Departed}
use Rattle.model.specs.Choose.{or_else, death}
use Rattle.model.specs.Members.{held}

-- the addresses of a row
abbrev pub gone : {A : Type 0} → List (Departed A) → List A
gone r = map (λ d. d.addr) r

-- "with the greatest number seen": that of the row, where it has the address, and the new one
abbrev pub greatest : Option ℕ → ℕ → ℕ
greatest none n = n
greatest (some m) n = max m n

-- "When the row is full, the entry whose last removal is oldest makes room."
unfoldable pub make_room : {A : Type 0} → List (Departed A) → List (Departed A)
make_room r = pick (leb departed_places (length r)) (drop 1 r) r

module _ {A : Type 0} (same : A → A → Bool) where
  -- the number of an address that is in the row
  unfoldable pub look_up : A → List (Departed A) → Option ℕ
  look_up a [] = none
  look_up a (d ∷ r) = pick (same a d.addr) (some d.number) (look_up a r)

  -- the row without an address
  unfoldable pub without : A → List (Departed A) → List (Departed A)
  without a [] = []
  without a (d ∷ r) = pick (same a d.addr) r (d ∷ without a r)

  -- an address is removed at a number: it stands last. "a removal of one that is in the row moves it to the end with the greatest"
  unfoldable pub depart : A → ℕ → List (Departed A) → List (Departed A)
  depart a n r = make_room (without a r) ++ (record { addr = a; number = greatest (look_up a r) n } ∷ [])

  -- "the held number and the remover's number both counted"
  unfoldable pub departs : A → ℕ → List (Member A) → List (Departed A) → List (Departed A)
  departs a n t r = depart a (max (held same a t) n) r

module _ {A : Type 0} (address : Address A) where
  -- "As a second setting, D is taken from the row where it has the address, else from the heap."
  unfoldable pub death_of : Bool → A → List (Departed A) → List (Entry A) → Option ℕ
  death_of on a r h = or_else address (pick on (look_up address.same a r) none) (death address a h)
