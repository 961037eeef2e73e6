-- A saved list in bytes: "the mark MBR, a 16-bit version 1, own address in 8 bytes, count in one byte, for each address in probing order 8 bytes of address, one of
-- state (0 Alive, 1 Pending, 2 Suspected) and 8 of number, then the position in one byte. Numbers have the high byte first." The layout stands here once, for any type of address
-- and its bytes, which is all that another version changes; what a list's image is, what is read from bytes, and which fields are in rule.
-- Assumes nothing.
use Rattle.std.specs.Prelude.{Bool, ◌&&◌, List, [], map, ℕ, ◌+◌, ◌*◌, length, eqb, leb}
use Rattle.model.specs.declared.State.{State}
use Rattle.model.specs.declared.State.TheVariants.{Alive, Pending, Suspected}
use Rattle.model.specs.Rows.{pick, every}
use Rattle.model.specs.Bounds.{list_places}
use Rattle.model.specs.Words.{Address, Member}
use Rattle.model.specs.Sound.{distinct, positioned}
use Rattle.numbers.specs.Codec.{Codec, number, And, both, many}

-- "the mark MBR", as the number that its three bytes say
abbrev pub mark : ℕ
mark = 5063250

-- a version: its number, and the bytes of an address
pub record Form (A : Type 0) : Type 0 where
  pub version : ℕ
  pub address : Codec A

-- mark and version, as the number that their five bytes say
abbrev pub opening : {A : Type 0} → Form A → ℕ
opening f = mark * 65536 + f.version

-- what the fields hold: mark with version, own address, count; of each place address, state, number; the position
abbrev pub Head : Type 0 → Type 0
Head A = And ℕ (And A ℕ)

abbrev pub Entry : Type 0 → Type 0
Entry A = And A (And ℕ ℕ)

abbrev pub Image : Type 0 → Type 0
Image A = And (Head A) (And (List (Entry A)) ℕ)

-- the layout
module _ {A : Type 0} (f : Form A) where
  abbrev pub head : Codec (Head A)
  head = both (number 5) (both f.address (number 1))

  abbrev pub entry : Codec (Entry A)
  entry = both f.address (both (number 1) (number 8))

  abbrev pub layout : ℕ → Codec (Image A)
  layout n = both head (both (many entry n) (number 1))

-- the fields by their names
module _ {A : Type 0} where
  abbrev pub own_in : Image A → A
  own_in i = i.first.second.first

  abbrev pub entries_in : Image A → List (Entry A)
  entries_in i = i.second.first

  abbrev pub position_in : Image A → ℕ
  position_in i = i.second.second

  abbrev pub addr_in : Entry A → A
  addr_in e = e.first

  abbrev pub state_in : Entry A → ℕ
  state_in e = e.second.first

  abbrev pub number_in : Entry A → ℕ
  number_in e = e.second.second

-- "state (0 Alive, 1 Pending, 2 Suspected)"
unfoldable pub state_number : State → ℕ
state_number Alive = 0
state_number Pending = 1
state_number Suspected = 2

unfoldable pub state_of : ℕ → State
state_of n = pick (eqb n 0) Alive (pick (eqb n 1) Pending Suspected)

-- a list as it is saved: own address, the records in probing order, and the position
pub record Saved (A : Type 0) : Type 0 where
  pub own : A
  pub rows : List (Member A)
  pub position : ℕ

module _ {A : Type 0} where
  abbrev pub entry_of : Member A → Entry A
  entry_of m = record { first = m.addr; second = record { first = state_number m.state; second = m.number } }

  abbrev pub member_of : Entry A → Member A
  member_of e = record { addr = addr_in e; state = state_of (state_in e); number = number_in e }

  abbrev pub saved_of : Image A → Saved A
  saved_of i = record { own = own_in i; rows = map member_of (entries_in i); position = position_in i }

module _ {A : Type 0} (f : Form A) where
  abbrev pub fields_of : Saved A → Image A
  fields_of s =
      record {
        first = record { first = opening f; second = record { first = s.own; second = length s.rows } };
        second = record { first = map entry_of s.rows; second = s.position };
      }

  -- "One list has one image."
  unfoldable pub image : Saved A → List ℕ
  image s = (layout f (length s.rows)).put (fields_of s)

  -- the count as it stands
  unfoldable pub counted : List ℕ → ℕ
  counted bytes = ((head f).get bytes).second.second

  unfoldable pub fields : List ℕ → Image A
  fields bytes = (layout f (counted bytes)).get bytes

  -- "14 wrong mark or version or fewer than 5 bytes"
  unfoldable pub marked : List ℕ → Bool
  marked bytes = leb 5 (length bytes) && eqb ((number 5).get bytes) (opening f)

  -- "15 no count or a length not as it says"
  unfoldable pub sized : List ℕ → Bool
  sized bytes = leb (head f).width (length bytes) && eqb (length bytes) (layout f (counted bytes)).width

module _ {A : Type 0} (address : Address A) where
  abbrev pub state_in_rule : Entry A → Bool
  state_in_rule e = leb (state_in e) 2

  abbrev pub address_in_rule : Entry A → Bool
  address_in_rule e = address.valid (addr_in e)

  -- "16 a field or order out of rule": count over 64, an address out of range, a state over 2, a repeated address, a position not below the count (0 where it is 0)
  unfoldable pub in_rule : Image A → Bool
  in_rule i =
      leb (length (entries_in i)) list_places
      && address.valid (own_in i)
      && every state_in_rule (entries_in i)
      && every address_in_rule (entries_in i)
      && distinct address.same (map addr_in (entries_in i))
      && positioned (position_in i) (length (entries_in i))
