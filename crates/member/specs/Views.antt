-- How the rows of a list carry the list of the rules, and the words of the contracts.
-- Assumes nothing.
use Rattle.std.specs.Prelude.{◌≡◌, Bool, List, [], ◌∷◌, map, ℕ, ◌-◌, ◌≤◌, length, take, drop}
use Rattle.model.specs.declared.State.TheVariants.{Alive}
use Rattle.model.specs.declared.Lamps.{Lamps}
use Rattle.model.specs.Rows.{pad_to}
use Rattle.model.specs.Answers.{Answer, done, refused}
use Rattle.address.specs.Here.{Addr, here}
use Rattle.model.specs.Words as words
use Rattle.model.specs.Members as list
use Rattle.model.specs.Lamps.{lamps_of}
use Rattle.laws_list.specs.Whole.{Whole}
use Rattle.laws_list.specs.Places.{place_of}
use Rattle.order.specs.declared.Exclusion.{Exclusion}
use Rattle.order.specs.Views.{drew_of, excluded, picked_row}
use Rattle.member.specs.declared.Member.{Member}
use Rattle.member.specs.declared.Members.{Members}
use Rattle.member.specs.declared.Standing.{Standing}
use Rattle.member.specs.declared.Kept.{Kept}
use Rattle.member.specs.declared.Picked.{Picked}

abbrev pub to_member : Member → words.Member Addr
to_member m = record { addr = m.addr; state = m.state; number = m.number }

abbrev pub from_member : words.Member Addr → Member
from_member m = record { addr = m.addr; state = m.state; number = m.number }

-- an unused place
abbrev pub nobody : Member
nobody = from_member (words.blank_member here)

abbrev pub addr_of : Member → Addr
addr_of m = m.addr

abbrev pub blank_address : Addr → Bool
blank_address a = here.same a here.blank

-- the list that the rows hold
unfoldable pub view_members : Members → list.Members Addr
view_members m = record { table = map to_member (take m.len m.table); order = take m.len m.order.row; position = m.order.position }

-- the rows that hold a list: every unused place is zero
unfoldable pub pack_with : Lamps → list.Members Addr → Members
pack_with lamps l =
    record {
      table = pad_to 64 nobody (map from_member l.table);
      len = length l.table;
      order = record { row = pad_to 64 here.blank l.order; position = l.position };
      lamps = lamps;
    }

-- and the three counts are those of the list, the own address left out
abbrev pub pack_members : Addr → list.Members Addr → Members
pack_members own l = pack_with (lamps_of here.same own l.table) l

-- "it lists that address Alive at place 0"
abbrev pub fresh_list : Addr → ℕ → list.Members Addr
fresh_list own number = record { table = record { addr = own; state = Alive; number = number } ∷ []; order = own ∷ []; position = 0 }

-- the rows hold len places, and zeros behind
pub record Packed (m : Members) : Type 0 where
  pub few : m.len ≤ 64
  pub table : m.table ≡ pad_to 64 nobody (take m.len m.table)
  pub order : m.order.row ≡ pad_to 64 here.blank (take m.len m.order.row)

-- what each function asks of a list: its rows are packed, and the list they hold is whole
pub record Held (m : Members) : Type 0 where
  pub packed : Packed m
  pub whole : Whole here.same (view_members m)

-- what each function that keeps the counts asks besides: they are those of the list, the own address left out
pub record Counted (own : Addr) (m : Members) : Type 0 where
  pub lamps : m.lamps ≡ lamps_of here.same own (view_members m).table

-- what the list says of an address
abbrev pub standing_of : Members → Addr → Standing
standing_of m a =
    let t = (view_members m).table in
    record {
      listed = list.listed here.same a t;
      place = place_of here.same a (list.addrs t);
      state = list.held_state here.same a t;
      number = list.held here.same a t;
    }

-- a rule's answer in rows: where it is refused the members are as they came
abbrev pub kept_members : Addr → Members → Answer (list.Members Addr) → Members
kept_members own m (refused r) = m
kept_members own m (done l rest) = pack_members own l

abbrev pub kept_as : Addr → Members → ℕ → Answer (list.Members Addr) → Kept
kept_as own m k x = record { members = kept_members own m x; drew = drew_of k x }

abbrev pub added_of : Addr → Members → Addr → ℕ → List ℕ → ℕ → Kept
added_of own m a number draws from = kept_as own m (length draws - from) (list.add here.same a number (view_members m) (drop from draws))

-- an advance moves the order alone
abbrev pub turned_members : Members → Answer (list.Members Addr) → Members
turned_members m (refused r) = m
turned_members m (done l rest) = pack_with m.lamps l

abbrev pub turned_as : Members → ℕ → Answer (list.Members Addr) → Kept
turned_as m k x = record { members = turned_members m x; drew = drew_of k x }

abbrev pub advanced_of : Members → List ℕ → ℕ → Kept
advanced_of m draws from = turned_as m (length draws - from) (list.advance here.blank (view_members m) (drop from draws))

abbrev pub picked_members : Addr → Members → Answer (list.Picked Addr) → Members
picked_members own m (refused r) = m
picked_members own m (done p rest) = pack_members own p.members

abbrev pub picked_as : Addr → Members → ℕ → Answer (list.Picked Addr) → Picked
picked_as own m k x = record { members = picked_members own m x; picks = picked_row x; drew = drew_of k x }

abbrev pub picked_of : Members → Addr → Exclusion → ℕ → List ℕ → ℕ → Picked
picked_of m own e wanted draws from =
    picked_as own m (length draws - from)
    (list.pick_from here.same here.blank own (excluded e) wanted (view_members m) (drop from draws))
