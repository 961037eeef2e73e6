-- The words of the contracts: what is written, and what is read.
-- Assumes nothing.
use Rattle.std.specs.Prelude.{Bool, ◌&&◌, List, [], ◌++◌, map, ℕ, ◌+◌, ◌*◌, leb, length, take, drop}
use Rattle.model.specs.Rows.{pick, every, pad_to}
use Rattle.address.specs.Here.{Addr, here}
use Rattle.model.specs.Words as words
use Rattle.model.specs.Members.{addrs}
use Rattle.model.specs.Sound.{distinct, positioned}
use Rattle.member.specs.declared.Member.{Member}
use Rattle.member.specs.Views.{to_member, from_member, nobody}
use Rattle.numbers.specs.Codec.{number, put_many}
use Rattle.image.specs.Image.{opening, head, entry, Entry, Image, addr_in, state_in, number_in, entry_of, member_of, state_in_rule, Saved, own_in, entries_in, position_in, marked, sized, fields, in_rule}
use Rattle.image.specs.Forms.{alike, needs_wide, form_in, in_version}
use Rattle.image.specs.Versions.{versions, version}
use Rattle.image.specs.declared.Written.{Written}
use Rattle.image.specs.declared.Written.TheVariants.{TooLong, Whole}
use Rattle.image.specs.declared.Verdict.{Verdict}
use Rattle.image.specs.declared.Verdict.TheVariants.{Accepted, WrongMark, WrongLength, OutOfRule}
use Rattle.image.specs.declared.Place.{Place}
use Rattle.image.specs.declared.Rows.{Rows}
use Rattle.image.specs.declared.Loaded.{Loaded}

-- what is written
abbrev pub address_bytes : Bool → Addr → List ℕ
address_bytes wide a = (version wide).address.put a

unfoldable pub member_bytes : Bool → words.Member Addr → List ℕ
member_bytes wide m = (entry (version wide)).put (entry_of m)

unfoldable pub members_bytes : Bool → List (words.Member Addr) → List ℕ
members_bytes wide l = put_many (entry (version wide)) (map entry_of l)

unfoldable pub head_bytes : Bool → Addr → ℕ → List ℕ
head_bytes wide own n = (head (version wide)).put (record { first = opening (version wide); second = record { first = own; second = n } })

-- the addresses of the first n of some rows
abbrev pub addresses_of : List Member → ℕ → List Addr
addresses_of rows n = addrs (map to_member (take n rows))

abbrev pub saved_as : Addr → List Member → ℕ → ℕ → Saved Addr
saved_as own rows n position = record { own = own; rows = map to_member (take n rows); position = position }

unfoldable pub written_of : List ℕ → List ℕ → Written
written_of bytes row = pick (leb (length bytes) (length row)) (Whole (length bytes)) TooLong

-- the row after it: refused, no place is touched, and places past the last stay as lent
unfoldable pub row_of : List ℕ → List ℕ → List ℕ
row_of bytes row = pick (leb (length bytes) (length row)) (bytes ++ drop (length bytes) row) row

-- what is read
abbrev pub place_of : Entry Addr → Place
place_of e = record { addr = addr_in e; state = state_in e; number = number_in e }

abbrev pub entry_in : Place → Entry Addr
entry_in p = record { first = p.addr; second = record { first = p.state; second = p.number } }

abbrev pub entry_at : Bool → List ℕ → ℕ → Entry Addr
entry_at wide bytes at = (entry (version wide)).get (drop at bytes)

abbrev pub read_member : Entry Addr → Member
read_member e = from_member (member_of e)

unfoldable pub rows_of : List (Entry Addr) → Rows
rows_of l = record { table = pad_to 64 nobody (map read_member l); order = pad_to 64 here.blank (map addr_in l); good = every (state_in_rule here) l }

-- where place i begins
abbrev pub place_standing : Bool → ℕ → ℕ
place_standing wide i = (head (version wide)).width + i * (entry (version wide)).width

-- 14 and 15
unfoldable pub opening_of : List ℕ → Verdict
opening_of bytes =
    let f = form_in versions bytes in
    pick (marked f bytes) (pick (sized f bytes) Accepted WrongLength) WrongMark

-- no list
abbrev pub nothing : Verdict → Loaded
nothing v = record { verdict = v; own = here.blank; table = pad_to 64 nobody []; order = pad_to 64 here.blank []; len = 0; position = 0 }

-- 16, of rows as they were read
unfoldable pub rows_in_rule : Bool → Addr → Rows → ℕ → ℕ → Bool
rows_in_rule wide own rows n position =
    here.valid own
    && rows.good
    && every here.valid (take n rows.order)
    && distinct here.same (take n rows.order)
    && positioned position n
    && alike wide (needs_wide versions own (addresses_of rows.table n))

unfoldable pub judged_of : Bool → Addr → Rows → ℕ → ℕ → Loaded
judged_of wide own rows n position =
    pick (rows_in_rule wide own rows n position)
    (record { verdict = Accepted; own = own; table = rows.table; order = rows.order; len = n; position = position })
    (nothing OutOfRule)

-- the list that the fields say, in rows
abbrev pub list_of : Image Addr → Loaded
list_of i =
    record {
      verdict = Accepted;
      own = own_in i;
      table = (rows_of (entries_in i)).table;
      order = (rows_of (entries_in i)).order;
      len = length (entries_in i);
      position = position_in i;
    }

unfoldable pub loaded_of : List ℕ → Loaded
loaded_of bytes =
    let f = form_in versions bytes in
    pick (marked f bytes)
    (pick (sized f bytes) (pick (in_rule here (fields f bytes) && in_version versions bytes) (list_of (fields f bytes)) (nothing OutOfRule)) (nothing WrongLength))
    (nothing WrongMark)
