-- A protobuf message is a row of fields: a key, whose lowest three bits say what follows, and that.
-- Assumes nothing.
use Rattle.std.specs.Prelude.{List, ℕ, ◌+◌, ◌-◌, ◌/◌, ◌%◌, ◌^◌, eqb, ltb, leb, length, drop, take}
use Rattle.model.specs.Rows.{pick}
use Rattle.varint.specs.declared.Number.{Number}
use Rattle.varint.specs.declared.Number.TheVariants as number
use Rattle.varint.specs.Varint.{number_at}
use Rattle.fields.specs.declared.Field.{Field}
use Rattle.fields.specs.declared.Next.{Next}
use Rattle.fields.specs.declared.Next.TheVariants.{Stopped, Found}

-- a varint follows, after head bytes of key
unfoldable pub as_number : ℕ → ℕ → Number → Next
as_number head n number.Stopped = Stopped
as_number head n (number.Found value size) =
    Found (record { number = n; wire = 0; value = value; head = head; size = head + size })

-- a field that holds a number
unfoldable pub numbered : List ℕ → ℕ → ℕ → Next
numbered bytes head n = as_number head n (number_at (drop head bytes))

-- a count and as many bytes follow
unfoldable pub as_count : List ℕ → ℕ → ℕ → Number → Next
as_count bytes head n number.Stopped = Stopped
as_count bytes head n (number.Found value size) =
    pick (leb (head + size + value) (length bytes))
    (Found (record { number = n; wire = 2; value = value; head = head + size; size = head + size + value }))
    Stopped

-- a field that holds a count and as many bytes
unfoldable pub counted : List ℕ → ℕ → ℕ → Next
counted bytes head n = as_count bytes head n (number_at (drop head bytes))

-- four or eight bytes follow
unfoldable pub fixed : List ℕ → ℕ → ℕ → ℕ → ℕ → Next
fixed bytes head n wire width =
    pick (leb (head + width) (length bytes))
    (Found (record { number = n; wire = wire; value = 0; head = head; size = head + width }))
    Stopped

-- by the wire type: 0 a varint, 1 eight bytes, 2 a count and as many bytes, 5 four bytes; groups, 3 and 4, are refused, and there is no other
unfoldable pub by_wire : List ℕ → ℕ → ℕ → ℕ → Next
by_wire bytes head n wire =
    pick (eqb wire 0) (numbered bytes head n)
    (pick (eqb wire 1) (fixed bytes head n 1 8)
    (pick (eqb wire 2) (counted bytes head n)
    (pick (eqb wire 5) (fixed bytes head n 5 4)
    Stopped)))

-- a key is below 2^32, and no field has the number 0
unfoldable pub keyed : List ℕ → ℕ → ℕ → Next
keyed bytes key head =
    pick (ltb key (2 ^ 32)) (pick (eqb (key / 8) 0) Stopped (by_wire bytes head (key / 8) (key % 8))) Stopped

-- what follows the key, if there is one
unfoldable pub after_key : List ℕ → Number → Next
after_key bytes number.Stopped = Stopped
after_key bytes (number.Found key head) = keyed bytes key head

-- the field at the start of some bytes
unfoldable pub next_in : List ℕ → Next
next_in bytes = after_key bytes (number_at bytes)

-- the bytes that a field of wire type 2 holds
abbrev pub content : List ℕ → Field → List ℕ
content bytes f = take (f.size - f.head) (drop f.head bytes)
