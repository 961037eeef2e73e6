-- "Size of a gossip", over the lengths of its texts.
-- Assumes nothing.
use Rattle.std.specs.Prelude.{true, false, ℕ, zero, suc, ◌+◌, ◌/◌, eqb, ltb}
use Rattle.model.specs.Rows.{pick}
use Rattle.model.specs.Words.{Address, Event, Nothing, Joined, Recovered, Suspected, Deceased, Gossip}

-- the bytes of a number as a varint: seven bits a byte, f bytes more at most
unfoldable pub varint_from : ℕ → ℕ → ℕ
varint_from zero n = 1
varint_from (suc f) n = elim (ltb n 128) [ true ↦ 1 | false ↦ suc (varint_from f (n / 128)) ]

-- a number below 2^64 has at most ten
unfoldable pub varint_length : ℕ → ℕ
varint_length n = varint_from 9 n

-- "plus, if the incarnation isn't 0, 1 + its varint length"
unfoldable pub size_of_number : ℕ → ℕ
size_of_number n = pick (eqb n 0) 0 (1 + varint_length n)

-- "2, plus 2 + text length for each of its two addresses, plus, if the incarnation isn't 0, 1 + its varint length"
unfoldable pub size_over : ℕ → ℕ → ℕ → ℕ
size_over from subject n = 2 + (2 + from) + (2 + subject) + size_of_number n

-- the size of a gossip; one of no event has no bytes
unfoldable pub size_of : {A : Type 0} → Address A → Gossip A → ℕ
size_of {A} address g = event g.event
  where
    event : Event A → ℕ
    event Nothing = 0
    event (Joined f s n) = size_over (address.chars f) (address.chars s) n
    event (Recovered f s n) = size_over (address.chars f) (address.chars s) n
    event (Suspected f s n) = size_over (address.chars f) (address.chars s) n
    event (Deceased f s n) = size_over (address.chars f) (address.chars s) n
