-- Sizes of gossip: from 2 × least + 6 to 2 × most + 17 where texts have from least to most characters.
-- Assumes nothing.
use Rattle.std.specs.Prelude.{◌≡◌, Bool, true, false, ℕ, zero, suc, ◌+◌, ◌*◌, ◌/◌, ◌≤◌, ◌<◌, eqb, ltb}
use Rattle.std.proofs.Math.Path.{refl}
use Rattle.std.proofs.Common.{arith}
use Rattle.model.specs.Rows.{pick}
use Rattle.model.specs.Words.{Address, Event, Nothing, Joined, Recovered, Suspected, Deceased, Gossip, Parts, parts_of}
use Rattle.model.specs.Size.{varint_from, varint_length, size_of_number, size_over, size_of}
use Rattle.address.specs.Here.{Addr, here, here_chars}

varint_few : (f n : ℕ) → varint_from f n ≤ f + 1
unfolding varint_from
varint_few zero n = omega arith
varint_few (suc f) n =
    elim (ltb n 128) as (λ u. elim u [ true ↦ 1 | false ↦ suc (varint_from f (n / 128)) ] ≤ suc f + 1) [
      | true ↦ omega arith
      | false ↦ omega (arith, varint_few f (n / 128))
    ]

pub number_size : (n : ℕ) → size_of_number n ≤ 11
unfolding size_of_number varint_length
number_size n =
    elim (eqb n 0) as (λ u. pick u 0 (1 + varint_from 9 n) ≤ 11) [
      | true ↦ omega arith
      | false ↦ omega (arith, varint_few 9 n)
    ]

pub size_over-least : (least f s n : ℕ) → least ≤ f → least ≤ s → 2 * least + 6 ≤ size_over f s n
unfolding size_over
size_over-least least f s n h k = omega arith

pub size_over-most : (most f s n : ℕ) → f ≤ most → s ≤ most → size_over f s n ≤ 2 * most + 17
unfolding size_over
size_over-most most f s n h k = omega (arith, number_size n)

module _ {A : Type 0} (address : Address A) where
  -- the size over the parts of the event: an event's kind is 1 to 4
  abbrev pub parts_size : Parts A → ℕ
  parts_size p = pick (eqb p.kind 0) 0 (size_over (address.chars p.from) (address.chars p.subject) p.number)

  pub size_by_parts : (g : Gossip A) → size_of address g ≡ parts_size (parts_of address g.event)
  unfolding size_of parts_of
  size_by_parts g = by g.event
    where
      by : (e : Event A) → size_of address (record { event = e }) ≡ parts_size (parts_of address e)
      by Nothing = refl
      by (Joined f s n) = refl
      by (Recovered f s n) = refl
      by (Suspected f s n) = refl
      by (Deceased f s n) = refl

-- "From 18 to 111."
pub size_over-here : (f s : Addr) (n : ℕ) → (18 ≤ size_over (here.chars f) (here.chars s) n) × (size_over (here.chars f) (here.chars s) n ≤ 111)
size_over-here f s n =
    let a = here_chars f in
    let b = here_chars s in
    (size_over-least 6 (here.chars f) (here.chars s) n a.0 b.0, size_over-most 47 (here.chars f) (here.chars s) n a.1 b.1)
