-- A gossip laid down: by the parts of its event, the key, the count and the event.
-- Assumes nothing.
use mathlib.Core.Path.{◌≡◌, refl, ap, sym, ◌∙◌, subst}
use mathlib.Core.Bool.{Bool}
use mathlib.Core.List.{List, [], ◌++◌}
use Prim.Native.Nat.{ℕ, ◌+◌, ◌-◌, ◌*◌, ◌^◌, ◌≤◌, ◌<◌}
use native.Mathlib.Omega.{arith}
use lib.Dec.{eqb, lit≤}
use lib.ListN.{length}
use borrow.Author.Tests.{eq-eqb, ne_eqb}
use Rattle.model.specs.Rows.{pick}
use Rattle.model.specs.Words.{parts_of}
use Rattle.model.specs.Size.{size_of}
use Rattle.types.specs.declared.Event.{Event}
use Rattle.types.specs.declared.Event.TheVariants.{Nothing, Joined, Recovered, Suspected, Deceased}
use Rattle.types.specs.declared.Gossip.{Gossip}
use Rattle.types.specs.declared.Parts.{Parts}
use Rattle.types.specs.Views.{to_event, to_gossip, from_parts}
use Rattle.address.specs.Here.{here, here_text as text}
use Rattle.types.specs.Wire.{varint, varint-one, tag, delimited, event_bytes}
use Rattle.types.specs.TextWire.{here_size}
use Rattle.varint.specs.Laid.{Laid, Room, laid_none, laid_then, laid_as, room-first, room_then}
use Rattle.fields.specs.FieldLaws.{delimited-long}
use Rattle.events.specs.Back.{kind}
use Rattle.gossips.specs.Gossip.{gossip_bytes_of}
use Rattle.gossips.specs.Back.{kinds_small, gossip-long}

abbrev inside : Parts → List ℕ
inside p = event_bytes (kind 1) (text p.from) (text p.subject) p.number

abbrev parts_bytes : Parts → List ℕ
parts_bytes p = pick (eqb p.kind 0) [] (delimited p.kind (inside p))

abbrev parts_in : Event → Parts
parts_in e = from_parts (parts_of here (to_event e))

by-event : (e : Event) → gossip_bytes_of (record { event = e }) ≡ parts_bytes (parts_in e)
unfolding gossip_bytes_of parts_of
by-event Nothing = refl
by-event (Joined f s n) = refl
by-event (Recovered f s n) = refl
by-event (Suspected f s n) = refl
by-event (Deceased f s n) = refl

kind_of : (e : Event) → (parts_in e).kind ≤ 4
unfolding parts_of
kind_of Nothing = lit≤ tt
kind_of (Joined f s n) = lit≤ tt
kind_of (Recovered f s n) = lit≤ tt
kind_of (Suspected f s n) = lit≤ tt
kind_of (Deceased f s n) = lit≤ tt

size-of : (e : Event) → (parts_in e).number < 2 ^ 64 → size_of here (to_gossip (record { event = e })) ≡ length (parts_bytes (parts_in e))
unfolding size_of parts_of
size-of Nothing h = refl
size-of (Joined f s n) h = sym (here_size (kind 1) f s n (kinds_small 1 (lit≤ tt)) h)
size-of (Recovered f s n) h = sym (here_size (kind 2) f s n (kinds_small 2 (lit≤ tt)) h)
size-of (Suspected f s n) h = sym (here_size (kind 3) f s n (kinds_small 3 (lit≤ tt)) h)
size-of (Deceased f s n) h = sym (here_size (kind 4) f s n (kinds_small 4 (lit≤ tt)) h)

module _ (g : Gossip) (p : Parts) (e : p ≡ parts_in g.event) where
  by_parts : gossip_bytes_of g ≡ parts_bytes p
  by_parts = by-event g.event ∙ ap parts_bytes (sym e)

  pub kind-small : p.kind ≤ 4
  kind-small = subst (λ (q : Parts). q.kind ≤ 4) (sym e) (kind_of g.event)

  pub none-long : p.kind ≡ 0 → 0 ≡ length (gossip_bytes_of g)
  none-long k = let z : gossip_bytes_of g ≡ [] = by_parts ∙ simp (eq-eqb p.kind 0 k) in ap (λ (l : List ℕ). length l) (sym z)

  pub none-laid : (row : List ℕ) (at : ℕ) → p.kind ≡ 0 → Laid row at (gossip_bytes_of g) row at
  none-laid row at k = laid_as [] (gossip_bytes_of g) (sym (by_parts ∙ simp (eq-eqb p.kind 0 k))) (laid_none row at)

  module _ (k : p.kind ≡ 0 → ⊥) where
    some_is : gossip_bytes_of g ≡ delimited p.kind (inside p)
    some_is = by_parts ∙ simp (ne_eqb p.kind 0 k)

    pub some-long : (size : ℕ) → size ≡ size_of here (to_gossip g) → p.number < 2 ^ 64 → size ≡ length (gossip_bytes_of g)
    some-long size z n =
        z ∙ size-of g.event (subst (λ (q : Parts). q.number < 2 ^ 64) e n)
        ∙ ap (λ (q : Parts). length (parts_bytes q)) (sym e)
        ∙ ap (λ (l : List ℕ). length l) (sym by_parts)

    pub key_room : {row : List ℕ} {at : ℕ} → Room row at (gossip_bytes_of g) → Room row at (tag p.kind 2)
    key_room {row} {at} h = room-first (tag p.kind 2) (varint (length (inside p)) ++ inside p) (subst (Room row at) some_is h)

    module _ (size : ℕ) (z : size ≡ size_of here (to_gossip g)) (n : p.number < 2 ^ 64) where
      size_is : size ≡ length (delimited p.kind (inside p))
      size_is =
          z ∙ size-of g.event (subst (λ (q : Parts). q.number < 2 ^ 64) e n)
          ∙ ap (λ (q : Parts). length (parts_bytes q)) (sym e)
          ∙ ap (λ (u : Bool). length {A = ℕ} (pick u [] (delimited p.kind (inside p)))) (ne_eqb p.kind 0 k)

      pub count_is : size ≡ 2 + length (inside p)
      count_is =
          let s : length (delimited p.kind (inside p)) < 128 = gossip-long p.kind p.from p.subject p.number kind-small n in
          let d = delimited-long p.kind (inside p) in
          let small : length (inside p) < 128 = omega arith in
          let key : p.kind * 8 + 2 < 128 = omega (arith, kind-small) in
          omega (arith, size_is, varint-one (p.kind * 8 + 2) key, varint-one (length (inside p)) small)

      count : size - 2 ≡ length (inside p)
      count = omega (arith, count_is)

      module _ {row row₁ : List ℕ} {at n₁ : ℕ} (h : Room row at (gossip_bytes_of g)) (f₁ : Laid row at (tag p.kind 2) row₁ n₁) where
        behind : Room row₁ n₁ (varint (size - 2) ++ inside p)
        behind =
            subst (λ (c : ℕ). Room row₁ n₁ (varint c ++ inside p)) (sym count)
            (room_then (tag p.kind 2) (varint (length (inside p)) ++ inside p) f₁ (subst (Room row at) some_is h))

        pub count_room : Room row₁ n₁ (varint (size - 2))
        count_room = room-first (varint (size - 2)) (inside p) behind

        module _ {row₂ : List ℕ} {n₂ : ℕ} (f₂ : Laid row₁ n₁ (varint (size - 2)) row₂ n₂) where
          pub event-room : Room row₂ n₂ (inside p)
          event-room = room_then (varint (size - 2)) (inside p) f₂ behind

          pub gossip-laid : {row₃ : List ℕ} {n₃ : ℕ} → Laid row₂ n₂ (inside p) row₃ n₃ → Laid row at (gossip_bytes_of g) row₃ n₃
          gossip-laid f₃ =
              laid_as (tag p.kind 2 ++ (varint (size - 2) ++ inside p)) (gossip_bytes_of g)
              (ap (λ (c : ℕ). tag p.kind 2 ++ (varint c ++ inside p)) count ∙ sym some_is)
              (laid_then f₁ (laid_then f₂ f₃))
