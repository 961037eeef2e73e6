-- Whatever a message's fields add to what is said, they take no fewer bytes for it: of one field, and of a walk.
-- Assumes nothing.
use Rattle.std.proofs.Math.Path.{◌≡◌, refl, subst}
use Rattle.std.proofs.Common.{ap, sym}
use Rattle.std.specs.Prelude.{Bool, true, false, eqb, ltb, leb, drop}
use mathlib.Core.List.{List, [], ◌∷◌}
use Prim.Native.Nat.{ℕ, zero, suc, ◌+◌, ◌*◌, ◌-◌, ◌/◌, ◌%◌, ◌^◌, ◌≤◌, ◌<◌}
use native.Mathlib.Omega.{arith}
use Rattle.std.proofs.Math.ListN.{length, length-drop}
use Rattle.model.specs.Rows.{pick}
use Rattle.types.specs.Wire.{varint-one, delimited}
use Rattle.varint.specs.declared.Number.{Number}
use Rattle.varint.specs.declared.Number.TheVariants as number
use Rattle.varint.specs.Varint.{number_at}
use Rattle.varint.specs.VarintLaws.{number_bounds}
use Rattle.varint.specs.Parts.{part-long}
use Rattle.fields.specs.declared.Field.{Field}
use Rattle.fields.specs.declared.Next.{Next}
use Rattle.fields.specs.declared.Next.TheVariants.{Stopped, Found}
use Rattle.fields.specs.Field.{as_number, numbered, as_count, counted, fixed, by_wire, keyed, after_key, next_in, content}
use Rattle.fields.specs.FieldLaws.{Lies, next_lies, delimited-long}
use Rattle.fields.specs.Walk.{Read, stopped, read, and_then, Step, walk_in, walk}
use Rattle.datagram_promises.specs.Lengths.{Octets}
use Rattle.datagram_promises.proofs.Lengths.{octets_drop, octets_take, long-more_for_more, long-sum, number-long}
use Rattle.datagram_promises.specs.Growth.{enclosed, Takes, Grows}

pub delimited_takes : (n : ℕ) (bytes : List ℕ) → n ≤ 15 → length (delimited n bytes) ≡ enclosed (length bytes)
delimited_takes n bytes h =
    let key : n * 8 + 2 < 128 = omega arith in
    let k = varint-one (n * 8 + 2) key in
    let d = delimited-long n bytes in
    omega arith

pub enclosed-more : (a b : ℕ) → a ≤ b → enclosed a ≤ enclosed b
enclosed-more a b h = let l = long-more_for_more a b h in omega arith

pub enclosed-sum : (a b c : ℕ) → c ≤ a + b → enclosed c ≤ enclosed a + enclosed b
enclosed-sum a b c h = let l = long-more_for_more c (a + b) h in let s = long-sum a b in omega arith

unfoldable Taking : Next → Type 0
Taking Stopped = Unit
Taking (Found f) = Takes f

taking_pick : (u : Bool) (x y : Next) → Taking x → Taking y → Taking (pick u x y)
taking_pick true x y p q = p
taking_pick false x y p q = q

module _ (bytes : List ℕ) (o : Octets bytes) (head n : ℕ) (h : 1 ≤ head) where
  takes_number : (r : Number) → number_at (drop head bytes) ≡ r → Taking (as_number head n r)
  unfolding Taking as_number
  takes_number number.Stopped e = tt
  takes_number (number.Found value size) e =
      let l = number-long (drop head bytes) (octets_drop head o) value size e in
      record { bytes = λ q. absurd (omega arith); number = λ q. omega arith }

  takes_count : (r : Number) → number_at (drop head bytes) ≡ r → Taking (as_count bytes head n r)
  unfolding Taking as_count
  takes_count number.Stopped e = tt
  takes_count (number.Found value size) e =
      let l = number-long (drop head bytes) (octets_drop head o) value size e in
      let s : head + size + value - (head + size) ≡ value = omega arith in
      taking_pick (leb (head + size + value) (length bytes)) _ Stopped
      (record {
        bytes = λ q. subst (λ (w : ℕ). enclosed w ≤ head + size + value) (sym s) (omega arith);
        number = λ q. absurd (omega arith);
      })
      tt

  takes_fixed : (wire width : ℕ) → (wire ≡ 2 → ⊥) → (wire ≡ 0 → ⊥) → Taking (fixed bytes head n wire width)
  unfolding Taking fixed
  takes_fixed wire width f g =
      taking_pick (leb (head + width) (length bytes)) _ Stopped (record { bytes = λ q. absurd (f q); number = λ q. absurd (g q) }) tt

  takes_wire : (wire : ℕ) → Taking (by_wire bytes head n wire)
  unfolding Taking by_wire numbered counted
  takes_wire wire =
      taking_pick (eqb wire 0) _ _ (takes_number (number_at (drop head bytes)) refl)
      (taking_pick (eqb wire 1) _ _ (takes_fixed 1 8 (λ q. omega arith) (λ q. omega arith))
      (taking_pick (eqb wire 2) _ _ (takes_count (number_at (drop head bytes)) refl)
      (taking_pick (eqb wire 5) _ _ (takes_fixed 5 4 (λ q. omega arith) (λ q. omega arith)) tt)))

takes_key : (bytes : List ℕ) → Octets bytes → (r : Number) → number_at bytes ≡ r → Taking (after_key bytes r)
unfolding Taking after_key keyed
takes_key bytes o number.Stopped e = tt
takes_key bytes o (number.Found key head) e =
    taking_pick (ltb key (2 ^ 32)) _ Stopped
    (taking_pick (eqb (key / 8) 0) Stopped _ tt (takes_wire bytes o head (key / 8) (number_bounds bytes key head e).some (key % 8))) tt

pub next_takes : (bytes : List ℕ) (f : Field) → Octets bytes → next_in bytes ≡ Found f → Takes f
unfolding Taking next_in
next_takes bytes f o e = subst Taking e (takes_key bytes o (number_at bytes) refl)

-- ---- a walk
module _ {S : Type 0} where
  pub same_read : (s t : S) → ◌≡◌ {A = Read S} (read s) (read t) → s ≡ t
  same_read s t e = cc

  pub not_stopped : {B : Type 0} (p : ℕ) (s : S) → ◌≡◌ {A = Read S} (stopped p) (read s) → B
  not_stopped p s e = let z : ◌≡◌ {A = ℕ} 0 1 = cc in absurd (omega arith)

  -- what was read by one half and then by the other
  pub then_read : {T : Type 0} (r : Read T) (next : T → Read S) (s : S) → and_then r next ≡ read s → (t : T) × (r ≡ read t) × (next t ≡ read s)
  unfolding and_then
  then_read (stopped p) next s e = not_stopped p s e
  then_read (read t) next s e = (t, refl, e)

module _ {S : Type 0} (weight : S → ℕ) (step : Step S) (good : Grows weight step) where
  unmoved : (s s' : S) (n : ℕ) → read s ≡ read s' → weight s' ≤ weight s + n
  unmoved s s' n e = let z : weight s ≡ weight s' = ap weight (same_read s s' e) in omega arith

  walk-in : (f place : ℕ) (bytes : List ℕ) (s s' : S) → Octets bytes → walk_in step f place bytes s ≡ read s' → weight s' ≤ weight s + length bytes
  unfolding walk_in
  walk-in zero place bytes s s' o e = unmoved s s' (length bytes) e
  walk-in (suc f) place [] s s' o e = unmoved s s' 0 e
  walk-in (suc f) place (b ∷ bytes) s s' o e =
      (elim (next_in (b ∷ bytes)) as (λ r. next_in (b ∷ bytes) ≡ r → ◌≡◌ {A = Read S} (elim r [
        | Stopped ↦ stopped place
        | Found q ↦ and_then (step s place (b ∷ bytes) q) (λ t. walk_in step f (place + q.size) (drop q.size (b ∷ bytes)) t)
      ]) (read s') → weight s' ≤ weight s + length (b ∷ bytes)) [
        | Stopped ↦ λ q w. not_stopped place s' w
        | Found q ↦ λ n w.
            let l = next_lies (b ∷ bytes) q n in
            let x = then_read (step s place (b ∷ bytes) q) _ s' w in
            let y = good.grows s place (b ∷ bytes) q o l (next_takes (b ∷ bytes) q o n) x.0 x.1 in
            let z = walk-in f (place + q.size) (drop q.size (b ∷ bytes)) x.0 s' (octets_drop q.size o) x.2 in
            let d = length-drop q.size (b ∷ bytes) in
            let ends = l.ends in
            omega arith
      ]) refl e

  pub walk_grows : (place : ℕ) (bytes : List ℕ) (s s' : S) → Octets bytes → walk step place bytes s ≡ read s' → weight s' ≤ weight s + length bytes
  unfolding walk
  walk_grows place bytes s s' o e = walk-in (length bytes) place bytes s s' o e

  -- a message within a field
  pub content_grows : (place : ℕ) (bytes : List ℕ) (f : Field) (s s' : S) → Octets bytes → Lies (length bytes) f → walk step place (content bytes f) s ≡ read s' → weight s' ≤ weight s + (f.size - f.head)
  content_grows place bytes f s s' o l e =
      let p = part-long bytes f.head f.size l.begins l.ends in
      let g = walk_grows place (content bytes f) s s' (octets_take (f.size - f.head) (octets_drop f.head o)) e in
      omega arith
