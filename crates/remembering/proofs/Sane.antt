-- What a sound node's row of the departed is, clause by clause, and that no more is asked of it.
-- Assumes nothing.
use Rattle.std.specs.Prelude.{◌≡◌, true, ◌&&◌, take}
use borrow.Author.Tests.{leb-true, le-leb}
use Rattle.model.specs.declared.Kind.TheVariants as kind
use Rattle.model.specs.Words.{Address, Lawful, Departed}
use Rattle.model.specs.Departed.{gone}
use Rattle.model.specs.Node.{Stored, Row}
use Rattle.model.specs.Sound.{in_range, sound_members, sound_heap, sound_timers, sound_departed, sound}
use Rattle.laws.specs.Bools.{and_split, and_join}
use Rattle.laws_list.specs.Distinct.{distinct_once, once_distinct}
use Rattle.remembering.specs.Sane.{Sane}

module _ {A : Type 0} (address : Address A) (lawful : Lawful address) where
  sane_of : (r : Row (Departed A)) → sound_departed address r ≡ true → Sane address r
  unfolding sound_departed
  sane_of r p =
      let p₁ = and_split _ _ p in
      let p₂ = and_split _ _ p₁.0 in
      let p₃ = and_split _ _ p₂.0 in
      record { few = leb-true _ _ p₃.0; once = distinct_once address.same lawful.test (gone (take r.used r.places)) p₃.1; valid = p₂.1; zero = p₁.1 }

  last_clause : (s : Stored A) → sound address s ≡ true → sound_departed address s.departed ≡ true
  unfolding sound
  last_clause s p =
      (and_split
      (in_range s.settings && address.valid s.own && sound_members address s.own s.table s.order s.listed s.position s.lamps && sound_heap address kind.Alive s.alive && sound_heap address kind.Deceased s.deceased && sound_timers address s.timers)
      (sound_departed address s.departed) p).1

  pub sane_row : (s : Stored A) → sound address s ≡ true → Sane address s.departed
  sane_row s p = sane_of s.departed (last_clause s p)

  pub sane_enough : (r : Row (Departed A)) → Sane address r → sound_departed address r ≡ true
  unfolding sound_departed
  sane_enough r g = and_join (and_join (and_join (le-leb r.used 128 g.few) (once_distinct address.same lawful.test (gone (take r.used r.places)) g.once)) g.valid) g.zero
