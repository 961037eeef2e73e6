-- D: what each way through the match on an event says of a death, and the search from the front.
-- Assumes nothing.
use mathlib.Core.Path.{◌≡◌, refl, sym, ◌∙◌, ap}
use mathlib.Core.Bool.{Bool, true, false}
use mathlib.Core.List.{List, [], ◌∷◌, map}
use mathlib.Core.Option.{Option, none, some}
use Prim.Native.Nat.{ℕ, ◌<◌, ◌≤◌, ◌+◌}
use native.Mathlib.Omega.{arith}
use native.Mathlib.Numerals.{add-one}
use lib.ListN.{length, take, drop, get_or, drop_of_length-le}
use lib.Seq.{drop-cons, get_or-take, length-take-le}
use Rattle.model.specs.Rows.{pick}
use Rattle.address.specs.Here.{Addr, here}
use Rattle.model.specs.Choose.{death_in, or_else, death}
use Rattle.types.specs.declared.Event.{Event}
use Rattle.types.specs.declared.Event.TheVariants.{Nothing, Joined, Recovered, Suspected, Deceased}
use Rattle.types.specs.Views.{to_event}
use Rattle.heap.specs.declared.Entry.{Entry}
use Rattle.heap.specs.Views.{to_entry, no_entry}
use Rattle.disseminate.specs.declared.Found.{Found}
use Rattle.disseminate.specs.declared.Found.TheVariants.{Missing, At}
use Rattle.disseminate.specs.Views.{from_found}

abbrev said : Addr → Event → Found
said a v = from_found (death_in here a (to_event v))

module _ (a f s : Addr) (n : ℕ) (v : Event) (e : v ≡ Deceased f s n) (u : Bool) (q : u ≡ here.same a s) where
  pub death-of : u ≡ true → At n ≡ said a v
  death-of h = sym (ap (said a) e ∙ ap (λ (b : Bool). from_found (pick b (some n) none)) (sym q ∙ h))

  pub death_not : u ≡ false → Missing ≡ said a v
  death_not h = sym (ap (said a) e ∙ ap (λ (b : Bool). from_found (pick b (some n) none)) (sym q ∙ h))

pub death_other : (a : Addr) (v : Event) → ((f s : Addr) (n : ℕ) → v ≡ Deceased f s n → ⊥) → Missing ≡ said a v
death_other a Nothing h = refl
death_other a (Joined f s n) h = refl
death_other a (Recovered f s n) h = refl
death_other a (Suspected f s n) h = refl
death_other a (Deceased f s n) h = absurd (h f s n refl)

or_found : (x y : Option ℕ) (n : ℕ) → from_found x ≡ At n → from_found (or_else here x y) ≡ At n
unfolding or_else
or_found none y n e = let z : ◌≡◌ {A = ℕ} 0 1 = cc in absurd (omega arith)
or_found (some m) y n e = e

or_missing : (x y : Option ℕ) → from_found x ≡ Missing → or_else here x y ≡ y
unfolding or_else
or_missing none y e = refl
or_missing (some m) y e = let z : ◌≡◌ {A = ℕ} 0 1 = cc in absurd (omega arith)

-- a search goes from the front: what is left gives the same answer
module _ (a : Addr) (len : ℕ) (es : List Entry) (fits : len ≤ length es) where
  abbrev pub left : ℕ → Option ℕ
  left i = death here a (map to_entry (drop i (take len es)))

  long : length (take len es) ≡ len
  long = length-take-le len es fits

  next : (i : ℕ) → i < len → left i ≡ or_else here (death_in here a (to_event (get_or es i no_entry).gossip.event)) (left (i + 1))
  unfolding death
  next i h =
      let l : i < length (take len es) = rw long h in
      rw (drop-cons (take len es) i no_entry l, get_or-take len es i no_entry h, add-one)

  pub found : (i n : ℕ) → i < len → death here a (map to_entry (take len es)) ≡ left i → said a (get_or es i no_entry).gossip.event ≡ At n → At n ≡ from_found (death here a (map to_entry (take len es)))
  found i n h e f = sym (ap from_found (e ∙ next i h) ∙ or_found _ (left (i + 1)) n f)

  pub onward : (i : ℕ) → i < len → death here a (map to_entry (take len es)) ≡ left i → said a (get_or es i no_entry).gossip.event ≡ Missing → death here a (map to_entry (take len es)) ≡ left (i + 1)
  onward i h e f = e ∙ next i h ∙ or_missing _ (left (i + 1)) f

  pub nowhere : (i : ℕ) → len ≤ i → death here a (map to_entry (take len es)) ≡ left i → Missing ≡ from_found (death here a (map to_entry (take len es)))
  unfolding death
  nowhere i h e =
      let l : length (take len es) ≤ i = rw long h in
      sym (ap from_found e ∙ rw (drop_of_length-le (take len es) l))
