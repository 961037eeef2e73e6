-- The table of rows and the table of the list: what stands where, and what each change comes to.
-- Assumes nothing.
use mathlib.Core.Path.{◌≡◌, refl, ap, ◌∙◌}
use mathlib.Core.List.{List, [], ◌∷◌, ◌++◌, map}
use Prim.Native.Nat.{ℕ, zero, suc, ◌<◌}
use lib.ListN.{get_or, set, take, get_or-map}
use lib.Seq.{get_or-take}
use Rattle.model.specs.Rows.{remove_at}
use Rattle.address.specs.Here.{here}
use Rattle.laws.specs.Packing.{map-remove_at}
use Rattle.model.specs.Words as words
use Rattle.model.specs.Members as list
use Rattle.member.specs.declared.Member.{Member}
use Rattle.member.specs.Views.{to_member, from_member, nobody}
use Rattle.member.specs.Packing.{from_to}

-- the record at a place
pub record-at : (n : ℕ) (t : List Member) (i : ℕ) → i < n → get_or (map to_member (take n t)) i (words.blank_member here) ≡ to_member (get_or t i nobody)
record-at n t i h = get_or-map to_member (take n t) i nobody ∙ ap to_member (get_or-take n t i nobody h)

map-set : {A B : Type 0} (f : A → B) (l : List A) (i : ℕ) (x : A) → map f (set l i x) ≡ set (map f l) i (f x)
map-set f [] i x = refl
map-set f (y ∷ l) zero x = refl
map-set f (y ∷ l) (suc i) x = ap (λ m. f y ∷ m) (map-set f l i x)

pub map_snoc : {A B : Type 0} (f : A → B) (l : List A) (x : A) → map f (l ++ (x ∷ [])) ≡ map f l ++ (f x ∷ [])
map_snoc f [] x = refl
map_snoc f (y ∷ l) x = ap (λ m. f y ∷ m) (map_snoc f l x)

-- a removal, a replacement and an addition in the list are those of the rows
pub removed-row : (t : List Member) (i : ℕ) → map from_member (remove_at (map to_member t) i) ≡ remove_at t i
removed-row t i = map-remove_at from_member (map to_member t) i ∙ ap (λ (l : List Member). remove_at l i) (from_to t)

pub replaced_row : (t : List Member) (i : ℕ) (m : Member) → map from_member (set (map to_member t) i (to_member m)) ≡ set t i m
replaced_row t i m = map-set from_member (map to_member t) i (to_member m) ∙ ap (λ (l : List Member). set l i m) (from_to t)

pub added-row : (t : List Member) (m : Member) → map from_member (map to_member t ++ (to_member m ∷ [])) ≡ t ++ (m ∷ [])
added-row t m = map_snoc from_member (map to_member t) (to_member m) ∙ ap (λ (l : List Member). l ++ (m ∷ [])) (from_to t)
