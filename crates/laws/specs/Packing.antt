-- How a row of declared records carries a list of the rules' words: `to` and `from` go between the two, and each undoes the other.
-- Assumes nothing.
use Rattle.std.specs.Prelude.{◌≡◌, refl, ℕ, zero, suc, ◌-◌, ◌≤◌, ◌<◌, length, set, take, replicate}
use Rattle.std.proofs.Common.{ap, sym, ◌∙◌, arith, length-take, length-append, take_at, length-take-le}
use mathlib.Core.List.{List, [], ◌∷◌, ◌++◌, map}
use Rattle.std.proofs.lemmas.List.{length-map, set_at}
use Rattle.model.specs.Rows.{pad_to, remove_at}
use Rattle.laws.specs.Pad.{length-pad_to}

-- the row holds len elements, and every place behind them is blank
pub record PackedRow {B : Type 0} (places : ℕ) (blank : B) (row : List B) (len : ℕ) : Type 0 where
  pub few : len ≤ places
  pub is : row ≡ pad_to places blank (take len row)

module _ {B : Type 0} (places : ℕ) (blank : B) (row : List B) (len : ℕ) (p : PackedRow places blank row len) where
  pub packed-length : length row ≡ places
  packed-length = ap length p.is ∙ length-pad_to places blank (take len row) (omega (arith, length-take len row, p.few))

  pub used_length : length (take len row) ≡ len
  used_length = length-take-le len row (omega (arith, packed-length, p.few))

module _ {B W : Type 0} (to : B → W) (from : W → B) where
  -- what a row holds, and the row that holds a list
  abbrev pub view_row : List B → ℕ → List W
  view_row row len = map to (take len row)

  abbrev pub pack_row : ℕ → B → List W → List B
  pack_row places blank l = pad_to places blank (map from l)

  module _ (to_from : (w : W) → to (from w) ≡ w) where
    pub to_from_all : (l : List W) → map to (map from l) ≡ l
    to_from_all [] = refl
    to_from_all (w ∷ l) = λ i. to_from w i ∷ to_from_all l i

    -- what is packed is read back
    pub view_pack : (places : ℕ) (blank : B) (l : List W) → view_row (pack_row places blank l) (length l) ≡ l
    view_pack places blank l = ap (map to) (take_at (map from l) _ (length l) (length-map l from)) ∙ to_from_all l

  pub packed_pack : (places : ℕ) (blank : B) (l : List W) → length l ≤ places → PackedRow places blank (pack_row places blank l) (length l)
  packed_pack places blank l h =
      record { few = h; is = sym (ap (pad_to places blank) (take_at (map from l) _ (length l) (length-map l from))) }

  module _ (from_to : (b : B) → from (to b) ≡ b) where
    pub from_to_all : (l : List B) → map from (map to l) ≡ l
    from_to_all [] = refl
    from_to_all (b ∷ l) = λ i. from_to b i ∷ from_to_all l i

    -- what is read is packed again
    pub pack_view : (places : ℕ) (blank : B) (row : List B) (len : ℕ) → PackedRow places blank row len → pack_row places blank (view_row row len) ≡ row
    pack_view places blank row len p = ap (pad_to places blank) (from_to_all (take len row)) ∙ sym p.is

    pub view_length : (places : ℕ) (blank : B) (row : List B) (len : ℕ) → PackedRow places blank row len → length (view_row row len) ≡ len
    view_length places blank row len p = length-map (take len row) to ∙ used_length places blank row len p

    -- one more, behind the last
    pub pack_more : (places : ℕ) (blank : B) (row : List B) (len : ℕ) (b : B) → PackedRow places blank row len → len < places
        → set row len b ≡ pack_row places blank (view_row row len ++ (to b ∷ []))
    pack_more places blank row len b p h =
        let l : length (take len row) ≡ len = used_length places blank row len p in
        let m : map from (view_row row len ++ (to b ∷ [])) ≡ take len row ++ (b ∷ []) = map_snoc (take len row) in
        let c : places - length (take len row) ≡ suc (places - suc len) = omega arith in
        let n : length (take len row ++ (b ∷ [])) ≡ suc len = length-append (take len row) (b ∷ []) ∙ omega arith in
        let d : places - length (take len row ++ (b ∷ [])) ≡ places - suc len = omega arith in
        ap (λ (r : List B). set r len b) (p.is ∙ ap (λ (k : ℕ). take len row ++ replicate k blank) c)
        ∙ set_at (take len row) blank (replicate (places - suc len) blank) b len l
        ∙ sym
        (ap (pad_to places blank) m
        ∙ ap (λ (k : ℕ). (take len row ++ (b ∷ [])) ++ replicate k blank) d
        ∙ mathlib.Core.List.append_assoc (take len row) (b ∷ []) (replicate (places - suc len) blank))
      where
        map_snoc : (l : List B) → map from (map to l ++ (to b ∷ [])) ≡ l ++ (b ∷ [])
        map_snoc [] = λ i. from_to b i ∷ []
        map_snoc (x ∷ l) = λ i. from_to x i ∷ map_snoc l i

-- a removal goes through a map
pub map-remove_at : {B W : Type 0} (f : B → W) (l : List B) (i : ℕ) → map f (remove_at l i) ≡ remove_at (map f l) i
map-remove_at f [] i = refl
map-remove_at f (x ∷ l) zero = refl
map-remove_at f (x ∷ l) (suc i) = ap (λ (m : List _). f x ∷ m) (map-remove_at f l i)
