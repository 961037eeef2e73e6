-- WHAT SALVAGE KEEPS: the own address; the records that stand at the places it calls Kept, in their order, each with its address, its state and its number; and the position as it stands behind the places, which doesn't move
-- with the drops: 0 only where it is no place of what is left, or missing. Of the call, and of the node that restore makes of its result.
-- Assumes nothing.
use Rattle.std.specs.Prelude.{◌≡◌, Bool, true, ltb, get_or, take, drop}
use Rattle.std.proofs.Math.Path.{refl, ap, sym}
use Rattle.std.proofs.Common.{◌∙◌, arith, lt-ltb, le-ltb}
use mathlib.Core.List.{List, [], ◌∷◌, ◌++◌, map}
use Prim.Native.Nat.{ℕ, zero, suc, ◌+◌, ◌*◌, ◌≤◌, ◌<◌, min}
use Rattle.std.proofs.Math.ListN.{length, length-map}
use Rattle.model.specs.declared.Settings.{Settings}
use Rattle.model.specs.Rows.{pick}
use Rattle.model.specs.Words as W
use Rattle.model.specs.Members.{addrs}
use Rattle.model.specs.Node as M
use Rattle.model.specs.Sound.{in_range}
use Rattle.address.specs.Here.{Addr, here}
use Rattle.numbers.specs.Numbers.{Bytes, number_in, number_of}
use Rattle.image.specs.Image.{Entry, head, entry, member_of, counted}
use Rattle.image.specs.Versions.{versions}
use Rattle.saving.specs.Views.{restored_of}
use Rattle.saving.specs.declared.Restored.{Restored}
use Rattle.salvage.specs.Salvage.{after, stands_at, kept_of, word_at, places, kept, position_of, left, left_of}
use Rattle.salvage.specs.Salvage as S
use Rattle.salvage.proofs.Rule.{map_snoc, words-many, word-of}
use Rattle.salvage.specs.Views.{said, Salvages}
use Rattle.salvage.specs.declared.Word.{Word}
use Rattle.salvage.specs.declared.Word.TheVariants as word
use Rattle.salvage.specs.declared.Said.{Said}
use Rattle.salvage.specs.declared.Ends.TheVariants as ends
use Rattle.salvage.specs.declared.Salvaged.{Salvaged}
use Rattle.saving_promises.specs.Restarts.{held}
use Rattle.saving_promises.proofs.Salvages.{in_row, wrote, result_restored}
use Rattle.saving_promises.specs.Placed.{record_at, own_at}
use Rattle.saving_promises.specs.Survives.{is_kept, word_for, kept_places, position_byte, f}

-- one byte is its number
pub first_byte : (bytes : List ℕ) (k : ℕ) → number_of (take 1 (drop k bytes)) ≡ get_or bytes k 0
unfolding number_of number_in
first_byte [] zero = refl
first_byte [] (suc k) = refl
first_byte (b ∷ bytes) zero = omega arith
first_byte (b ∷ bytes) (suc k) = first_byte bytes k

module _ (bytes row : List ℕ) (r : Salvaged) (row' : List ℕ) (met : Salvages bytes row r row') (n : ℕ) (e : r.ends ≡ ends.Whole n) where
  -- the answer's word is the rule's
  word_is : (i : ℕ) → i < places here (f bytes row r row' met n e) bytes → word_for r i ≡ word_at here (f bytes row r row' met n e) bytes i
  word_is i p =
      let q = wrote bytes row r row' met n e in
      let m = words-many here (f bytes row r row' met n e) bytes (places here (f bytes row r row' met n e) bytes) in
      ap (λ (l : List Said). (get_or l i (said word.Cut)).word) q.words ∙ in_row (S.words here (f bytes row r row' met n e) bytes) i (omega (arith, m, p)) ∙ word-of here (f bytes row r row' met n e) bytes word.Cut (places here (f bytes row r row' met n e) bytes) i p

  -- what is kept of the first places are the records that stand there
  after_is : (w : Word) (l : List ℕ) (i : ℕ) (es : List (Entry Addr)) → es ≡ map (stands_at here (f bytes row r row' met n e) bytes) l
      → after w es (stands_at here (f bytes row r row' met n e) bytes i) ≡ map (stands_at here (f bytes row r row' met n e) bytes) (pick (is_kept w) (l ++ (i ∷ [])) l)
  after_is word.Cut l i es h = h
  after_is word.Address l i es h = h
  after_is word.State l i es h = h
  after_is word.Repeat l i es h = h
  after_is word.Kept l i es h = ap (λ (x : List (Entry Addr)). x ++ (stands_at here (f bytes row r row' met n e) bytes i ∷ [])) h ∙ sym (map_snoc (stands_at here (f bytes row r row' met n e) bytes) l i)

  kept_is : (i : ℕ) → i ≤ places here (f bytes row r row' met n e) bytes → kept_of here (f bytes row r row' met n e) bytes i ≡ map (stands_at here (f bytes row r row' met n e) bytes) (kept_places r i)
  unfolding kept_of word_at
  kept_is zero h = refl
  kept_is (suc i) h =
      ap (λ (w : Word). after w (kept_of here (f bytes row r row' met n e) bytes i) (stands_at here (f bytes row r row' met n e) bytes i)) (sym (word_is i (omega (arith, h))))
      ∙ after_is (word_for r i) (kept_places r i) i (kept_of here (f bytes row r row' met n e) bytes i) (kept_is i (omega (arith, h)))

  places_are : places here (f bytes row r row' met n e) bytes ≡ r.places
  unfolding places
  places_are = sym (wrote bytes row r row' met n e).many

  all-kept : kept here (f bytes row r row' met n e) bytes ≡ map (stands_at here (f bytes row r row' met n e) bytes) (kept_places r r.places)
  all-kept = kept_is (places here (f bytes row r row' met n e) bytes) (omega arith) ∙ ap (λ (k : ℕ). map (stands_at here (f bytes row r row' met n e) bytes) (kept_places r k)) places_are

  map_twice : (l : List ℕ) → map member_of (map (stands_at here (f bytes row r row' met n e) bytes) l) ≡ map (record_at (f bytes row r row' met n e) bytes) l
  map_twice [] = refl
  map_twice (i ∷ l) = ap (λ (x : List (W.Member Addr)). record_at (f bytes row r row' met n e) bytes i ∷ x) (map_twice l)

  rows_are : (left_of here versions bytes).rows ≡ map (record_at (f bytes row r row' met n e) bytes) (kept_places r r.places)
  unfolding left
  rows_are = ap (map member_of) all-kept ∙ map_twice (kept_places r r.places)

  position_is : (k : ℕ) → k ≡ length (kept_places r r.places) → (left_of here versions bytes).position ≡ pick (ltb (position_byte (f bytes row r row' met n e) bytes) k) (position_byte (f bytes row r row' met n e) bytes) 0
  unfolding left position_of places
  position_is k h =
      let m : length (kept here (f bytes row r row' met n e) bytes) ≡ k = ap (λ (l : List (Entry Addr)). length l) all-kept ∙ length-map (kept_places r r.places) (stands_at here (f bytes row r row' met n e) bytes) ∙ sym h in
      (λ j. pick (ltb (first_byte bytes ((head (f bytes row r row' met n e)).width + min (counted (f bytes row r row' met n e) bytes) 64 * (entry (f bytes row r row' met n e)).width) j) (m j)) (first_byte bytes ((head (f bytes row r row' met n e)).width + min (counted (f bytes row r row' met n e) bytes) 64 * (entry (f bytes row r row' met n e)).width) j) 0)

  -- the node that restore makes of the result
  module _ (b : Bytes bytes) (settings : Settings) (tick : ℕ) (s : Restored) (c : in_range settings ≡ true) (told : s ≡ restored_of (take n row') settings tick) where
    -- the records of the kept places, in their order: address, state and number as they stood
    pub records_survive : (held s.answer.node).members.table ≡ map (record_at (f bytes row r row' met n e) bytes) (kept_places r r.places)
    records_survive = ap (λ (x : M.Node Addr). x.members.table) (result_restored bytes row r row' met b n e settings tick s c told).1 ∙ rows_are

    -- its own address is the image's, whatever was dropped
    pub own_survives : (held s.answer.node).own ≡ own_at (f bytes row r row' met n e) bytes
    unfolding left
    own_survives = ap (λ (x : M.Node Addr). x.own) (result_restored bytes row r row' met b n e settings tick s c told).1

    -- and they are probed in that order
    pub order_survives : (held s.answer.node).members.order ≡ addrs (map (record_at (f bytes row r row' met n e) bytes) (kept_places r r.places))
    order_survives = ap (λ (x : M.Node Addr). x.members.order) (result_restored bytes row r row' met b n e settings tick s c told).1 ∙ ap (λ (l : List (W.Member Addr)). addrs l) rows_are

    -- the position as it stands, if it is a place of what is left; else 0
    pub position_survives : position_byte (f bytes row r row' met n e) bytes < length (kept_places r r.places) → (held s.answer.node).members.position ≡ position_byte (f bytes row r row' met n e) bytes
    position_survives h =
        ap (λ (x : M.Node Addr). x.members.position) (result_restored bytes row r row' met b n e settings tick s c told).1
        ∙ position_is (length (kept_places r r.places)) refl
        ∙ ap (λ (u : Bool). pick u (position_byte (f bytes row r row' met n e) bytes) 0) (lt-ltb (position_byte (f bytes row r row' met n e) bytes) (length (kept_places r r.places)) h)

    pub position_lost : length (kept_places r r.places) ≤ position_byte (f bytes row r row' met n e) bytes → (held s.answer.node).members.position ≡ 0
    position_lost h =
        ap (λ (x : M.Node Addr). x.members.position) (result_restored bytes row r row' met b n e settings tick s c told).1
        ∙ position_is (length (kept_places r r.places)) refl
        ∙ ap (λ (u : Bool). pick u (position_byte (f bytes row r row' met n e) bytes) 0) (le-ltb (position_byte (f bytes row r row' met n e) bytes) (length (kept_places r r.places)) h)
