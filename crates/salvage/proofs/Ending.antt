-- How a salvage ends.
-- Assumes nothing.
use mathlib.Core.Path.{◌≡◌, refl, ap, sym, ◌∙◌}
use mathlib.Core.Bool.{Bool, true, false, not}
use mathlib.Core.List.{List, [], ◌∷◌, ◌++◌, map}
use Prim.Native.Nat.{ℕ, ◌+◌, ◌*◌, min}
use lib.Dec.{leb, ltb}
use lib.ListN.{length, take, drop}
use borrow.Author.Tests.{leb-true, leb-false, le-ltb, lt-ltb}
use Rattle.model.specs.declared.Refusal.{Refusal}
use Rattle.model.specs.declared.Refusal.TheVariants.{NoRoom, WrongMark, OutOfRule}
use Rattle.model.specs.Rows.{pick}
use Rattle.model.specs.Words as words
use Rattle.model.specs.Calls.{first_of}
use Rattle.address.specs.Here.{Addr, here}
use Rattle.member.specs.Views.{to_member}
use Rattle.image.specs.Image.{Form, Entry, head, entry, member_of, Saved, marked, counted}
use Rattle.image.specs.Forms.{form_in, image_of}
use Rattle.image.specs.Versions.{v2, versions, version}
use Rattle.image.specs.Views.{read_member, saved_as, written_of, row_of}
use Rattle.image.specs.declared.Written.{Written}
use Rattle.image.specs.declared.Written.TheVariants as written
use Rattle.salvage.specs.Salvage.{salvaged, not_salvaged, Salvage, from, places, kept, position_of, left, headed, salvage, kept_of}
use Rattle.salvage.specs.Salvage as S
use Rattle.salvage.proofs.Rule.{words-many}
use Rattle.salvage.specs.Views.{row_of_words, Sifts, not_done, ending_of, salvage_of, Salvages}
use Rattle.salvage.specs.declared.Sifted.{Sifted}
use Rattle.salvage.specs.declared.Ends.TheVariants as ends
use Rattle.salvage.specs.declared.Salvaged.{Salvaged}

-- rows that were read are the records that they say
records : (l : List (Entry Addr)) → map to_member (map read_member l) ≡ map member_of l
records [] = refl
records (e ∷ l) = ap (λ (r : List (words.Member Addr)). member_of e ∷ r) (records l)

three : {B : Type 0} (u v w : Bool) (a b c : Refusal) (refuse : Refusal → B) (go : B)
    → first_of ((not u, a) ∷ (not v, b) ∷ (w, c) ∷ []) refuse go ≡ pick u (pick v (pick w (refuse c) go) (refuse b)) (refuse a)
three true true true a b c refuse go = refl
three true true false a b c refuse go = refl
three true false w a b c refuse go = refl
three false v w a b c refuse go = refl

module _ (bytes row : List ℕ) (wide : Bool) (wide_is : wide ≡ marked v2 bytes) where
  -- the form that the image has, and the image of what is left
  abbrev f : Form Addr
  f = version wide

  abbrev image : List ℕ
  image = image_of versions (left here f bytes)

  abbrev refuse : Refusal → Salvage
  refuse r = record { ends = not_salvaged r; row = row }

  abbrev whole : Salvage
  whole = record { ends = salvaged (length image) (counted f bytes) (S.words here f bytes); row = image ++ drop (length image) row }

  at-form : salvage_of bytes row ≡ first_of ((not (marked f bytes), WrongMark) ∷ (not (headed here f bytes), OutOfRule) ∷ (ltb (length row) (length image), NoRoom) ∷ []) refuse whole
  unfolding salvage
  at-form =
      λ i.
      let g = version (sym wide_is i) in
      let result = image_of versions (left here g bytes) in
      first_of ((not (marked g bytes), WrongMark) ∷ (not (headed here g bytes), OutOfRule) ∷ (ltb (length row) (length result), NoRoom) ∷ []) refuse
      (record { ends = salvaged (length result) (counted g bytes) (S.words here g bytes); row = result ++ drop (length result) row })

  by_tests : (u v w : Bool) → marked f bytes ≡ u → headed here f bytes ≡ v → ltb (length row) (length image) ≡ w
      → salvage_of bytes row ≡ pick u (pick v (pick w (refuse NoRoom) whole) (refuse OutOfRule)) (refuse WrongMark)
  by_tests u v w e h g =
      at-form
      ∙ three (marked f bytes) (headed here f bytes) (ltb (length row) (length image)) WrongMark OutOfRule NoRoom refuse whole
      ∙ (λ i. pick (e i) (pick (h i) (pick (g i) (refuse NoRoom) whole) (refuse OutOfRule)) (refuse WrongMark))

  -- as it is asked
  marked_so : (u : Bool) → marked (form_in versions bytes) bytes ≡ u → marked f bytes ≡ u
  marked_so u e = ap (λ (w : Bool). marked (version w) bytes) wide_is ∙ e

  ends_as : (s : Salvage) (r : Salvaged) (row' : List ℕ) → salvage_of bytes row ≡ s → r ≡ ending_of s.ends → row' ≡ s.row → Salvages bytes row r row'
  ends_as s r row' e h g = record { answer = h ∙ sym (ap (λ (x : Salvage). ending_of x.ends) e); written = g ∙ sym (ap (λ (x : Salvage). x.row) e) }

  pub salvage_unmarked : (r : Salvaged) → marked (form_in versions bytes) bytes ≡ false → r ≡ not_done (ends.Refused WrongMark) → Salvages bytes row r row
  salvage_unmarked r e q = ends_as (refuse WrongMark) r row (by_tests false (headed here f bytes) (ltb (length row) (length image)) (marked_so false e) refl refl) q refl

  module _ (m : marked (form_in versions bytes) bytes ≡ true) where
    e : marked f bytes ≡ true
    e = marked_so true m

    pub salvage_headless : (r : Salvaged) → headed here f bytes ≡ false → r ≡ not_done (ends.Refused OutOfRule) → Salvages bytes row r row
    salvage_headless r h q = ends_as (refuse OutOfRule) r row (by_tests true false (ltb (length row) (length image)) e h refl) q refl

    module _ (h : headed here f bytes ≡ true) (n : ℕ) (own : Addr) (sifted : Sifted) (position : ℕ)
        (n-is : n ≡ min (counted f bytes) 64) (own_is : own ≡ f.address.get (drop 5 bytes)) (s : Sifts f bytes n sifted)
        (at : ℕ) (at_is : at ≡ (head f).width + n * (entry f).width) (position_is : position ≡ position_of (drop at bytes) sifted.len) where
      places_are : n ≡ places here f bytes
      unfolding places
      places_are = n-is

      left_is : saved_as own sifted.table sifted.len position ≡ left here f bytes
      unfolding left
      left_is =
          let k = places_are in
          let rows : map to_member (take sifted.len sifted.table) ≡ map member_of (kept here f bytes) =
          ap (map to_member) s.table ∙ records (kept_of here f bytes n) ∙ ap (λ (j : ℕ). map member_of (kept_of here f bytes j)) k in
          let place : position ≡ position_of (from here f bytes (places here f bytes)) (length (kept here f bytes)) =
          position_is
          ∙ ap (λ (j : ℕ). position_of (drop j bytes) sifted.len) at_is
          ∙ (λ i. position_of (drop ((head f).width + k i * (entry f).width) bytes) (s.many i))
          ∙ ap (λ (j : ℕ). position_of (from here f bytes (places here f bytes)) (length (kept_of here f bytes j))) k in
          λ i. record { own = own_is i; rows = rows i; position = place i }

      abbrev image_written : List ℕ
      image_written = image_of versions (saved_as own sifted.table sifted.len position)

      module _ (w : Written) (row' : List ℕ) (a : w ≡ written_of image_written row) (b : row' ≡ row_of image_written row) where
        by-room : (u : Bool) → leb (length image) (length row) ≡ u → (w ≡ pick u (written.Whole (length image)) written.TooLong) × (row' ≡ pick u (image ++ drop (length image) row) row)
        unfolding written_of row_of
        by-room u q = (
          a ∙ ap (λ (x : Saved Addr). pick (leb (length (image_of versions x)) (length row)) (written.Whole (length (image_of versions x))) written.TooLong) left_is
              ∙ ap (λ (v : Bool). pick v (written.Whole (length image)) written.TooLong) q,
          b ∙ ap (λ (x : Saved Addr). pick (leb (length (image_of versions x)) (length row)) (image_of versions x ++ drop (length (image_of versions x)) row) row) left_is
              ∙ ap (λ (v : Bool). pick v (image ++ drop (length image) row) row) q,
        )

        -- what the call answers, by what was written
        abbrev answer-of : Written → ℕ → Salvaged
        answer-of written.TooLong count = not_done (ends.Refused NoRoom)
        answer-of (written.Whole k) count = record { ends = ends.Whole k; count = count; places = n; words = sifted.words }

        answered : (count : ℕ) → count ≡ counted f bytes → answer-of (written.Whole (length image)) count ≡ ending_of whole.ends
        answered count c =
            let p : n ≡ length (S.words here f bytes) = places_are ∙ sym (words-many here f bytes (places here f bytes)) in
            let v : sifted.words ≡ row_of_words (S.words here f bytes) = s.words ∙ ap (λ (j : ℕ). row_of_words (S.words_of here f bytes j)) places_are in
            λ i. record { ends = ends.Whole (length image); count = c i; places = p i; words = v i }

        ended : (count : ℕ) → count ≡ counted f bytes → Salvages bytes row (answer-of w count) row'
        ended count c =
            (elim (leb (length image) (length row)) as (λ u. leb (length image) (length row) ≡ u → Salvages bytes row (answer-of w count) row') [
              | true ↦ λ q.
                  let p = by-room true q in
                  let l : ltb (length row) (length image) ≡ false = le-ltb (length row) (length image) (leb-true (length image) (length row) q) in
                  ends_as whole (answer-of w count) row' (by_tests true true false e h l) (ap (λ (x : Written). answer-of x count) p.0 ∙ answered count c) p.1
              | false ↦ λ q.
                  let p = by-room false q in
                  let l : ltb (length row) (length image) ≡ true = lt-ltb (length row) (length image) (leb-false (length image) (length row) q) in
                  ends_as (refuse NoRoom) (answer-of w count) row' (by_tests true true true e h l) (ap (λ (x : Written). answer-of x count) p.0) p.1
            ]) refl

        pub salvage-short : (r : Salvaged) (count : ℕ) → count ≡ counted f bytes → w ≡ written.TooLong → r ≡ not_done (ends.Refused NoRoom) → Salvages bytes row r row'
        salvage-short r count c q t = rw (t ∙ sym (ap (λ (x : Written). answer-of x count) q)) (ended count c)

        pub salvage-whole : (k count : ℕ) → count ≡ counted f bytes → w ≡ written.Whole k
            → Salvages bytes row (record { ends = ends.Whole k; count = count; places = n; words = sifted.words }) row'
        salvage-whole k count c q = rw (sym (ap (λ (x : Written). answer-of x count) q)) (ended count c)
