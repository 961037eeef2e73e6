-- What is saved in the version of its list is read again, and what is read in its version is the one list with that image. For any type of address and two forms of its bytes.
-- Assumes nothing.
use Rattle.std.specs.Prelude.{◌≡◌, Bool, ◌&&◌, ◌||◌, List, [], ◌∷◌, ℕ, length}
use Rattle.std.proofs.Math.Path.{refl, ap, sym, subst}
use Rattle.std.proofs.Common.{◌∙◌}
use Rattle.std.proofs.Math.Bool.{true, false}
use Rattle.std.proofs.Math.Dec.{eqb, leb}
use borrow.Author.Tests.{eqb-true, ne_eqb}
use Rattle.model.specs.Rows.{every}
use Rattle.model.specs.Words.{Address}
use Rattle.model.specs.Members.{addrs}
use Rattle.laws.specs.Bools.{and_split, and_join}
use Rattle.numbers.specs.Numbers.{Bytes}
use Rattle.numbers.specs.Codec.{number, All}
use Rattle.image.specs.Image.{opening, Saved, image, marked}
use Rattle.image.specs.Forms.{Forms, some, alike, form, needs_wide, wide_of, form_of, image_of, form_in, said_by, in_version, Fits, Sure}
use Rattle.image.specs.Round.{Savable, Says}
use Rattle.image.proofs.Round.{says-image, image_read}
use Rattle.image.specs.Chosen.{Tells}

alike_same : (a b : Bool) → alike a b ≡ true → a ≡ b
alike_same true b e = sym e
alike_same false true e = cc
alike_same false false e = refl

alike_refl : (a : Bool) → alike a a ≡ true
alike_refl true = refl
alike_refl false = refl

module _ {A : Type 0} (address : Address A) (forms : Forms A) where
  -- where none is wide, each fits the narrow form
  or_false : (a b : Bool) → (a || b) ≡ false → (a ≡ false) × (b ≡ false)
  or_false true b e = (cc, cc)
  or_false false b e = (refl, e)

  all_fit : (wide : Bool) (l : List A) → every address.valid l ≡ true → (wide ≡ false → some forms.is_wide l ≡ false) → All (form forms wide).address (Fits address forms wide) l
  all_fit wide [] v n = tt
  all_fit wide (a ∷ l) v n =
      let p = and_split (address.valid a) (every address.valid l) v in (
        (p.0, λ e. (or_false (forms.is_wide a) (some forms.is_wide l) (n e)).0),
        all_fit wide l p.1 (λ e. (or_false (forms.is_wide a) (some forms.is_wide l) (n e)).1),
      )

  module _ (sure : Sure address forms) where
    -- the form of a list's image is the list's
    opens : (wide : Bool) (bytes : List ℕ) → marked (form forms wide) bytes ≡ true → marked forms.wide bytes ≡ wide
    unfolding marked
    opens true bytes e = e
    opens false bytes e =
        let p = and_split (leb 5 (length bytes)) (eqb ((number 5).get bytes) (opening forms.narrow)) e in
        let n : (number 5).get bytes ≡ opening forms.narrow = eqb-true ((number 5).get bytes) (opening forms.narrow) p.1 in
        let d : eqb ((number 5).get bytes) (opening forms.wide) ≡ false = ne_eqb ((number 5).get bytes) (opening forms.wide) (λ q. sure.differ (sym q ∙ n)) in
        ap (λ (u : Bool). leb 5 (length bytes) && u) d ∙ and_none (leb 5 (length bytes))
      where
        and_none : (b : Bool) → (b && false) ≡ false
        and_none true = refl
        and_none false = refl

    module _ (s : Saved A) (k : Savable address s) where
      fitting : All (form_of forms s).address (Fits address forms (wide_of forms s)) (s.own ∷ addrs s.rows)
      unfolding needs_wide
      fitting = all_fit (wide_of forms s) (s.own ∷ addrs s.rows) (and_join k.own_valid k.valid) (λ e. e)

      abbrev wide : Bool
      wide = wide_of forms s

      said : Says address (form_of forms s) (image_of forms s) s
      said = says-image address (form_of forms s) (Fits address forms wide) (sure.exact wide) (sure.small wide) s k fitting

      pub image-opens : marked forms.wide (image_of forms s) ≡ wide
      image-opens = opens wide (image_of forms s) said.is_marked

      -- what is saved is read again
      pub tells-image : (Tells address forms) (image_of forms s) s
      unfolding in_version
      tells-image =
          let a : Says address (form_in forms (image_of forms s)) (image_of forms s) s =
          subst (λ (u : Bool). Says address (form forms u) (image_of forms s) s) (sym image-opens) said in
          record { says = a; in-version = (λ i. alike (image-opens i) (wide_of forms (a.says i))) ∙ alike_refl wide }

    -- "One list has one image", and no two lists have the same
    pub image-tells : (s t : Saved A) → Savable address s → Savable address t → image_of forms s ≡ image_of forms t → s ≡ t
    image-tells s t k l e = sym (tells-image s k).says.says ∙ ap (said_by forms) e ∙ (tells-image t l).says.says

    -- what is read is the list with that image
    pub image-told : (bytes : List ℕ) → Bytes bytes → (s : Saved A) → (Tells address forms) bytes s → image_of forms s ≡ bytes
    unfolding in_version
    image-told bytes b s t =
        let v : wide_of forms s ≡ marked forms.wide bytes =
        sym (alike_same (marked forms.wide bytes) (wide_of forms (said_by forms bytes)) t.in-version ∙ ap (wide_of forms) t.says.says) in
        ap (λ (u : Bool). image (form forms u) s) v
        ∙ image_read address (form_in forms bytes) (Fits address forms (marked forms.wide bytes)) (sure.exact (marked forms.wide bytes)) bytes b s t.says
