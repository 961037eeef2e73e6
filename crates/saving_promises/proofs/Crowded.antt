-- A COUNT OVER 64. Restore refuses it by 16 where the image's length is as the count says, and by 15 where it isn't, too short for a count included; salvage reads 64 places and tells the count.
-- Assumes nothing.
use Rattle.std.specs.Prelude.{◌≡◌, refl, Bool, ◌&&◌, List, ℕ, ◌+◌, ◌*◌, ◌≤◌, ◌<◌, length, get_or, take, drop}
use Rattle.std.proofs.Math.Path.{ap}
use Rattle.std.proofs.Common.{sym, ◌∙◌, arith, drop-drop}
use Rattle.std.proofs.Math.Bool.{true, false, not, and-false}
use Rattle.std.proofs.Math.Dec.{leb}
use borrow.Author.Tests.{le-leb, lt-leb, eq-eqb, ne_eqb}
use Rattle.model.specs.declared.Refusal.TheVariants.{WrongLength, OutOfRule}
use Rattle.model.specs.declared.Settings.{Settings}
use Rattle.model.specs.Rows.{pick}
use Rattle.model.specs.Calls.{reply_number}
use Rattle.address.specs.Here.{Addr, here}
use Rattle.numbers.specs.Numbers.{number_in, number_of}
use Rattle.numbers.specs.Codec.{many-count}
use Rattle.image.specs.Image.{Form, head, entry, layout, entries_in, marked, sized, counted, fields, in_rule}
use Rattle.image.specs.Forms.{form_in, in_version}
use Rattle.image.specs.Versions.{v1, v2, versions}
use Rattle.saving.specs.Views.{restored_of}
use Rattle.saving.specs.declared.Restored.{Restored}
use Rattle.salvage.specs.Views.{Salvages}
use Rattle.salvage.specs.declared.Ends.TheVariants as ends
use Rattle.salvage.specs.declared.Salvaged.{Salvaged}
use Rattle.promises.specs.Firsts.{fails, passes}
use Rattle.saving_promises.proofs.Exactly.{restore_exactly}
use Rattle.saving_promises.proofs.Salvages.{wrote}
use Rattle.saving_promises.proofs.Survives.{first_byte}
use Rattle.saving_promises.specs.Crowded.{AsItSays, f, opens, Answers, Reads64, is_marked, long}

-- what stands before the places, and how long a place is: 14 and 17 bytes in version 1, 25 and 28 in version 2
pub widths : ((head v1).width ≡ 14) × ((entry v1).width ≡ 17) × ((head v2).width ≡ 25) × ((entry v2).width ≡ 28)
widths = (refl, refl, refl, refl)

six_false : (a b c d e g : Bool) → a ≡ false → (a && b && c && d && e && g) ≡ false
six_false a b c d e g h = rw h refl

module _ (bytes : List ℕ) (is_marked : marked (form_in versions bytes) bytes ≡ true) (crowded : 64 < counted (form_in versions bytes) bytes) where
  out-of_rule : in_rule here (fields (f bytes is_marked crowded) bytes) ≡ false
  unfolding in_rule fields
  out-of_rule = six_false _ _ _ _ _ _ (lt-leb (length (entries_in (fields (f bytes is_marked crowded) bytes))) 64 (omega (arith, crowded, many-count (entry (f bytes is_marked crowded)) (counted (f bytes is_marked crowded) bytes) (drop (head (f bytes is_marked crowded)).width bytes))))

  module _ (settings : Settings) (tick : ℕ) (r : Restored) (met : r ≡ restored_of bytes settings tick) where
    pub crowded_16 : AsItSays (f bytes is_marked crowded) bytes → reply_number r.answer.reply ≡ 16
    unfolding sized
    crowded_16 h =
        let fits : sized (f bytes is_marked crowded) bytes ≡ true = (λ j. le-leb (head (f bytes is_marked crowded)).width (length bytes) (omega (arith, h)) j && eq-eqb (length bytes) (layout (f bytes is_marked crowded) (counted (f bytes is_marked crowded) bytes)).width h j) in
        ((restore_exactly bytes settings tick r met).refuses OutOfRule).1 (passes (ap not is_marked) (passes (ap not fits) (fails (ap not (ap (λ (u : Bool). u && in_version versions bytes) out-of_rule)) refl)))

    pub crowded_15 : (AsItSays (f bytes is_marked crowded) bytes → ⊥) → reply_number r.answer.reply ≡ 15
    unfolding sized
    crowded_15 h =
        let off : sized (f bytes is_marked crowded) bytes ≡ false = ap (λ (u : Bool). leb (head (f bytes is_marked crowded)).width (length bytes) && u) (ne_eqb (length bytes) (layout (f bytes is_marked crowded) (counted (f bytes is_marked crowded) bytes)).width h) ∙ and-false (leb (head (f bytes is_marked crowded)).width (length bytes)) in
        ((restore_exactly bytes settings tick r met).refuses WrongLength).1 (passes (ap not is_marked) (fails (ap not off) refl))

  -- salvage goes on with 64 places, and tells the count as it stands
  pub crowded_salvage : (row : List ℕ) (r : Salvaged) (row' : List ℕ) → Salvages bytes row r row' → (n : ℕ) → r.ends ≡ ends.Whole n → (r.places ≡ 64) × (r.count ≡ counted (f bytes is_marked crowded) bytes)
  crowded_salvage row r row' met n e =
      let w = wrote bytes row r row' met n e in
      (omega (arith, crowded, w.many), w.count)

five : (v : ℕ) (rest : List ℕ) → 5 ≤ length (opens v rest)
five v rest = omega arith

marked_1 : (rest : List ℕ) → marked v1 (opens 1 rest) ≡ true
unfolding marked number_of number_in
marked_1 rest = ap (λ (u : Bool). u && true) (le-leb 5 (length (opens 1 rest)) (five 1 rest))

marked_2 : (rest : List ℕ) → marked v2 (opens 2 rest) ≡ true
unfolding marked number_of number_in
marked_2 rest = ap (λ (u : Bool). u && true) (le-leb 5 (length (opens 2 rest)) (five 2 rest))

not_2 : (rest : List ℕ) → marked v2 (opens 1 rest) ≡ false
unfolding marked number_of number_in
not_2 rest = and-false (leb 5 (length (opens 1 rest)))

is_1 : (rest : List ℕ) → form_in versions (opens 1 rest) ≡ v1
is_1 rest = ap (λ (u : Bool). pick u v2 v1) (not_2 rest)

is_2 : (rest : List ℕ) → form_in versions (opens 2 rest) ≡ v2
is_2 rest = ap (λ (u : Bool). pick u v2 v1) (marked_2 rest)

-- it stands at place 13 in version 1, and at 24 in version 2
pub count_1 : (bytes : List ℕ) → counted v1 bytes ≡ get_or bytes 13 0
unfolding counted
count_1 bytes = ap (λ (l : List ℕ). number_of (take 1 l)) (drop-drop 8 5 bytes) ∙ first_byte bytes 13

pub count_2 : (bytes : List ℕ) → counted v2 bytes ≡ get_or bytes 24 0
unfolding counted
count_2 bytes = ap (λ (l : List ℕ). number_of (take 1 l)) (drop-drop 19 5 bytes) ∙ first_byte bytes 24

module _ (bytes : List ℕ) (f : Form Addr) (c : ℕ) (e : form_in versions bytes ≡ f) (m : marked f bytes ≡ true) (is : counted f bytes ≡ c) (over : 64 < c) where
  the_count : counted (form_in versions bytes) bytes ≡ c
  the_count = ap (λ (g : Form Addr). counted g bytes) e ∙ is

  many : 64 < counted (form_in versions bytes) bytes
  many = omega (arith, over, the_count)

  answers : Answers bytes ((head f).width + (c * (entry f).width + 1))
  answers settings tick r met =
      ((λ h. crowded_16 bytes (is_marked bytes f c e m is over) many settings tick r met (h ∙ sym (long bytes f c e m is over))), (λ h. crowded_15 bytes (is_marked bytes f c e m is over) many settings tick r met (λ q. h (q ∙ (long bytes f c e m is over)))))

  reads_64 : Reads64 bytes c
  reads_64 row r row' met n w = let x = crowded_salvage bytes (is_marked bytes f c e m is over) many row r row' met n w in (x.0, x.1 ∙ the_count)

module _ (rest : List ℕ) where
  pub over_64_in_1 : let bytes = opens 1 rest in let c = get_or bytes 13 0 in 64 < c → Answers bytes (14 + (c * 17 + 1)) × Reads64 bytes c
  over_64_in_1 h =
      let bytes : List ℕ = opens 1 rest in
      (answers bytes v1 (get_or bytes 13 0) (is_1 rest) (marked_1 rest) (count_1 bytes) h, reads_64 bytes v1 (get_or bytes 13 0) (is_1 rest) (marked_1 rest) (count_1 bytes) h)

  pub over_64_in_2 : let bytes = opens 2 rest in let c = get_or bytes 24 0 in 64 < c → Answers bytes (25 + (c * 28 + 1)) × Reads64 bytes c
  over_64_in_2 h =
      let bytes : List ℕ = opens 2 rest in
      (answers bytes v2 (get_or bytes 24 0) (is_2 rest) (marked_2 rest) (count_2 bytes) h, reads_64 bytes v2 (get_or bytes 24 0) (is_2 rest) (marked_2 rest) (count_2 bytes) h)
