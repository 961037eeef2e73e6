-- SALVAGE: what is written is the image of own, the kept records in order and the position, in the version of that list; the words are the rules'; restore takes every result; an image that
-- restore takes, and so every result, stays as it is; each refusal exactly where the table says, and refused, nothing is written. Of the call.
-- Assumes nothing.
use Rattle.std.specs.Prelude.{◌≡◌, take, replicate}
use Rattle.std.proofs.Math.Bool.{true}
use mathlib.Core.List.{List}
use Prim.Native.Nat.{ℕ, min}
use Rattle.std.proofs.Math.ListN.{length, drop}
use Rattle.model.specs.Answers.{number_of}
use Rattle.address.specs.Here.{Addr, here}
use Rattle.image.specs.Image.{Form, Saved, marked, counted}
use Rattle.image.specs.Forms.{form_in}
use Rattle.image.specs.Chosen.{Tells}
use Rattle.image.specs.Versions.{versions}
use Rattle.salvage.specs.Salvage.{places, result, headed}
use Rattle.salvage.specs.Salvage as S
use Rattle.salvage.specs.Views.{row_of_words, Salvages}
use Rattle.salvage.specs.declared.Word.TheVariants as word
use Rattle.salvage.specs.declared.Ends.{Ends}
use Rattle.salvage.specs.declared.Ends.TheVariants as ends
use Rattle.salvage.specs.declared.Salvaged.{Salvaged}

-- 0 where bytes were written
abbrev pub ends_number : Ends → ℕ
ends_number (ends.Whole n) = 0
ends_number (ends.Refused r) = number_of r

module _ (bytes row : List ℕ) (r : Salvaged) (row' : List ℕ) (met : Salvages bytes row r row') where
  -- the form that the image has, and what is left
  abbrev pub f : Form Addr
  f = form_in versions bytes

  abbrev pub left : List ℕ
  left = result here versions bytes

  -- bytes were written: every test was passed; they are the image of what is left, and places past the last stay as lent; what is said of the image
  pub record Wrote (n : ℕ) : Type 0 where
    pub is_marked : marked f bytes ≡ true
    pub is_headed : headed here f bytes ≡ true
    pub size : n ≡ length left
    pub bytes_are : take n row' ≡ left
    pub rest : drop n row' ≡ drop n row
    pub count : r.count ≡ counted f bytes
    pub many : r.places ≡ min (counted f bytes) 64
    pub words : r.words ≡ row_of_words (S.words here f bytes)

-- nothing is changed: every byte stays, and every place is kept
abbrev pub all_kept : List ℕ → Salvaged
all_kept bytes =
    let n = counted (form_in versions bytes) bytes in
    record { ends = ends.Whole (length bytes); count = n; places = n; words = row_of_words (replicate n word.Kept) }

pub record Unchanged (bytes : List ℕ) (r : Salvaged) (row' : List ℕ) : Type 0 where
  pub answer : r ≡ all_kept bytes
  pub same : take (length bytes) row' ≡ bytes

-- bytes that pass every test of an image
module _ (bytes : List ℕ) (s : Saved Addr) (t : Tells here versions bytes s) (i : result here versions bytes ≡ bytes) where
  abbrev pub same : List ℕ
  same = result here versions bytes
