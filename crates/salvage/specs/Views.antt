-- The words of the contracts.
-- Assumes nothing.
use Rattle.std.specs.Prelude.{◌≡◌, List, [], map, ℕ, ◌≤◌, length, take, ltb}
use Rattle.model.specs.Rows.{pick, pad_to}
use Rattle.address.specs.Here.{Addr, here}
use Rattle.image.specs.Image.{Form, entry}
use Rattle.image.specs.Versions.{versions}
use Rattle.image.specs.Views.{place_of, read_member}
use Rattle.image.specs.declared.Place.{Place}
use Rattle.salvage.specs.Salvage.{Ending, salvaged, not_salvaged, Salvage, word_of, kept_of, words_of, salvage}
use Rattle.salvage.specs.declared.Word.{Word}
use Rattle.salvage.specs.declared.Word.TheVariants as word
use Rattle.salvage.specs.declared.Said.{Said}
use Rattle.salvage.specs.declared.Seen.{Seen}
use Rattle.salvage.specs.declared.Sifted.{Sifted}
use Rattle.salvage.specs.declared.Ends.{Ends}
use Rattle.salvage.specs.declared.Ends.TheVariants as ends
use Rattle.salvage.specs.declared.Salvaged.{Salvaged}

-- words in a row of 64
abbrev pub said : Word → Said
said w = record { word = w }

unfoldable pub row_of_words : List Word → List Said
row_of_words l = pad_to 64 (said word.Cut) (map said l)

-- a place that holds nothing
abbrev pub no_place : Place
no_place = record { addr = here.blank; state = 0; number = 0 }

-- what is seen of the place at the start of some bytes
unfoldable pub seen_of : Form Addr → List Addr → List ℕ → Seen
seen_of f kept bytes = record { word = word_of here f kept bytes; place = pick (ltb (length bytes) (entry f).width) no_place (place_of ((entry f).get bytes)) }

-- a kept place is one more
unfoldable pub more_of : Word → ℕ
more_of word.Cut = 0
more_of word.Address = 0
more_of word.State = 0
more_of word.Repeat = 0
more_of word.Kept = 1

-- the first n places sifted: the records kept stand first in the table, and the words in their row
pub record Sifts (f : Form Addr) (bytes : List ℕ) (n : ℕ) (s : Sifted) : Type 0 where
  pub many : s.len ≡ length (kept_of here f bytes n)
  pub few : s.len ≤ n
  pub table : take s.len s.table ≡ map read_member (kept_of here f bytes n)
  pub words : s.words ≡ row_of_words (words_of here f bytes n)

abbrev pub not_done : Ends → Salvaged
not_done e = record { ends = e; count = 0; places = 0; words = row_of_words [] }

abbrev pub ending_of : Ending → Salvaged
ending_of (salvaged n count words) = record { ends = ends.Whole n; count = count; places = length words; words = row_of_words words }
ending_of (not_salvaged r) = not_done (ends.Refused r)

-- salvaging an image into a lent row
abbrev pub salvage_of : List ℕ → List ℕ → Salvage
salvage_of bytes row = salvage here versions bytes row

pub record Salvages (bytes row : List ℕ) (r : Salvaged) (row' : List ℕ) : Type 0 where
  pub answer : r ≡ ending_of (salvage_of bytes row).ends
  pub written : row' ≡ (salvage_of bytes row).row
