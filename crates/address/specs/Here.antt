-- The address of this build. Every crate above names it by these words alone, so that another kind of address changes this file, not those.
-- Assumes nothing.
use Rattle.std.specs.Prelude.{◌≡◌, List, ℕ, ◌≤◌, ◌%◌, length}
use Rattle.model.specs.Words.{Address, Lawful}
use Rattle.address.specs.declared.Address as declared
use Rattle.address.specs.Families.{families, families_lawful, text_of, text_of-long, chars_of_bounds, slot_of}

abbrev pub Addr : Type 0
Addr = declared.Address

abbrev pub here : Address Addr
here = families

pub here_lawful : Lawful here
here_lawful = families_lawful

-- by which it is told from others, and where it is sought in a row
abbrev pub here_slot : Addr → ℕ
here_slot = slot_of

abbrev pub here_drawer : Addr → ℕ
here_drawer a = slot_of a % 64

-- its text, byte by byte, and how long that is
abbrev pub here_text : Addr → List ℕ
here_text = text_of

pub here_text-long : (a : Addr) → length (here_text a) ≡ here.chars a
here_text-long = text_of-long

pub here_chars : (a : Addr) → (6 ≤ here.chars a) × (here.chars a ≤ 47)
here_chars = chars_of_bounds
