-- The refusals, and how a rule answers.
-- Assumes nothing.
use Rattle.std.specs.Prelude.{Bool, true, false, List, [], ◌∷◌, ℕ}
use Rattle.model.specs.declared.Kind.{Kind}
use Rattle.model.specs.declared.Kind.TheVariants as kind
use Rattle.model.specs.declared.Refusal.{Refusal}
use Rattle.model.specs.declared.Refusal.TheVariants.{Setting, Unsound, ShortRow, ManyRecords, AddressRange, NumberEnd, ListFull, DrawsShort, AliveFull, TimersFull, Malformed, NoRoom, DeceasedFull, WrongMark, WrongLength, OutOfRule}

-- the table: the number of each refusal. A node's calls give 1 to 10 and 13; 11 is of bytes that are no datagram, 12 of bytes that the lent row has no room for, 14 to 16 of bytes that are no saved list
abbrev pub number_of : Refusal → ℕ
number_of Setting = 1
number_of Unsound = 2
number_of ShortRow = 3
number_of ManyRecords = 4
number_of AddressRange = 5
number_of NumberEnd = 6
number_of ListFull = 7
number_of DrawsShort = 8
number_of AliveFull = 9
number_of TimersFull = 10
number_of Malformed = 11
number_of NoRoom = 12
number_of DeceasedFull = 13
number_of WrongMark = 14
number_of WrongLength = 15
number_of OutOfRule = 16

-- "Refusals: 9 alive heap full, 13 deceased heap full"
abbrev pub full_of : Kind → Refusal
full_of kind.Alive = AliveFull
full_of kind.Deceased = DeceasedFull

-- a rule's answer: a refusal, or what it gives and the draws that are left
pub data Answer (B : Type 0) : Type 0 where
  refused : Refusal → Answer B
  done : B → List ℕ → Answer B

-- "Then the rules run in order, the first of 6 to 10 that they reach is given, and nothing is kept."
abbrev pub and_then : {B C : Type 0} → Answer B → (B → List ℕ → Answer C) → Answer C
and_then (refused r) k = refused r
and_then (done b ds) k = k b ds

-- A choice between answers. It is shut, so that a proof finds its parts: the laws of a rule go through it by one lemma
unfoldable pub when : {B : Type 0} → Bool → Answer B → Answer B → Answer B
when true x y = x
when false x y = y

-- "a draw is needed past the end of the draws": refusal 8
abbrev pub draw : {B : Type 0} → List ℕ → (ℕ → List ℕ → Answer B) → Answer B
draw [] k = refused DrawsShort
draw (d ∷ ds) k = k d ds
