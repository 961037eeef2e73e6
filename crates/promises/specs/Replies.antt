-- The kinds of reply are apart, and so are the numbers of the refusals.
-- Assumes nothing.
use Rattle.std.specs.Prelude.{ℕ}
use Rattle.model.specs.declared.Reply.{Reply}
use Rattle.model.specs.declared.Reply.TheVariants.{Done, Already, NotDue, Refuted, Gone, Refused, RefusedAt}

-- the replies, told apart by a number
unfoldable pub kind : Reply → ℕ
kind (Done used) = 0
kind Already = 1
kind NotDue = 2
kind (Refused r) = 3
kind (RefusedAt r at) = 4
kind Refuted = 5
kind Gone = 6

-- a reply of a call that is not kept: a refusal, "already", "not due". A timer that ended and removed nobody is kept: its place is freed
abbrev pub NotDone : Reply → Type 0
NotDone (Done used) = ⊥
NotDone Already = Unit {0}
NotDone NotDue = Unit {0}
NotDone Refuted = ⊥
NotDone Gone = ⊥
NotDone (Refused r) = Unit {0}
NotDone (RefusedAt r at) = Unit {0}
