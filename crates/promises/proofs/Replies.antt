-- The kinds of reply are apart, and so are the numbers of the refusals.
-- Assumes nothing.
use Rattle.std.specs.Prelude.{◌≡◌, refl, ℕ, eqb}
use Rattle.std.proofs.Common.{sym, ◌∙◌, ap, arith}
use Rattle.std.proofs.Math.Option.{some}
use Rattle.model.specs.declared.Refusal.{Refusal}
use Rattle.model.specs.declared.Refusal.TheVariants.{Setting, Unsound, ShortRow, ManyRecords, AddressRange, NumberEnd, ListFull, DrawsShort, AliveFull, TimersFull, Malformed, NoRoom, DeceasedFull, WrongMark, WrongLength, OutOfRule}
use Rattle.model.specs.declared.Cause.{Cause}
use Rattle.model.specs.declared.Reply.{Reply}
use Rattle.model.specs.declared.Reply.TheVariants.{Done, Already, NotDue, Refuted, Gone, Refused, RefusedAt}
use Rattle.model.specs.Rows.{pick}
use Rattle.model.specs.Answers.{number_of}
use Rattle.model.specs.Calls.{refusal_of}
use Rattle.promises.specs.Replies.{kind, NotDone}

-- a refusal is not kept
pub refusal_unkept : (z : Reply) (x : Refusal) → refusal_of z ≡ some x → NotDone z
refusal_unkept (Done used) x e = let z : ◌≡◌ {A = ℕ} 0 1 = cc in omega arith
refusal_unkept Already x e = tt
refusal_unkept NotDue x e = tt
refusal_unkept Refuted x e = let z : ◌≡◌ {A = ℕ} 0 1 = cc in omega arith
refusal_unkept Gone x e = let z : ◌≡◌ {A = ℕ} 0 1 = cc in omega arith
refusal_unkept (Refused r) x e = tt
refusal_unkept (RefusedAt r at) x e = tt

pub done_apart : {B : Type 0} {used : ℕ} {x : Refusal} → Done used ≡ Refused x → B
unfolding kind
done_apart e = let z : ◌≡◌ {A = ℕ} 0 3 = ap kind e in absurd (omega arith)

pub cause_apart : {B : Type 0} {r x : Refusal} {at : Cause} → Refused r ≡ RefusedAt x at → B
unfolding kind
cause_apart e = let z : ◌≡◌ {A = ℕ} 3 4 = ap kind e in absurd (omega arith)

pub already_apart : {B : Type 0} {x : Refusal} → Already ≡ Refused x → B
unfolding kind
already_apart e = let z : ◌≡◌ {A = ℕ} 1 3 = ap kind e in absurd (omega arith)

pub not_due_apart : {B : Type 0} {x : Refusal} → NotDue ≡ Refused x → B
unfolding kind
not_due_apart e = let z : ◌≡◌ {A = ℕ} 2 3 = ap kind e in absurd (omega arith)

-- ---- numbers
-- the refusal of a number of the table
named : ℕ → Refusal
named n =
    pick (eqb n 1) Setting
    (pick (eqb n 2) Unsound
    (pick (eqb n 3) ShortRow
    (pick (eqb n 4) ManyRecords
    (pick (eqb n 5) AddressRange
    (pick (eqb n 6) NumberEnd
    (pick (eqb n 7) ListFull
    (pick (eqb n 8) DrawsShort
    (pick (eqb n 9) AliveFull
    (pick (eqb n 10) TimersFull
    (pick (eqb n 11) Malformed
    (pick (eqb n 12) NoRoom
    (pick (eqb n 13) DeceasedFull
    (pick (eqb n 14) WrongMark
    (pick (eqb n 15) WrongLength OutOfRule))))))))))))))

named_is : (x : Refusal) → named (number_of x) ≡ x
unfolding named
named_is Setting = refl
named_is Unsound = refl
named_is ShortRow = refl
named_is ManyRecords = refl
named_is AddressRange = refl
named_is NumberEnd = refl
named_is ListFull = refl
named_is DrawsShort = refl
named_is AliveFull = refl
named_is TimersFull = refl
named_is Malformed = refl
named_is NoRoom = refl
named_is DeceasedFull = refl
named_is WrongMark = refl
named_is WrongLength = refl
named_is OutOfRule = refl

pub same_number : (r x : Refusal) → number_of r ≡ number_of x → r ≡ x
same_number r x e = sym (named_is r) ∙ ap named e ∙ named_is x

pub not_zero : (x : Refusal) → ◌≡◌ {A = ℕ} 0 (number_of x) → ⊥
not_zero Setting e = absurd (omega arith)
not_zero Unsound e = absurd (omega arith)
not_zero ShortRow e = absurd (omega arith)
not_zero ManyRecords e = absurd (omega arith)
not_zero AddressRange e = absurd (omega arith)
not_zero NumberEnd e = absurd (omega arith)
not_zero ListFull e = absurd (omega arith)
not_zero DrawsShort e = absurd (omega arith)
not_zero AliveFull e = absurd (omega arith)
not_zero TimersFull e = absurd (omega arith)
not_zero Malformed e = absurd (omega arith)
not_zero NoRoom e = absurd (omega arith)
not_zero DeceasedFull e = absurd (omega arith)
not_zero WrongMark e = absurd (omega arith)
not_zero WrongLength e = absurd (omega arith)
not_zero OutOfRule e = absurd (omega arith)
