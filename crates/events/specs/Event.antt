-- The fields of an event: texts 1 and 2 are addresses, 3 is a number, others are passed over.
-- Assumes nothing.
use Rattle.std.specs.Prelude.{List, ℕ, eqb}
use Rattle.model.specs.Rows.{pick}
use Rattle.fields.specs.declared.Field.{Field}
use Rattle.fields.specs.Field.{content}
use Rattle.fields.specs.Walk.{Read, stopped, read, Step}
use Rattle.utf8.specs.Utf8.{utf8}
use Rattle.iptext.specs.declared.Text.{Text}
use Rattle.iptext.specs.declared.Text.TheVariants.{Empty}
use Rattle.iptext.specs.Reading.{text_of}
use Rattle.events.specs.declared.Said.{Said}
use Rattle.events.specs.declared.Merged.{Merged}
use Rattle.events.specs.declared.Merged.TheVariants as merged
use Rattle.events.specs.declared.TextField.{TextField}
use Rattle.events.specs.declared.TextField.TheVariants as text

-- a text has wire type 2 and is UTF-8
unfoldable pub text_at : List ℕ → Field → TextField
text_at bytes f =
    pick (eqb f.wire 2) (pick (utf8 (content bytes f)) (text.Read (text_of (content bytes f))) text.Stopped) text.Stopped

-- a field that is no text stops the reading at its start
unfoldable pub put_text : {S : Type 0} → ℕ → TextField → (Text → S) → Read S
put_text place text.Stopped put = stopped place
put_text place (text.Read t) put = read (put t)

-- nor may a number have another wire type than 0
unfoldable pub put_number : {S : Type 0} → ℕ → Field → (ℕ → S) → Read S
put_number place f put = pick (eqb f.wire 0) (read (put f.value)) (stopped place)

-- the last of a repeated field counts
unfoldable pub event_step : Step Said
event_step s place bytes f =
    pick (eqb f.number 1) (put_text place (text_at bytes f) (λ t. record { from = t; subject = s.subject; number = s.number }))
    (pick (eqb f.number 2) (put_text place (text_at bytes f) (λ t. record { from = s.from; subject = t; number = s.number }))
    (pick (eqb f.number 3) (put_number place f (λ n. record { from = s.from; subject = s.subject; number = n }))
    (read s)))

-- nothing is said yet: a text that is missing is empty, and a number 0
abbrev pub unsaid : Said
unsaid = record { from = Empty; subject = Empty; number = 0 }

abbrev pub as_merged : Read Said → Merged
as_merged (stopped place) = merged.Stopped place
as_merged (read s) = merged.Read s
