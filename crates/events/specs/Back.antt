-- An event that was written reads back.
-- Assumes nothing.
use Rattle.std.specs.Prelude.{◌≡◌, refl, true, false, List, [], ◌∷◌, ◌++◌, ℕ, ◌+◌, ◌^◌, ◌≤◌, ◌<◌, eqb, length}
use Rattle.std.proofs.Common.{ap, sym, ◌∙◌, append-nil, arith, lit<, lit≤, length-append, eqb-true}
use Rattle.model.specs.Rows.{pick}
use Rattle.address.specs.Here.{Addr, here, here_text as text, here_text-long, here_chars}
use Rattle.types.specs.Wire.{varint, tag, delimited, string, number, Fields, event_bytes}
use Rattle.varint.specs.VarintLaws.{varint-some}
use Rattle.fields.specs.declared.Field.{Field}
use Rattle.fields.specs.FieldLaws.{head_of, delimited-long, next-number, next-delimited, content-delimited}
use Rattle.fields.specs.Walk.{Read, read, Step, walk}
use Rattle.fields.specs.Walks.{walk_end, walk_field}
use Rattle.utf8.specs.Utf8.{utf8}
use Rattle.iptext.specs.declared.Text.TheVariants.{Empty, Given}
use Rattle.iptext.specs.Reading.{text_of}
use Rattle.iptext.specs.Texts.{text-back, text-long}
use Rattle.iptext.specs.Letters.{text-utf8}
use Rattle.events.specs.declared.TextField.TheVariants as said
use Rattle.events.specs.Event.{text_at, event_step, unsaid}
use Rattle.events.specs.Stepping.{text_read, from_read, subject_read, number_read}

-- the four kinds of event have the same fields
abbrev pub kind : ℕ → Fields
kind k = record { event = k; from = 1; subject = 2; number = 3 }

-- a field of bytes, as it is found
abbrev pub delimited_field : ℕ → List ℕ → Field
delimited_field n bytes =
    record { number = n; wire = 2; value = length bytes; head = head_of n bytes; size = head_of n bytes + length bytes }

pub string-some : (n : ℕ) (bytes : List ℕ) → 1 ≤ length bytes → string n bytes ≡ delimited n bytes
string-some n [] h = absurd (omega arith)
string-some n (b ∷ bytes) h = refl

pub delimited-some : (n : ℕ) (bytes : List ℕ) → 1 ≤ length (delimited n bytes)
delimited-some n bytes = omega (arith, delimited-long n bytes, varint-some (length bytes))

pub text_fits : (a : Addr) → length (text a) < 2 ^ 64
text_fits a = let t = here_chars a in let l = here_text-long a in omega arith

-- the text of an address is read from the field that holds it
pub text_field : (n : ℕ) (a : Addr) (rest : List ℕ) → here.valid a ≡ true → text_at (delimited n (text a) ++ rest) (delimited_field n (text a)) ≡ said.Read (Given a)
text_field n a rest h =
    let e = content-delimited n (text a) rest in
    sym (text_read (delimited n (text a) ++ rest) (delimited_field n (text a)) true (Given a) refl
    (sym (ap utf8 e ∙ text-utf8 a h)) refl (sym (ap text_of e ∙ text-back a h)))

-- a text field that is written, before anything else
module _ {S : Type 0} (step : Step S) (n : ℕ) (a : Addr) (h : 1 ≤ n) (k : n < 2 ^ 29) where
  pub walk-text : (place : ℕ) (rest : List ℕ) (s s' : S) → ((p : ℕ) → step s p (delimited n (text a) ++ rest) (delimited_field n (text a)) ≡ read s')
      → walk step place (string n (text a) ++ rest) s ≡ walk step (place + length (delimited n (text a))) rest s'
  walk-text place rest s s' q =
      ap (λ (l : List ℕ). walk step place (l ++ rest) s) (string-some n (text a) (text-long a))
      ∙ walk_field step place (delimited n (text a)) rest s s' (delimited_field n (text a)) (delimited-some n (text a)) (sym (delimited-long n (text a)))
      (next-delimited n (text a) rest h k (text_fits a)) (q place)

-- a number field that is written last: 0 is left out, and is what is said without it
module _ {S : Type 0} (step : Step S) (n v : ℕ) (h : 1 ≤ n) (k : n < 2 ^ 29) (f : v < 2 ^ 64) where
  pub walk-number : (place : ℕ) (s s' : S) → (v ≡ 0 → s ≡ s')
      → ((p : ℕ) → step s p (tag n 0 ++ varint v ++ []) (record { number = n; wire = 0; value = v; head = length (tag n 0); size = length (tag n 0) + length (varint v) }) ≡ read s')
      → walk step place (number n v) s ≡ read s'
  walk-number place s s' z q =
      (elim (eqb v 0) as (λ u. eqb v 0 ≡ u → walk step place (pick u [] (tag n 0 ++ varint v)) s ≡ read s') [
        | true ↦ λ e. walk_end step place [] s refl ∙ ap read (z (eqb-true v 0 e))
        | false ↦ λ e.
            ap (λ (l : List ℕ). walk step place l s) (sym (append-nil (tag n 0 ++ varint v)))
            ∙ walk_field step place (tag n 0 ++ varint v) [] s s' _
            (omega (arith, length-append (tag n 0) (varint v), varint-some v)) (sym (length-append (tag n 0) (varint v))) (next-number n v [] h k f) (q place)
            ∙ walk_end step (place + length (tag n 0 ++ varint v)) [] s' refl
      ]) refl

pub event-back : (place k : ℕ) (from subject : Addr) (n : ℕ) → here.valid from ≡ true → here.valid subject ≡ true → n < 2 ^ 64
    → walk event_step place (event_bytes (kind k) (text from) (text subject) n) unsaid ≡ read (record { from = Given from; subject = Given subject; number = n })
event-back place k from subject n hf hs hn =
    walk-text event_step 1 from (lit≤ tt) (lit< tt) place (string 2 (text subject) ++ number 3 n) unsaid (record { from = Given from; subject = Empty; number = 0 })
    (λ p. sym (from_read unsaid p _ (delimited_field 1 (text from)) (Given from) refl (sym (text_field 1 from (string 2 (text subject) ++ number 3 n) hf))))
    ∙ walk-text event_step 2 subject (lit≤ tt) (lit< tt) _ (number 3 n) (record { from = Given from; subject = Empty; number = 0 }) (record { from = Given from; subject = Given subject; number = 0 })
    (λ p. sym (subject_read (record { from = Given from; subject = Empty; number = 0 }) p _ (delimited_field 2 (text subject)) (Given subject) refl (sym (text_field 2 subject (number 3 n) hs))))
    ∙ walk-number event_step 3 n (lit≤ tt) (lit< tt) hn _ (record { from = Given from; subject = Given subject; number = 0 }) (record { from = Given from; subject = Given subject; number = n })
    (λ z. ap (λ (m : ℕ). record { from = Given from; subject = Given subject; number = m }) (sym z))
    (λ p. sym (number_read (record { from = Given from; subject = Given subject; number = 0 }) p _ _ refl refl))
