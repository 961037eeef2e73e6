-- Each way out of the functions that read a datagram without a row.
-- Assumes nothing.
use Rattle.std.specs.Prelude.{◌≡◌, refl, false, ℕ, ◌+◌, ◌≤◌, ◌<◌, min, length, take}
use Rattle.std.proofs.Math.Path.{sym, ap}
use Rattle.std.proofs.Common.{◌∙◌}
use mathlib.Core.List.{List, []}
use native.Mathlib.Omega.{arith}
use Rattle.std.proofs.Math.ListN.{drop}
use Rattle.types.specs.declared.Gossip.{Gossip}
use Rattle.fields.specs.declared.Field.{Field}
use Rattle.fields.specs.declared.Next.TheVariants.{Found}
use Rattle.fields.specs.Field.{next_in, content}
use Rattle.fields.specs.FieldLaws.{next_lies}
use Rattle.fields.specs.Walk.{Read, Step, read, walk}
use Rattle.fields.specs.Walks.{Going, going_none, going_end, going_more}
use Rattle.iptext.specs.declared.Text.{Text}
use Rattle.iptext.specs.declared.Text.TheVariants.{Empty}
use Rattle.events.specs.declared.TextField.{TextField}
use Rattle.events.specs.declared.TextField.TheVariants as text
use Rattle.events.specs.Event.{text_at}
use Rattle.actions.specs.declared.Piece.TheVariants.{From, Other}
use Rattle.actions.specs.Action.{Acting, silent, put, action_step}
use Rattle.actions.specs.Stepping.{from_read, other_read, step_read}
use Rattle.incoming.specs.declared.Decoded.{Decoded}
use Rattle.incoming.specs.declared.Decoded.TheVariants.{Malformed, Whole}
use Rattle.incoming.specs.declared.Reading.{Reading}
use Rattle.incoming.specs.declared.Texts.{Texts}
use Rattle.incoming.specs.declared.Texts.TheVariants as texts
use Rattle.incoming.specs.declared.Brief.{Brief}
use Rattle.incoming.specs.declared.Brief.TheVariants as brief
use Rattle.incoming.specs.Datagram.{Message, unsent, resumed, message_step, judge_of, finish, decode, Decode, told_of, given_of, Takes}
use Rattle.incoming.specs.Stepping.{inner_read, takes_told}
use Rattle.incoming.specs.Back.{silent-resumed}
use Rattle.incoming.specs.Brief.{Ends, spoken, Pairs, Briefly}

-- a walk whose first field is f, which does no more than change the state
module _ {S : Type 0} (step : Step S) (place : ℕ) (bytes : List ℕ) (s s' : S) (f : Field) (q : Found f ≡ next_in bytes) (e : read s' ≡ step s (place + 0) bytes f) where
  begun : Going step place bytes s (0 + f.size) s'
  begun =
      let w = next_lies bytes f (sym q) in
      going_more step place bytes s 0 s (going_none step place bytes s) bytes refl (omega (arith, w.some, w.begins, w.ends)) f q s' e

  over : f.size ≡ length bytes → read s' ≡ walk step place bytes s
  over h = going_end step place bytes s (0 + f.size) s' begun (omega (arith, h))

-- nothing is told
pub ends_not : (bytes : List ℕ) → Ends bytes text.Stopped
ends_not bytes = record { says = λ t h. let z : ◌≡◌ {A = ℕ} 0 1 = cc in absurd (omega arith) }

pub pairs_not : (bytes : List ℕ) → Pairs bytes texts.Longer
pairs_not bytes = record { says = λ from other h. let z : ◌≡◌ {A = ℕ} 0 1 = cc in absurd (omega arith) }

pub briefly_not : (bytes : List ℕ) → Briefly bytes brief.Longer
briefly_not bytes = record { says = λ d h. let z : ◌≡◌ {A = ℕ} 0 1 = cc in absurd (omega arith) }

-- the other address is all that is left
pub ends-told : (bytes : List ℕ) (f : Field) (r : TextField) → Found f ≡ next_in bytes → f.number ≡ 2 → f.size ≡ length bytes → r ≡ text_at bytes f → Ends bytes r
ends-told bytes f r q n h e =
    record {
      says = λ t told place a.
          over action_step place bytes a (put a (Other t)) f q
          (step_read a (place + 0) bytes f (Other t) (other_read (place + 0) bytes f n t (sym told ∙ e))) h;
    }

module _ (bytes : List ℕ) (f : Field) (from : Text) (q : Found f ≡ next_in bytes) (n : f.number ≡ 1) (e : text.Read from ≡ text_at bytes f) where
  first-text : (place : ℕ) → read (spoken from Empty) ≡ action_step silent (place + 0) bytes f
  unfolding put
  first-text place = step_read silent (place + 0) bytes f (From from) (from_read (place + 0) bytes f n from e)

  same : (other a b : Text) → texts.Both from other ≡ texts.Both a b → read (spoken a b) ≡ read (spoken from other)
  same other a b u =
      let ea : a ≡ from = cc in
      let eb : b ≡ other = cc in
      ap (λ (x : Text). read (spoken x b)) ea ∙ ap (λ (x : Text). read (spoken from x)) eb

  -- the sender's is all there is
  pub pairs_one : f.size ≡ length bytes → Pairs bytes (texts.Both from Empty)
  pairs_one h = record { says = λ a b u place. same Empty a b u ∙ over action_step place bytes silent (spoken from Empty) f q (first-text place) h }

  -- or both are
  pub pairs_two : (rest : List ℕ) (r : TextField) (other : Text) → rest ≡ drop f.size bytes → Ends rest r → r ≡ text.Read other → Pairs bytes (texts.Both from other)
  unfolding put
  pairs_two rest r other d g t =
      record {
        says = λ a b u place.
            let here = begun action_step place bytes silent (spoken from Empty) f q (first-text place) in
            let z : f.size ≡ 0 + f.size = omega arith in
            same other a b u
            ∙ g.says other t (place + (0 + f.size)) (spoken from Empty)
            ∙ ap (λ (l : List ℕ). walk action_step (place + (0 + f.size)) l (spoken from Empty)) (d ∙ ap (λ (k : ℕ). drop k bytes) z)
            ∙ sym here.says;
      }

-- one action, and what it comes to
pub briefly_told : (bytes : List ℕ) (f : Field) (from other : Text) (r : Texts) (d : Decoded)
    → Found f ≡ next_in bytes → f.number ≤ 3 → f.wire ≡ 2 → f.size ≡ length bytes → Pairs (content bytes f) r → r ≡ texts.Both from other
    → d ≡ judge_of f.number from other false (length bytes) → Briefly bytes (brief.Told d)
unfolding decode finish
briefly_told bytes f from other r d q l w h p e j =
    let m : Message = record { kind = f.number; acting = spoken from other } in
    let inner : read (spoken from other) ≡ walk action_step (0 + 0 + f.head) (content bytes f) (resumed unsent f.number) =
    p.says from other e (0 + 0 + f.head) ∙ ap (λ (a : Acting). walk action_step (0 + 0 + f.head) (content bytes f) a) (sym (silent-resumed f.number)) in
    let whole : read m ≡ walk message_step 0 bytes unsent = over message_step 0 bytes unsent m f q (inner_read unsent (0 + 0) bytes f l w (spoken from other) inner) h in
    let said : decode bytes ≡ record { answer = judge_of f.number from other false (length bytes); gossip = [] } =
    ap (λ (x : Read Message). finish (length bytes) x) (sym whole) in
    record { says = λ x u. let v : d ≡ x = cc in said ∙ ap (λ (y : Decoded). record { answer = y; gossip = [] }) (sym j ∙ v) }

-- what a host is told of it, whatever stands in the row
none-given : (d : Decoded) → 0 ≡ given_of (told_of d 0)
unfolding told_of given_of
none-given (Malformed place) = refl
none-given (Whole action) = refl

pub takes_bare : (bytes : List ℕ) (places : ℕ) (row : List Gossip) (r : Brief) (d : Decoded) (answer : Reading)
    → 64 ≤ places → Briefly bytes r → r ≡ brief.Told d → answer ≡ told_of d 0 → Takes bytes places (record { count = 0; row = row; answer = answer })
takes_bare bytes places row r d answer room g e t =
    let said = g.says d e in
    takes_told bytes places room (record { answer = d; count = 0; row = row })
    (record {
      says = sym (ap (λ (x : Decode). x.answer) said);
      counts = sym (ap (λ (x : Decode). min (length x.gossip) 65) said);
      hands = sym (ap (λ (x : Decode). take 64 x.gossip) said);
    })
    answer 0 t (none-given d ∙ ap given_of (sym t))
