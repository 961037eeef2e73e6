-- Where reading stops is a place of the input: so a place that is the input's length says that the bytes are well formed.
-- Assumes nothing.
use Rattle.std.specs.Prelude.{◌≡◌, Bool, true, false, List, ℕ, ◌+◌, ◌<◌, eqb, ltb, length}
use Rattle.std.proofs.Common.{arith}
use Rattle.model.specs.Rows.{pick}
use Rattle.fields.specs.declared.Field.{Field}
use Rattle.fields.specs.Field.{content}
use Rattle.fields.specs.FieldLaws.{Lies}
use Rattle.fields.specs.Walk.{Read, stopped, read, walk}
use Rattle.fields.specs.Places.{StopsIn, Inside, not_read, same_place, then_stops, walk_stops, content_stops}
use Rattle.iptext.specs.declared.Text.{Text}
use Rattle.events.specs.declared.TextField.{TextField}
use Rattle.events.specs.declared.TextField.TheVariants as text
use Rattle.events.specs.Event.{text_at, put_text, put_number, event_step}
use Rattle.gossips.specs.Gossip.{unheld, started, gossip_step}
use Rattle.actions.specs.declared.Piece.TheVariants.{Unknown, From, Other}
use Rattle.actions.specs.Action.{piece_at, action_step}
use Rattle.incoming.specs.Datagram.{unsent, resumed, message_step}

module _ {S : Type 0} (place last : ℕ) where
  read_stops : (s : S) → StopsIn place last (read s)
  read_stops s p e = absurd (not_read s p e)

  pick_stops : (u : Bool) (x y : Read S) → StopsIn place last x → StopsIn place last y → StopsIn place last (pick u x y)
  pick_stops true x y f g = f
  pick_stops false x y f g = g

  here_stops : place < last → StopsIn {S = S} place last (stopped place)
  here_stops h p e = let z = same_place {S = S} place p e in record { from = omega arith; below = omega arith }

  text_stops : (x : TextField) (into : Text → S) → place < last → StopsIn place last (put_text place x into)
  unfolding put_text
  text_stops text.Stopped into h = here_stops h
  text_stops (text.Read t) into h = read_stops (into t)

  number_stops : (f : Field) (into : ℕ → S) → place < last → StopsIn place last (put_number place f into)
  unfolding put_number
  number_stops f into h = pick_stops (eqb f.wire 0) (read (into f.value)) (stopped place) (read_stops (into f.value)) (here_stops h)

inner : (place : ℕ) (bytes : List ℕ) (f : Field) → Lies (length bytes) f → place < place + f.size
inner place bytes f w = omega (arith, w.some, w.begins)

event-inside : Inside event_step
unfolding event_step
event-inside = record {
  inside = λ s place bytes f w.
      let h = inner place bytes f w in
      let l : ℕ = place + f.size in
      pick_stops place l (eqb f.number 1) _ _ (text_stops place l (text_at bytes f) _ h)
      (pick_stops place l (eqb f.number 2) _ _ (text_stops place l (text_at bytes f) _ h)
      (pick_stops place l (eqb f.number 3) _ _ (number_stops place l f _ h) (read_stops place l s)));
}

gossip-inside : Inside gossip_step
unfolding gossip_step
gossip-inside = record {
  inside = λ s place bytes f w.
      let h = inner place bytes f w in
      let l : ℕ = place + f.size in
      pick_stops place l (ltb 4 f.number) _ _ (read_stops place l s)
      (pick_stops place l (eqb f.wire 2) _ _
      (then_stops place l (walk event_step (place + f.head) (content bytes f) (started s f.number)) _
      (content_stops event_step event-inside place bytes f (started s f.number) w) (λ t. read_stops place l _))
      (here_stops place l h));
}

piece_stops : (place : ℕ) (bytes : List ℕ) (f : Field) → Lies (length bytes) f → StopsIn place (place + f.size) (piece_at place bytes f)
unfolding piece_at
piece_stops place bytes f w =
    let h = inner place bytes f w in
    let l : ℕ = place + f.size in
    pick_stops place l (eqb f.number 1) _ _ (text_stops place l (text_at bytes f) From h)
    (pick_stops place l (eqb f.number 2) _ _ (text_stops place l (text_at bytes f) Other h)
    (pick_stops place l (eqb f.number 3) _ _
    (pick_stops place l (eqb f.wire 2) _ _
    (then_stops place l (walk gossip_step (place + f.head) (content bytes f) unheld) _ (content_stops gossip_step gossip-inside place bytes f unheld w) (λ t. read_stops place l _))
    (here_stops place l h))
    (read_stops place l Unknown)))

action_inside : Inside action_step
unfolding action_step
action_inside = record {
  inside = λ a place bytes f w.
      then_stops place (place + f.size) (piece_at place bytes f) _ (piece_stops place bytes f w) (λ p. read_stops place (place + f.size) _);
}

message-inside : Inside message_step
unfolding message_step
message-inside = record {
  inside = λ m place bytes f w.
      let h = inner place bytes f w in
      let l : ℕ = place + f.size in
      pick_stops place l (ltb 3 f.number) _ _ (read_stops place l m)
      (pick_stops place l (eqb f.wire 2) _ _
      (then_stops place l (walk action_step (place + f.head) (content bytes f) (resumed m f.number)) _
      (content_stops action_step action_inside place bytes f (resumed m f.number) w) (λ t. read_stops place l _))
      (here_stops place l h));
}

-- WHERE READING STOPS LIES WITHIN THE INPUT
pub stops_within : (bytes : List ℕ) (p : ℕ) → walk message_step 0 bytes unsent ≡ stopped p → p < length bytes
stops_within bytes p e = let x = walk_stops message_step message-inside 0 bytes unsent p e in omega (arith, x.below)
