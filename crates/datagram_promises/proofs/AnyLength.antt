-- WHAT A ROW OF FIELDS SPELLS, WHATEVER THEIR LENGTHS AND SPELLING AND HOWEVER MANY: at each level of the schema a field of a text sets it, so that the last of a repeated one counts; a message of the kind that is held
-- goes on with it, and one of another kind begins anew; each record is one more; and a field of another number, of any wire type and any length, says nothing.
-- Assumes nothing.
use Rattle.std.specs.Prelude.{◌≡◌, refl, Bool, List, [], ◌++◌, ℕ, ◌+◌, ◌^◌, ◌≤◌, ◌<◌, eqb, length, drop}
use Rattle.std.proofs.Math.Path.{ap, sym}
use Rattle.std.proofs.Common.{◌∙◌, arith, lit<, lit≤, eq-eqb, ne_eqb}
use Rattle.std.proofs.Math.Bool.{true, false}
use Rattle.model.specs.Rows.{pick}
use Rattle.types.specs.declared.Action.{Action}
use Rattle.types.specs.declared.Gossip.{Gossip}
use Rattle.types.specs.Wire.{tag, varint, delimited}
use Rattle.fields.specs.Field.{content}
use Rattle.fields.specs.Walk.{read, Step, walk}
use Rattle.fields.specs.Walks.{walk_end, walk_field}
use Rattle.utf8.specs.Utf8.{utf8}
use Rattle.iptext.specs.declared.Text.{Text}
use Rattle.iptext.specs.declared.Text.TheVariants.{Empty, Malformed, Given}
use Rattle.iptext.specs.Reading.{text_of}
use Rattle.events.specs.declared.Said.{Said}
use Rattle.events.specs.declared.TextField.TheVariants as text
use Rattle.events.specs.Event.{text_at, event_step, unsaid}
use Rattle.events.specs.Stepping as event
use Rattle.gossips.specs.declared.Held.{Held}
use Rattle.gossips.specs.declared.Settled.{Settled}
use Rattle.gossips.specs.declared.Settled.TheVariants.{Missing, Whole}
use Rattle.gossips.specs.Gossip.{unheld, started, gossip_step, settled}
use Rattle.gossips.specs.Stepping as gossip
use Rattle.actions.specs.declared.Piece.TheVariants.{Unknown, From, Other, News}
use Rattle.actions.specs.Action.{Acting, silent, put, action_step}
use Rattle.actions.specs.Stepping as action
use Rattle.incoming.specs.declared.Made.{Made}
use Rattle.incoming.specs.declared.Made.TheVariants as made
use Rattle.incoming.specs.declared.Decoded.TheVariants as decoded
use Rattle.incoming.specs.declared.Reading.{Reading}
use Rattle.incoming.specs.declared.Reading.TheVariants as reading
use Rattle.incoming.specs.Datagram.{Message, Decode, unsent, resumed, message_step, action_of, judge_made, judge_from, judge_of, finish, decode}
use Rattle.incoming.specs.Stepping as message
use Rattle.datagram.specs.Promises.{Reads}
use Rattle.datagram_promises.proofs.Exactly.{read_whole, read_row}
use Rattle.datagram_promises.specs.AnyField.{Holds, number_field, bytes_field}
use Rattle.datagram_promises.proofs.AnyField.{shortest-number, shortest-bytes, number-long, number-some, number_found, bytes-long, bytes-some, bytes_found, bytes-content, passed_over}
use Rattle.datagram_promises.specs.AnyLength.{Fits, EventSays, GossipSays, with_record, ActionSays, DatagramSays, event_end, event-from-by, event-subject-by, event-number-by, event_unknown, gossip_end, gossip-on-by, gossip_anew_by, gossip_unknown, action_end, action_from-by, action_other_by, action_record_by, action_unknown, datagram_end, datagram_on-by, datagram_anew_by, datagram_unknown}

-- ---- each in its shortest spelling
pub event-from : {s s' : Said} {rest : List ℕ} (bytes : List ℕ) → length bytes < 2 ^ 64 → utf8 bytes ≡ true
    → EventSays rest (record { from = text_of bytes; subject = s.subject; number = s.number }) s' → EventSays (delimited 1 bytes ++ rest) s s'
event-from bytes l u more = event-from-by (delimited 1 bytes) bytes (shortest-bytes 1 bytes (lit< tt) l) u more

pub event-subject : {s s' : Said} {rest : List ℕ} (bytes : List ℕ) → length bytes < 2 ^ 64 → utf8 bytes ≡ true
    → EventSays rest (record { from = s.from; subject = text_of bytes; number = s.number }) s' → EventSays (delimited 2 bytes ++ rest) s s'
event-subject bytes l u more = event-subject-by (delimited 2 bytes) bytes (shortest-bytes 2 bytes (lit< tt) l) u more

pub event-number : {s s' : Said} {rest : List ℕ} (v : ℕ) → v < 2 ^ 64
    → EventSays rest (record { from = s.from; subject = s.subject; number = v }) s' → EventSays ((tag 3 0 ++ varint v) ++ rest) s s'
event-number v l more = event-number-by (tag 3 0 ++ varint v) v (shortest-number 3 v (lit< tt) l) more

pub gossip-on : {h h' : Held} {rest : List ℕ} (k : ℕ) (bytes : List ℕ) (s : Said) → Fits k bytes → k ≤ 4 → h.kind ≡ k → EventSays bytes h.said s
    → GossipSays rest (record { kind = k; said = s }) h' → GossipSays (delimited k bytes ++ rest) h h'
gossip-on k bytes s f b e x more = gossip-on-by k (delimited k bytes) bytes s (shortest-bytes k bytes f.key f.count) f.some b e x more

pub gossip_anew : {h h' : Held} {rest : List ℕ} (k : ℕ) (bytes : List ℕ) (s : Said) → Fits k bytes → k ≤ 4 → (h.kind ≡ k → ⊥) → EventSays bytes unsaid s
    → GossipSays rest (record { kind = k; said = s }) h' → GossipSays (delimited k bytes ++ rest) h h'
gossip_anew k bytes s f b e x more = gossip_anew_by k (delimited k bytes) bytes s (shortest-bytes k bytes f.key f.count) f.some b e x more

pub action_from : {a a' : Acting} {rest : List ℕ} (bytes : List ℕ) → length bytes < 2 ^ 64 → utf8 bytes ≡ true
    → ActionSays rest (record { from = text_of bytes; other = a.other; bad = a.bad; gossip = a.gossip }) a' → ActionSays (delimited 1 bytes ++ rest) a a'
action_from bytes l u more = action_from-by (delimited 1 bytes) bytes (shortest-bytes 1 bytes (lit< tt) l) u more

pub action_other : {a a' : Acting} {rest : List ℕ} (bytes : List ℕ) → length bytes < 2 ^ 64 → utf8 bytes ≡ true
    → ActionSays rest (record { from = a.from; other = text_of bytes; bad = a.bad; gossip = a.gossip }) a' → ActionSays (delimited 2 bytes ++ rest) a a'
action_other bytes l u more = action_other_by (delimited 2 bytes) bytes (shortest-bytes 2 bytes (lit< tt) l) u more

pub action_record : {a a' : Acting} {rest : List ℕ} (bytes : List ℕ) (h : Held) → length bytes < 2 ^ 64 → GossipSays bytes unheld h
    → ActionSays rest (with_record a (settled h)) a' → ActionSays (delimited 3 bytes ++ rest) a a'
action_record bytes h l x more = action_record_by (delimited 3 bytes) bytes h (shortest-bytes 3 bytes (lit< tt) l) x more

pub datagram_on : {m m' : Message} {rest : List ℕ} (k : ℕ) (bytes : List ℕ) (a : Acting) → Fits k bytes → k ≤ 3 → m.kind ≡ k → ActionSays bytes m.acting a
    → DatagramSays rest (record { kind = k; acting = a }) m' → DatagramSays (delimited k bytes ++ rest) m m'
datagram_on k bytes a f b e x more = datagram_on-by k (delimited k bytes) bytes a (shortest-bytes k bytes f.key f.count) f.some b e x more

pub datagram_anew : {m m' : Message} {rest : List ℕ} (k : ℕ) (bytes : List ℕ) (a : Acting) → Fits k bytes → k ≤ 3 → (m.kind ≡ k → ⊥) → ActionSays bytes silent a
    → DatagramSays rest (record { kind = k; acting = a }) m' → DatagramSays (delimited k bytes ++ rest) m m'
datagram_anew k bytes a f b e x more = datagram_anew_by k (delimited k bytes) bytes a (shortest-bytes k bytes f.key f.count) f.some b e x more

-- ---- what is spelled is what the reader reads
-- a field of bytes, for any step
of_bytes : {S : Type 0} (step : Step S) (place n : ℕ) (field bytes rest : List ℕ) (h : Holds n field bytes) (s s' : S) → 1 ≤ n → n < 2 ^ 29 → step s place (field ++ rest) (bytes_field h) ≡ read s'
    → walk step place (field ++ rest) s ≡ walk step (place + length field) rest s'
of_bytes step place n field bytes rest h s s' some below q =
    walk_field step place field rest s s' (bytes_field h) (bytes-some n field bytes h) (bytes-long n field bytes h) (bytes_found n field bytes h rest some below) q

-- a text
text_is : (n : ℕ) (field bytes rest : List ℕ) (h : Holds n field bytes) → utf8 bytes ≡ true → text.Read (text_of bytes) ≡ text_at (field ++ rest) (bytes_field h)
text_is n field bytes rest h u =
    let e = bytes-content n field bytes h rest in
    event.text_read (field ++ rest) (bytes_field h) true (text_of bytes) refl (sym (ap utf8 e ∙ u)) refl (sym (ap text_of e))

pub event-says : {bytes : List ℕ} {s s' : Said} → EventSays bytes s s' → (place : ℕ) → walk event_step place bytes s ≡ read s'
event-says {s = s} event_end place = walk_end event_step place [] s refl
event-says {s = s} (event-from-by {rest = rest} field bytes h u more) place =
    of_bytes event_step place 1 field bytes rest h s _ (lit≤ tt) (lit< tt)
    (sym (event.from_read s place (field ++ rest) (bytes_field h) (text_of bytes) refl (text_is 1 field bytes rest h u)))
    ∙ event-says more (place + length field)
event-says {s = s} (event-subject-by {rest = rest} field bytes h u more) place =
    of_bytes event_step place 2 field bytes rest h s _ (lit≤ tt) (lit< tt)
    (sym (event.subject_read s place (field ++ rest) (bytes_field h) (text_of bytes) refl (text_is 2 field bytes rest h u)))
    ∙ event-says more (place + length field)
event-says {s = s} (event-number-by {rest = rest} field v h more) place =
    walk_field event_step place field rest s _ (number_field h) (number-some 3 v field h) (number-long 3 v field h) (number_found 3 v field h rest (lit≤ tt) (lit< tt))
    (sym (event.number_read s place (field ++ rest) (number_field h) refl refl))
    ∙ event-says more (place + length field)
event-says {s = s} (event_unknown {rest = rest} n field k w b more) place =
    passed_over event_step place n field rest s w (omega (arith, b)) k
    (λ f e. sym (event.other_read s place (field ++ rest) f (λ q. absurd (omega (arith, b, e, q))) (λ q. absurd (omega (arith, b, e, q))) (λ q. absurd (omega (arith, b, e, q)))))
    ∙ event-says more (place + length field)

-- the content of a field is walked from where it begins
inside : {S : Type 0} (step : Step S) (place n : ℕ) (field bytes rest : List ℕ) (h : Holds n field bytes) (s s' : S) → ((p : ℕ) → walk step p bytes s ≡ read s')
    → read s' ≡ walk step (place + (bytes_field h).head) (content (field ++ rest) (bytes_field h)) s
inside step place n field bytes rest h s s' w =
    sym (ap (λ (l : List ℕ). walk step (place + (bytes_field h).head) l s) (bytes-content n field bytes h rest) ∙ w (place + (bytes_field h).head))

same_kind : {B : Type 0} (x y : B) (j k : ℕ) → j ≡ k → pick (eqb j k) x y ≡ x
same_kind x y j k e = ap (λ (u : Bool). pick u x y) (eq-eqb j k e)

other_kind : {B : Type 0} (x y : B) (j k : ℕ) → (j ≡ k → ⊥) → pick (eqb j k) x y ≡ y
other_kind x y j k e = ap (λ (u : Bool). pick u x y) (ne_eqb j k e)

pub gossip-says : {bytes : List ℕ} {h h' : Held} → GossipSays bytes h h' → (place : ℕ) → walk gossip_step place bytes h ≡ read h'
unfolding started
gossip-says {h = h} gossip_end place = walk_end gossip_step place [] h refl
gossip-says {h = h} (gossip-on-by {rest = rest} k field bytes s w some b e x more) place =
    of_bytes gossip_step place k field bytes rest w h _ some (omega (arith, b))
    (sym (gossip.inner_read h place (field ++ rest) (bytes_field w) b refl h.said (sym (same_kind h.said unsaid h.kind k e)) s
    (inside event_step place k field bytes rest w h.said s (event-says x))))
    ∙ gossip-says more (place + length field)
gossip-says {h = h} (gossip_anew_by {rest = rest} k field bytes s w some b e x more) place =
    of_bytes gossip_step place k field bytes rest w h _ some (omega (arith, b))
    (sym (gossip.inner_read h place (field ++ rest) (bytes_field w) b refl unsaid (sym (other_kind h.said unsaid h.kind k e)) s
    (inside event_step place k field bytes rest w unsaid s (event-says x))))
    ∙ gossip-says more (place + length field)
gossip-says {h = h} (gossip_unknown {rest = rest} n field k w b more) place =
    passed_over gossip_step place n field rest h w (omega (arith, b)) k (λ f e. sym (gossip.other_kind h place (field ++ rest) f (omega (arith, b, e))))
    ∙ gossip-says more (place + length field)

put_record : (a : Acting) (v : Settled) → put a (News v) ≡ with_record a v
unfolding put
put_record a (Whole g) = refl
put_record a Missing = refl

pub action_says : {bytes : List ℕ} {a a' : Acting} → ActionSays bytes a a' → (place : ℕ) → walk action_step place bytes a ≡ read a'
unfolding put
action_says {a = a} action_end place = walk_end action_step place [] a refl
action_says {a = a} (action_from-by {rest = rest} field bytes h u more) place =
    of_bytes action_step place 1 field bytes rest h a _ (lit≤ tt) (lit< tt)
    (sym (action.step_read a place (field ++ rest) (bytes_field h) (From (text_of bytes)) (action.from_read place (field ++ rest) (bytes_field h) refl (text_of bytes) (text_is 1 field bytes rest h u))))
    ∙ action_says more (place + length field)
action_says {a = a} (action_other_by {rest = rest} field bytes h u more) place =
    of_bytes action_step place 2 field bytes rest h a _ (lit≤ tt) (lit< tt)
    (sym (action.step_read a place (field ++ rest) (bytes_field h) (Other (text_of bytes)) (action.other_read place (field ++ rest) (bytes_field h) refl (text_of bytes) (text_is 2 field bytes rest h u))))
    ∙ action_says more (place + length field)
action_says {a = a} (action_record_by {rest = rest} field bytes g h x more) place =
    of_bytes action_step place 3 field bytes rest h a (with_record a (settled g)) (lit≤ tt) (lit< tt)
    (sym (ap read (sym (put_record a (settled g)))
    ∙ action.step_read a place (field ++ rest) (bytes_field h) (News (settled g))
    (action.news_read place (field ++ rest) (bytes_field h) refl refl g (settled g) (inside gossip_step place 3 field bytes rest h unheld g (gossip-says x)) refl)))
    ∙ action_says more (place + length field)
action_says {a = a} (action_unknown {rest = rest} n field k w b more) place =
    passed_over action_step place n field rest a w (omega (arith, b)) k
    (λ f e. sym (action.step_read a place (field ++ rest) f Unknown
    (action.unknown_read place (field ++ rest) f (λ q. absurd (omega (arith, b, e, q))) (λ q. absurd (omega (arith, b, e, q))) (λ q. absurd (omega (arith, b, e, q))))))
    ∙ action_says more (place + length field)

pub datagram_says : {bytes : List ℕ} {m m' : Message} → DatagramSays bytes m m' → (place : ℕ) → walk message_step place bytes m ≡ read m'
unfolding resumed
datagram_says {m = m} datagram_end place = walk_end message_step place [] m refl
datagram_says {m = m} (datagram_on-by {rest = rest} k field bytes a h some b e x more) place =
    of_bytes message_step place k field bytes rest h m _ some (omega (arith, b))
    (sym (message.inner_read m place (field ++ rest) (bytes_field h) b refl a
    (inside action_step place k field bytes rest h m.acting a (action_says x)
    ∙ ap (λ (t : Acting). walk action_step (place + (bytes_field h).head) (content (field ++ rest) (bytes_field h)) t) (sym (same_kind m.acting silent m.kind k e)))))
    ∙ datagram_says more (place + length field)
datagram_says {m = m} (datagram_anew_by {rest = rest} k field bytes a h some b e x more) place =
    of_bytes message_step place k field bytes rest h m _ some (omega (arith, b))
    (sym (message.inner_read m place (field ++ rest) (bytes_field h) b refl a
    (inside action_step place k field bytes rest h silent a (action_says x)
    ∙ ap (λ (t : Acting). walk action_step (place + (bytes_field h).head) (content (field ++ rest) (bytes_field h)) t) (sym (other_kind m.acting silent m.kind k e)))))
    ∙ datagram_says more (place + length field)
datagram_says {m = m} (datagram_unknown {rest = rest} n field k w b more) place =
    passed_over message_step place n field rest m w (omega (arith, b)) k (λ f e. sym (message.other_kind m place (field ++ rest) f (omega (arith, b, e))))
    ∙ datagram_says more (place + length field)

-- THE WHOLE: bytes that spell a message are read as it
pub spelled : (bytes : List ℕ) (m : Message) → DatagramSays bytes unsent m → decode bytes ≡ finish (length bytes) (read m)
unfolding decode
spelled bytes m h = ap (finish (length bytes)) (datagram_says h 0)

-- ---- where a message is whole, the length of the input doesn't matter
no_whole : {B : Type 0} {n : ℕ} {a : Action} → decoded.Malformed n ≡ decoded.Whole a → B
no_whole e = let z : ◌≡◌ {A = ℕ} 0 1 = cc in absurd (omega arith)

module _ (n n' : ℕ) (a : Action) where
  made-same : (x : Made) (bad : Bool) → judge_made x bad n ≡ decoded.Whole a → judge_made x bad n' ≡ decoded.Whole a
  unfolding judge_made
  made-same made.Missing bad e = no_whole e
  made-same (made.Whole b) true e = no_whole e
  made-same (made.Whole b) false e = e

  from-same : (k : ℕ) (from other : Text) (bad : Bool) → judge_from k from other bad n ≡ decoded.Whole a → judge_from k from other bad n' ≡ decoded.Whole a
  unfolding judge_from
  from-same k Empty other bad e = no_whole e
  from-same k Malformed other bad e = no_whole e
  from-same k (Given b) other bad e = made-same (action_of k b other) bad e

  pub judged-same : (k : ℕ) (from other : Text) (bad : Bool) → judge_of k from other bad n ≡ decoded.Whole a → judge_of k from other bad n' ≡ decoded.Whole a
  unfolding judge_of
  judged-same k from other bad =
      elim (eqb k 0) as (λ u. pick u (decoded.Malformed n) (judge_from k from other bad n) ≡ decoded.Whole a → pick u (decoded.Malformed n') (judge_from k from other bad n') ≡ decoded.Whole a) [
        | true ↦ no_whole
        | false ↦ from-same k from other bad
      ]

-- two inputs that spell the same message: whoever reads the one whole reads the other the same, into the same row
module _ (x y : List ℕ) (m : Message) (one : DatagramSays x unsent m) (other : DatagramSays y unsent m) where
  pub same-records : (decode y).gossip ≡ (decode x).gossip
  unfolding finish
  same-records = ap (λ (d : Decode). d.gossip) (spelled y m other) ∙ sym (ap (λ (d : Decode). d.gossip) (spelled x m one))

  pub same_answer : (a : Action) → (decode x).answer ≡ decoded.Whole a → (decode y).answer ≡ decoded.Whole a
  unfolding finish
  same_answer a e =
      ap (λ (d : Decode). d.answer) (spelled y m other)
      ∙ judged-same (length x) (length y) a m.kind m.acting.from m.acting.other m.acting.bad (sym (ap (λ (d : Decode). d.answer) (spelled x m one)) ∙ e)

  pub read_alike : (lent : List Gossip) (r r' : Reading) (l l' : List Gossip) → Reads x lent r l → Reads y lent r' l' → (a : Action) (count : ℕ) → r ≡ reading.Whole a count → (r' ≡ r) × (l' ≡ l)
  read_alike lent r r' l l' met met' a count e =
      let w = (read_whole x lent r l met a count).0 e in
      let c : length (decode y).gossip ≡ length (decode x).gossip = ap (λ (g : List Gossip). length g) same-records in
      let s : r' ≡ reading.Whole a count = (read_whole y lent r' l' met' a count).1 (w.0, same_answer a w.1, omega (arith, w.2, c), w.3 ∙ sym c) in
      (s ∙ sym e, read_row y lent r' l' met' a count s ∙ ap (λ (g : List Gossip). g ++ drop (length g) lent) same-records ∙ sym (read_row x lent r l met a count e))
