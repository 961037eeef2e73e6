-- WHAT THE WRITER WRITES IS SPELLED, HOWEVER MANY ITS RECORDS: every one of them is read, and more than 64 are refused as such.
-- Assumes nothing.
use Rattle.std.specs.Prelude.{◌≡◌, refl, true, false, List, [], ◌∷◌, ◌++◌, ℕ, ◌^◌, ◌≤◌, ◌<◌, eqb, length}
use Rattle.std.proofs.Math.Path.{ap}
use Rattle.std.proofs.Common.{sym, ◌∙◌, subst, append-nil, arith, lit≤, length-append, eqb-true}
use Rattle.std.proofs.Math.Seq.{append_snoc}
use Rattle.model.specs.Bounds.{message_records}
use Rattle.model.specs.Rows.{pick}
use Rattle.types.specs.declared.Action.{Action}
use Rattle.types.specs.declared.Action.TheVariants.{Ping, PingReq, Ack}
use Rattle.types.specs.declared.Event.{Event}
use Rattle.types.specs.declared.Event.TheVariants.{Nothing, Joined, Recovered, Suspected, Deceased}
use Rattle.types.specs.declared.Gossip.{Gossip}
use Rattle.types.specs.declared.Optional.{Optional}
use Rattle.types.specs.declared.Optional.TheVariants as optional
use Rattle.types.specs.Wire.{tag, varint, delimited, string, number, event_bytes, gossip_bytes}
use Rattle.address.specs.Here.{Addr, here, here_text as text}
use Rattle.fields.specs.FieldLaws.{delimited-long}
use Rattle.fields.specs.Walk.{read}
use Rattle.iptext.specs.declared.Text.{Text}
use Rattle.iptext.specs.declared.Text.TheVariants.{Empty, Given}
use Rattle.iptext.specs.Reading.{text_of}
use Rattle.iptext.specs.Texts.{text-back, text-long}
use Rattle.iptext.specs.Letters.{text-utf8}
use Rattle.events.specs.declared.Said.{Said}
use Rattle.events.specs.Event.{unsaid}
use Rattle.events.specs.Back.{kind, string-some, text_fits}
use Rattle.gossips.specs.declared.Held.{Held}
use Rattle.gossips.specs.declared.Settled.{Settled}
use Rattle.gossips.specs.declared.Settled.TheVariants as settled
use Rattle.gossips.specs.Gossip.{unheld, settled as settled_of, whole_of, made, gossip_bytes_of}
use Rattle.gossips.specs.Back.{gossip-long}
use Rattle.actions.specs.Action.{Acting, silent}
use Rattle.incoming.specs.declared.Decoded.TheVariants.{Whole}
use Rattle.incoming.specs.declared.Reading.{Reading}
use Rattle.incoming.specs.Datagram.{Decode, unsent, action_of, judge_made, judge_from, judge_of, finish, decode}
use Rattle.incoming.specs.Encode.{other_bytes, gossip_fields, fields_of, encode}
use Rattle.incoming.specs.Back.{Fit, Fits, none, more, FitOther, FitAction, Says, gossips_short, fields-short}
use Rattle.datagram.specs.Promises.{Reads, reading_number}
use Rattle.datagram_promises.proofs.Exactly.{read_4}
use Rattle.datagram_promises.specs.AnyLength.{EventSays, event_end, GossipSays, gossip_end, ActionSays, action_end, with_record, DatagramSays, datagram_end}
use Rattle.datagram_promises.proofs.AnyLength.{event-from, event-subject, event-number, gossip_anew, action_from, action_other, action_record, datagram_anew, spelled}

-- ---- an event
abbrev said_of : Addr → Addr → ℕ → Said
said_of f s n = record { from = text_of (text f); subject = text_of (text s); number = n }

number_spelled : (a b : Text) (n : ℕ) → n < 2 ^ 64 → EventSays (number 3 n) (record { from = a; subject = b; number = 0 }) (record { from = a; subject = b; number = n })
number_spelled a b n l =
    (elim (eqb n 0) as (λ u. eqb n 0 ≡ u → EventSays (pick u [] (tag 3 0 ++ varint n)) (record { from = a; subject = b; number = 0 }) (record { from = a; subject = b; number = n })) [
      | true ↦ λ e. subst (λ (k : ℕ). EventSays [] (record { from = a; subject = b; number = 0 }) (record { from = a; subject = b; number = k })) (sym (eqb-true n 0 e)) event_end
      | false ↦ λ e. subst (λ (l : List ℕ). EventSays l (record { from = a; subject = b; number = 0 }) (record { from = a; subject = b; number = n })) (append-nil (tag 3 0 ++ varint n)) (event-number n l event_end)
    ]) refl

event_spelled : (k : ℕ) (f s : Addr) (n : ℕ) → here.valid f ≡ true → here.valid s ≡ true → n < 2 ^ 64 → EventSays (event_bytes (kind k) (text f) (text s) n) unsaid (said_of f s n)
event_spelled k f s n hf hs l =
    subst (λ (x : List ℕ). EventSays (x ++ (string 2 (text s) ++ number 3 n)) unsaid (said_of f s n)) (sym (string-some 1 (text f) (text-long f)))
    (event-from (text f) (text_fits f) (text-utf8 f hf)
    (subst (λ (x : List ℕ). EventSays (x ++ number 3 n) (record { from = text_of (text f); subject = Empty; number = 0 }) (said_of f s n)) (sym (string-some 2 (text s) (text-long s)))
    (event-subject (text s) (text_fits s) (text-utf8 s hs) (number_spelled (text_of (text f)) (text_of (text s)) n l))))

-- ---- a record
one-kind : (k : ℕ) (f s : Addr) (n : ℕ) → 1 ≤ k → k ≤ 4 → here.valid f ≡ true → here.valid s ≡ true → n < 2 ^ 64
    → GossipSays (gossip_bytes (kind k) (text f) (text s) n) unheld (record { kind = k; said = said_of f s n })
one-kind k f s n h₁ h₂ hf hs l =
    let inside : List ℕ = event_bytes (kind k) (text f) (text s) n in
    let few : length inside < 2 ^ 64 = omega (arith, gossip-long k f s n h₂ l, delimited-long k inside) in
    subst (λ (x : List ℕ). GossipSays x unheld (record { kind = k; said = said_of f s n })) (append-nil (delimited k inside))
    (gossip_anew k inside (said_of f s n) (record { some = h₁; key = omega (arith, h₂); count = few }) h₂ (new k h₁) (event_spelled k f s n hf hs l) gossip_end)
  where
    new : (k : ℕ) → 1 ≤ k → 0 ≡ k → ⊥
    new k h e = absurd (omega (arith, h, e))

whole-of : (k : ℕ) (f s : Addr) (n : ℕ) → here.valid f ≡ true → here.valid s ≡ true → whole_of k n (text_of (text f)) (text_of (text s)) ≡ settled.Whole (record { event = made k f s n })
unfolding whole_of
whole-of k f s n hf hs = λ i. whole_of k n (text-back f hf i) (text-back s hs i)

record_spelled : (e : Event) → Fit e → (h : Held) × GossipSays (gossip_bytes_of (record { event = e })) unheld h × (settled_of h ≡ settled.Whole (record { event = e }))
unfolding Fit gossip_bytes_of settled_of made
record_spelled Nothing f = (unheld, gossip_end, refl)
record_spelled (Joined f s n) (hf, hs, hn) = (_, one-kind 1 f s n (lit≤ tt) (lit≤ tt) hf hs hn, whole-of 1 f s n hf hs)
record_spelled (Recovered f s n) (hf, hs, hn) = (_, one-kind 2 f s n (lit≤ tt) (lit≤ tt) hf hs hn, whole-of 2 f s n hf hs)
record_spelled (Suspected f s n) (hf, hs, hn) = (_, one-kind 3 f s n (lit≤ tt) (lit≤ tt) hf hs hn, whole-of 3 f s n hf hs)
record_spelled (Deceased f s n) (hf, hs, hn) = (_, one-kind 4 f s n (lit≤ tt) (lit≤ tt) hf hs hn, whole-of 4 f s n hf hs)

-- a record is short, as the row of it alone is
record_short : (g : Gossip) → Fit g.event → length (gossip_bytes_of g) < 2 ^ 64
unfolding gossip_fields
record_short g f =
    omega (arith, gossips_short (g ∷ []) (more f none), length-append (delimited 3 (gossip_bytes_of g)) [], delimited-long 3 (gossip_bytes_of g))

records_spelled : (gs : List Gossip) → Fits gs → (a : Acting) → ActionSays (gossip_fields gs) a (record { from = a.from; other = a.other; bad = a.bad; gossip = a.gossip ++ gs })
unfolding gossip_fields
records_spelled [] none a = subst (λ (l : List Gossip). ActionSays [] a (record { from = a.from; other = a.other; bad = a.bad; gossip = l })) (sym (append-nil a.gossip)) action_end
records_spelled (g ∷ gs) (more f fs) a =
    let x = record_spelled g.event f in
    action_record (gossip_bytes_of g) x.0 (record_short g f) x.1
    (subst (λ (v : Settled). ActionSays (gossip_fields gs) (with_record a v) (record { from = a.from; other = a.other; bad = a.bad; gossip = a.gossip ++ (g ∷ gs) })) (sym x.2)
    (subst (λ (l : List Gossip). ActionSays (gossip_fields gs) (with_record a (settled.Whole g)) (record { from = a.from; other = a.other; bad = a.bad; gossip = l })) (append_snoc a.gossip g gs)
    (records_spelled gs fs (with_record a (settled.Whole g)))))

-- ---- an action
unfoldable other_of : Optional → Text
other_of optional.Absent = Empty
other_of (optional.Given b) = text_of (text b)

-- the same, as an address or none
abbrev given_of : Optional → Text
given_of optional.Absent = Empty
given_of (optional.Given b) = Given b

abbrev acting_of : Addr → Optional → List Gossip → Acting
acting_of from o gs = record { from = text_of (text from); other = other_of o; bad = false; gossip = gs }

other_spelled : (from : Addr) (o : Optional) (gs : List Gossip) → FitOther o → Fits gs
    → ActionSays (other_bytes o ++ gossip_fields gs) (record { from = text_of (text from); other = Empty; bad = false; gossip = [] }) (acting_of from o gs)
unfolding other_bytes FitOther other_of
other_spelled from optional.Absent gs f fs = records_spelled gs fs (record { from = text_of (text from); other = Empty; bad = false; gossip = [] })
other_spelled from (optional.Given b) gs f fs =
    subst (λ (x : List ℕ). ActionSays (x ++ gossip_fields gs) (record { from = text_of (text from); other = Empty; bad = false; gossip = [] }) (acting_of from (optional.Given b) gs)) (sym (string-some 2 (text b) (text-long b)))
    (action_other (text b) (text_fits b) (text-utf8 b f) (records_spelled gs fs (record { from = text_of (text from); other = text_of (text b); bad = false; gossip = [] })))

fields_spelled : (from : Addr) (o : Optional) (gs : List Gossip) → here.valid from ≡ true → FitOther o → Fits gs → ActionSays (fields_of from o gs) silent (acting_of from o gs)
unfolding fields_of
fields_spelled from o gs h f fs =
    subst (λ (x : List ℕ). ActionSays (x ++ (other_bytes o ++ gossip_fields gs)) silent (acting_of from o gs)) (sym (string-some 1 (text from) (text-long from)))
    (action_from (text from) (text_fits from) (text-utf8 from h) (other_spelled from o gs f fs))

-- ---- the whole, of any number of records that a field's count can tell
module _ (k : ℕ) (from : Addr) (o : Optional) (gs : List Gossip) (h₁ : 1 ≤ k) (h₂ : k ≤ 3) (h : here.valid from ≡ true) (f : FitOther o) (fs : Fits gs) (few : length gs < 2 ^ 56) where
  field_spelled : DatagramSays (delimited k (fields_of from o gs)) unsent (record { kind = k; acting = acting_of from o gs })
  field_spelled =
      subst (λ (x : List ℕ). DatagramSays x unsent (record { kind = k; acting = acting_of from o gs })) (append-nil (delimited k (fields_of from o gs)))
      (datagram_anew k (fields_of from o gs) (acting_of from o gs) (record { some = h₁; key = omega (arith, h₂); count = omega (arith, few, fields-short from o gs fs) }) h₂ (new k h₁) (fields_spelled from o gs h f fs) datagram_end)
    where
      new : (k : ℕ) → 1 ≤ k → 0 ≡ k → ⊥
      new k h e = absurd (omega (arith, h, e))

  judged : (a : Action) → ((n : ℕ) → judge_of k (text_of (text from)) (other_of o) false n ≡ Whole a) → Says (decode (delimited k (fields_of from o gs))) a gs
  unfolding finish
  judged a e =
      let d : decode (delimited k (fields_of from o gs)) ≡ finish (length (delimited k (fields_of from o gs))) (read (record { kind = k; acting = acting_of from o gs })) =
      spelled (delimited k (fields_of from o gs)) (record { kind = k; acting = acting_of from o gs }) field_spelled in
      record { action = ap (λ (x : Decode). x.answer) d ∙ e (length (delimited k (fields_of from o gs))); gossip = ap (λ (x : Decode). x.gossip) d }

by_other : (k : ℕ) (from : Addr) (o : Optional) (n : ℕ) (a : Action) → here.valid from ≡ true → FitOther o → judge_of k (Given from) (given_of o) false n ≡ Whole a → judge_of k (text_of (text from)) (other_of o) false n ≡ Whole a
unfolding FitOther other_of
by_other k from optional.Absent n a h f e = ap (λ (t : Text). judge_of k t Empty false n) (text-back from h) ∙ e
by_other k from (optional.Given b) n a h f e = (λ i. judge_of k (text-back from h i) (text-back b f i) false n) ∙ e

ping_made : (from : Addr) (o : Optional) (n : ℕ) → judge_of 1 (Given from) (given_of o) false n ≡ Whole (Ping from o)
unfolding judge_of judge_from judge_made action_of
ping_made from optional.Absent n = refl
ping_made from (optional.Given b) n = refl

ack_made : (from : Addr) (o : Optional) (n : ℕ) → judge_of 3 (Given from) (given_of o) false n ≡ Whole (Ack from o)
unfolding judge_of judge_from judge_made action_of
ack_made from optional.Absent n = refl
ack_made from (optional.Given b) n = refl

req_made : (from b : Addr) (n : ℕ) → judge_of 2 (Given from) (Given b) false n ≡ Whole (PingReq from b)
unfolding judge_of judge_from judge_made action_of
req_made from b n = refl

-- every record that was written is read, whatever their number
pub every_record : (a : Action) (gs : List Gossip) → FitAction a → Fits gs → length gs < 2 ^ 56 → Says (decode (encode a gs)) a gs
unfolding encode FitAction FitOther
every_record (Ping from o) gs (hf, ho) fs few = judged 1 from o gs (lit≤ tt) (lit≤ tt) hf ho fs few (Ping from o) (λ n. by_other 1 from o n (Ping from o) hf ho (ping_made from o n))
every_record (PingReq from b) gs (hf, hb) fs few =
    judged 2 from (optional.Given b) gs (lit≤ tt) (lit≤ tt) hf hb fs few (PingReq from b) (λ n. by_other 2 from (optional.Given b) n (PingReq from b) hf hb (req_made from b n))
every_record (Ack from o) gs (hf, ho) fs few = judged 3 from o gs (lit≤ tt) (lit≤ tt) hf ho fs few (Ack from o) (λ n. by_other 3 from o n (Ack from o) hf ho (ack_made from o n))

-- so more than 64 of them are answered by 4
pub many-refused : (a : Action) (gs : List Gossip) → FitAction a → Fits gs → length gs < 2 ^ 56 → message_records < length gs
    → (lent : List Gossip) (r : Reading) (l : List Gossip) → message_records ≤ length lent → Reads (encode a gs) lent r l → reading_number r ≡ 4
many-refused a gs f fs few many lent r l room met =
    let s = every_record a gs f fs few in
    let c : length (decode (encode a gs)).gossip ≡ length gs = ap (λ (x : List Gossip). length x) s.gossip in
    (read_4 (encode a gs) lent r l met).1 (room, (a, s.action), omega (arith, many, c))
