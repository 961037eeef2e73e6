-- A FIELD OF ANOTHER NUMBER IS PASSED OVER, WHATEVER ITS WIRE TYPE AND ITS LENGTH AND WHEREVER IT STANDS: a datagram that is read whole is read the same with it. PIECES OF ONE ACTION, HOWEVER MANY, append their records.
-- Assumes nothing.
use Rattle.std.specs.Prelude.{◌≡◌, refl, List, [], ◌++◌, ℕ, zero, suc, ◌+◌, ◌^◌, ◌≤◌, ◌<◌, length}
use Rattle.std.proofs.Math.Path.{ap, sym}
use Rattle.std.proofs.Common.{◌∙◌, subst, append-nil, append_assoc, arith, lit<, length-append}
use Rattle.std.proofs.Math.ListN.{replicate}
use Rattle.std.proofs.lemmas.List.{length-replicate}
use Rattle.std.proofs.Math.Seq.{append_snoc}
use Rattle.model.specs.Bounds.{message_records}
use Rattle.types.specs.declared.Action.{Action}
use Rattle.types.specs.declared.Gossip.{Gossip}
use Rattle.types.specs.Views.{no_gossip}
use Rattle.types.specs.Wire.{varint, varint_in, delimited}
use Rattle.fields.specs.Walk.{read}
use Rattle.gossips.specs.declared.Settled.TheVariants as settled
use Rattle.gossips.specs.Gossip.{unheld, settled as settled_of}
use Rattle.actions.specs.Action.{Acting, silent}
use Rattle.incoming.specs.declared.Decoded.TheVariants as decoded
use Rattle.incoming.specs.declared.Reading.{Reading}
use Rattle.incoming.specs.declared.Reading.TheVariants as reading
use Rattle.incoming.specs.Datagram.{Message, Decode, unsent, finish, decode}
use Rattle.datagram.specs.Promises.{Reads, reading_number}
use Rattle.datagram_promises.proofs.Exactly.{read_4}
use Rattle.datagram_promises.specs.AnyField.{OfAnyWire}
use Rattle.datagram_promises.specs.AnyLength.{Fits, ActionSays, action_end, action_from-by, action_other_by, action_record_by, action_unknown, gossip_end, DatagramSays, datagram_end, datagram_on-by, datagram_anew_by, datagram_unknown, with_record}
use Rattle.datagram_promises.proofs.AnyLength.{action_record, datagram_on, datagram_anew, spelled, judged-same, read_alike}
use Rattle.datagram_promises.specs.Skipped.{copies, with_records, longer, empty_record}

-- ---- one row of fields behind another
pub action_joined : {x y : List ℕ} {a b c : Acting} → ActionSays x a b → ActionSays y b c → ActionSays (x ++ y) a c
action_joined action_end h = h
action_joined {y = y} {a = a} {c = c} (action_from-by {rest = rest} field bytes l u more) h =
    subst (λ (z : List ℕ). ActionSays z a c) (sym (append_assoc field rest y)) (action_from-by field bytes l u (action_joined more h))
action_joined {y = y} {a = a} {c = c} (action_other_by {rest = rest} field bytes l u more) h =
    subst (λ (z : List ℕ). ActionSays z a c) (sym (append_assoc field rest y)) (action_other_by field bytes l u (action_joined more h))
action_joined {y = y} {a = a} {c = c} (action_record_by {rest = rest} field bytes g l s more) h =
    subst (λ (z : List ℕ). ActionSays z a c) (sym (append_assoc field rest y)) (action_record_by field bytes g l s (action_joined more h))
action_joined {y = y} {a = a} {c = c} (action_unknown {rest = rest} n field k w b more) h =
    subst (λ (z : List ℕ). ActionSays z a c) (sym (append_assoc field rest y)) (action_unknown n field k w b (action_joined more h))

pub joined : {x y : List ℕ} {l m n : Message} → DatagramSays x l m → DatagramSays y m n → DatagramSays (x ++ y) l n
joined datagram_end h = h
joined {y = y} {l = l} {n = n} (datagram_on-by {rest = rest} k field bytes a f some b e s more) h =
    subst (λ (z : List ℕ). DatagramSays z l n) (sym (append_assoc field rest y)) (datagram_on-by k field bytes a f some b e s (joined more h))
joined {y = y} {l = l} {n = n} (datagram_anew_by {rest = rest} k field bytes a f some b e s more) h =
    subst (λ (z : List ℕ). DatagramSays z l n) (sym (append_assoc field rest y)) (datagram_anew_by k field bytes a f some b e s (joined more h))
joined {y = y} {l = l} {n = n} (datagram_unknown {rest = rest} i field k w b more) h =
    subst (λ (z : List ℕ). DatagramSays z l n) (sym (append_assoc field rest y)) (datagram_unknown i field k w b (joined more h))

-- ---- a field of number 4 and more, between two rows of fields
module _ (x y : List ℕ) (m m' : Message) (front : DatagramSays x unsent m) (back : DatagramSays y m m') (n : ℕ) (field : List ℕ) (key : n < 2 ^ 29) (wire : OfAnyWire n field) (above : 3 < n) where
  pub skipped : (lent : List Gossip) (r r' : Reading) (l l' : List Gossip) → Reads (x ++ y) lent r l → Reads (x ++ (field ++ y)) lent r' l'
      → (a : Action) (count : ℕ) → r ≡ reading.Whole a count → (r' ≡ r) × (l' ≡ l)
  skipped = read_alike (x ++ y) (x ++ (field ++ y)) m' (joined front back) (joined front (datagram_unknown n field key wire above back))

-- and within an action that begins the datagram
module _ (k : ℕ) (x y rest : List ℕ) (b c : Acting) (m : Message) (front : ActionSays x silent b) (back : ActionSays y b c) (few : k ≤ 3) (without : Fits k (x ++ y))
    (more : DatagramSays rest (record { kind = k; acting = c }) m) (n : ℕ) (field : List ℕ) (key : n < 2 ^ 29) (wire : OfAnyWire n field) (above : 3 < n) (with_it : Fits k (x ++ (field ++ y))) where
  no_action : unsent.kind ≡ k → ⊥
  no_action e = absurd (omega (arith, e, without.some))

  pub skipped_within : (lent : List Gossip) (r r' : Reading) (l l' : List Gossip) → Reads (delimited k (x ++ y) ++ rest) lent r l → Reads (delimited k (x ++ (field ++ y)) ++ rest) lent r' l'
      → (a : Action) (count : ℕ) → r ≡ reading.Whole a count → (r' ≡ r) × (l' ≡ l)
  skipped_within =
      read_alike (delimited k (x ++ y) ++ rest) (delimited k (x ++ (field ++ y)) ++ rest) m
      (datagram_anew k (x ++ y) c without few no_action (action_joined front back) more)
      (datagram_anew k (x ++ (field ++ y)) c with_it few no_action (action_joined front (action_unknown n field key wire above back)) more)

module _ (piece : List ℕ) (g : Gossip) (few_bytes : length piece < 2 ^ 64) (one_record : (a : Acting) → ActionSays piece a (with_record a (settled.Whole g))) where
  many_pieces : (n : ℕ) (m : Message) → 1 ≤ m.kind → m.kind ≤ 3 → DatagramSays (copies n (delimited m.kind piece)) m (with_records m (replicate n g))
  many_pieces zero m h k =
      subst (λ (gs : List Gossip). DatagramSays [] m (record { kind = m.kind; acting = record { from = m.acting.from; other = m.acting.other; bad = m.acting.bad; gossip = gs } }))
      (sym (append-nil m.acting.gossip)) datagram_end
  many_pieces (suc n) m h k =
      let a : Acting = with_record m.acting (settled.Whole g) in
      let next : Message = record { kind = m.kind; acting = a } in
      datagram_on m.kind piece a (record { some = h; key = omega (arith, k); count = few_bytes }) k refl (one_record m.acting)
      (subst (λ (gs : List Gossip). DatagramSays (copies n (delimited m.kind piece)) next (record { kind = m.kind; acting = record { from = m.acting.from; other = m.acting.other; bad = m.acting.bad; gossip = gs } }))
      (append_snoc m.acting.gossip g (replicate n g)) (many_pieces n next h k))

  -- n of them behind an action: n records behind its own, whatever n
  module _ (x : List ℕ) (m : Message) (says : DatagramSays x unsent m) (some : 1 ≤ m.kind) (known : m.kind ≤ 3) (n : ℕ) where
    whole : decode (longer piece g few_bytes one_record x m says some known n) ≡ finish (length (longer piece g few_bytes one_record x m says some known n)) (read (with_records m (replicate n g)))
    whole = spelled (longer piece g few_bytes one_record x m says some known n) (with_records m (replicate n g)) (joined says (many_pieces n m some known))

    pub pieces_append : (decode (longer piece g few_bytes one_record x m says some known n)).gossip ≡ (decode x).gossip ++ replicate n g
    unfolding finish
    pieces_append = ap (λ (d : Decode). d.gossip) whole ∙ sym (ap (λ (d : Decode). d.gossip ++ replicate n g) (spelled x m says))

    pub action_stays : (a : Action) → (decode x).answer ≡ decoded.Whole a → (decode (longer piece g few_bytes one_record x m says some known n)).answer ≡ decoded.Whole a
    unfolding finish
    action_stays a e =
        ap (λ (d : Decode). d.answer) whole
        ∙ judged-same (length x) (length (longer piece g few_bytes one_record x m says some known n)) a m.kind m.acting.from m.acting.other m.acting.bad (sym (ap (λ (d : Decode). d.answer) (spelled x m says)) ∙ e)

    -- so they are never forgotten: with more than 64 the reader answers 4
    pub too_many : (lent : List Gossip) (r : Reading) (l : List Gossip) → Reads (longer piece g few_bytes one_record x m says some known n) lent r l → message_records ≤ length lent → (a : Action) → (decode x).answer ≡ decoded.Whole a → message_records < length (decode x).gossip + n → reading_number r ≡ 4
    too_many lent r l met room a e h =
        let c : length (decode (longer piece g few_bytes one_record x m says some known n)).gossip ≡ length (decode x).gossip + n = ap (λ (gs : List Gossip). length gs) pieces_append ∙ length-append (decode x).gossip (replicate n g) ∙ ap (λ (k : ℕ). length (decode x).gossip + k) (length-replicate n g) in
        (read_4 (longer piece g few_bytes one_record x m says some known n) lent r l met).1 (room, (a, action_stays a e), omega (arith, h, c))

pub empty-record : (length empty_record < 2 ^ 64) × ((a : Acting) → ActionSays empty_record a (with_record a (settled.Whole no_gossip)))
unfolding varint varint_in settled_of
empty-record = (lit< tt, λ a. action_record [] unheld (lit< tt) gossip_end action_end)
