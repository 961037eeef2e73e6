-- Reading what was written gives the action and its gossip back.
-- Assumes nothing.
use Rattle.std.specs.Prelude.{◌≡◌, refl, Bool, true, false, List, [], ◌∷◌, ◌++◌, ℕ, ◌+◌, ◌*◌, ◌^◌, ◌≤◌, ◌<◌, eqb, length}
use Rattle.std.proofs.Common.{ap, sym, ◌∙◌, subst, append-nil, arith, lit<, lit≤, length-append, ne_eqb}
use Rattle.std.proofs.Math.Seq.{append_snoc}
use Rattle.model.specs.Rows.{pick}
use Rattle.types.specs.declared.Action.{Action}
use Rattle.types.specs.declared.Action.TheVariants.{Ping, PingReq, Ack}
use Rattle.types.specs.declared.Event.{Event}
use Rattle.types.specs.declared.Event.TheVariants.{Nothing, Joined, Recovered, Suspected, Deceased}
use Rattle.types.specs.declared.Gossip.{Gossip}
use Rattle.types.specs.declared.Optional.{Optional}
use Rattle.types.specs.declared.Optional.TheVariants as optional
use Rattle.address.specs.Here.{Addr, here, here_text as text, here_text-long, here_chars}
use Rattle.types.specs.Wire.{varint-one, delimited, string}
use Rattle.fields.specs.Field.{content}
use Rattle.fields.specs.FieldLaws.{head_of, delimited-long, next-delimited, content-delimited}
use Rattle.fields.specs.Walk.{Read, read, walk}
use Rattle.fields.specs.Walks.{walk_end, walk_field}
use Rattle.iptext.specs.declared.Text.{Text}
use Rattle.iptext.specs.declared.Text.TheVariants as text
use Rattle.events.specs.Back.{delimited_field, delimited-some, string-some, text_field, walk-text}
use Rattle.gossips.specs.declared.Held.{Held}
use Rattle.gossips.specs.declared.Settled.TheVariants as settled
use Rattle.gossips.specs.Gossip.{unheld, gossip_step, settled as settled_of, whole_of, made, gossip_bytes_of}
use Rattle.gossips.specs.Back.{gossip-back, gossip-long}
use Rattle.actions.specs.declared.Piece.TheVariants.{From, Other, News}
use Rattle.actions.specs.Action.{Acting, silent, put, action_step}
use Rattle.actions.specs.Stepping.{from_read, other_read, news_read, step_read}
use Rattle.iptext.specs.Texts.{text-long}
use Rattle.incoming.specs.declared.Made.{Made}
use Rattle.incoming.specs.declared.Made.TheVariants as made'
use Rattle.incoming.specs.declared.Decoded.TheVariants.{Malformed, Whole}
use Rattle.incoming.specs.Datagram.{Message, unsent, resumed, message_step, action_of, judge_made, judge_from, judge_of, finish, decode, Decode}
use Rattle.incoming.specs.Stepping.{inner_read}
use Rattle.incoming.specs.Encode.{other_bytes, gossip_fields, fields_of, encode}

-- what can be sent: addresses below 2^48 and numbers below 2^64
unfoldable pub Fit : Event → Type 0
Fit Nothing = Unit
Fit (Joined f s n) = (here.valid f ≡ true) × (here.valid s ≡ true) × (n < 2 ^ 64)
Fit (Recovered f s n) = (here.valid f ≡ true) × (here.valid s ≡ true) × (n < 2 ^ 64)
Fit (Suspected f s n) = (here.valid f ≡ true) × (here.valid s ≡ true) × (n < 2 ^ 64)
Fit (Deceased f s n) = (here.valid f ≡ true) × (here.valid s ≡ true) × (n < 2 ^ 64)

pub data Fits : List Gossip → Type 0 where
  none : Fits []
  more : {g : Gossip} {gs : List Gossip} → Fit g.event → Fits gs → Fits (g ∷ gs)

-- one gossip
held_back : (place : ℕ) (e : Event) → Fit e
    → (h : Held) × (read h ≡ walk gossip_step place (gossip_bytes_of (record { event = e })) unheld) × (settled.Whole (record { event = e }) ≡ settled_of h)
unfolding Fit gossip_bytes_of settled_of whole_of made
held_back place Nothing f = (unheld, sym (walk_end gossip_step place [] unheld refl), refl)
held_back place (Joined f s n) (hf, hs, hn) = (_, sym (gossip-back place 1 f s n (lit≤ tt) (lit≤ tt) hf hs hn), refl)
held_back place (Recovered f s n) (hf, hs, hn) = (_, sym (gossip-back place 2 f s n (lit≤ tt) (lit≤ tt) hf hs hn), refl)
held_back place (Suspected f s n) (hf, hs, hn) = (_, sym (gossip-back place 3 f s n (lit≤ tt) (lit≤ tt) hf hs hn), refl)
held_back place (Deceased f s n) (hf, hs, hn) = (_, sym (gossip-back place 4 f s n (lit≤ tt) (lit≤ tt) hf hs hn), refl)

bytes-long : (e : Event) → Fit e → length (gossip_bytes_of (record { event = e })) < 128
unfolding Fit gossip_bytes_of
bytes-long Nothing f = lit< tt
bytes-long (Joined f s n) (hf, hs, hn) = gossip-long 1 f s n (lit≤ tt) hn
bytes-long (Recovered f s n) (hf, hs, hn) = gossip-long 2 f s n (lit≤ tt) hn
bytes-long (Suspected f s n) (hf, hs, hn) = gossip-long 3 f s n (lit≤ tt) hn
bytes-long (Deceased f s n) (hf, hs, hn) = gossip-long 4 f s n (lit≤ tt) hn

-- each gossip is one more
abbrev with_gossip : Acting → List Gossip → Acting
with_gossip a gs = record { from = a.from; other = a.other; bad = a.bad; gossip = a.gossip ++ gs }

news : (a : Acting) (place : ℕ) (g : Gossip) (rest : List ℕ) → Fit g.event
    → action_step a place (delimited 3 (gossip_bytes_of g) ++ rest) (delimited_field 3 (gossip_bytes_of g)) ≡ read (with_gossip a (g ∷ []))
unfolding put
news a place g rest f =
    let inside : List ℕ = gossip_bytes_of g in
    let x = held_back (place + head_of 3 inside) g.event f in
    let w : read x.0 ≡ walk gossip_step (place + head_of 3 inside) (content (delimited 3 inside ++ rest) (delimited_field 3 inside)) unheld =
    x.1 ∙ ap (λ (l : List ℕ). walk gossip_step (place + head_of 3 inside) l unheld) (sym (content-delimited 3 inside rest)) in
    sym (step_read a place (delimited 3 inside ++ rest) (delimited_field 3 inside) (News (settled.Whole g))
    (news_read place (delimited 3 inside ++ rest) (delimited_field 3 inside) refl refl x.0 (settled.Whole g) w x.2))

gossips_back : (place : ℕ) (a : Acting) (gs : List Gossip) → Fits gs → walk action_step place (gossip_fields gs) a ≡ read (with_gossip a gs)
unfolding gossip_fields
gossips_back place a [] none =
    walk_end action_step place [] a refl
    ∙ ap (λ (l : List Gossip). read (record { from = a.from; other = a.other; bad = a.bad; gossip = l })) (sym (append-nil a.gossip))
gossips_back place a (g ∷ gs) (more f fs) =
    let inside : List ℕ = gossip_bytes_of g in
    let long : length inside < 2 ^ 64 = omega (arith, bytes-long g.event f) in
    walk_field action_step place (delimited 3 inside) (gossip_fields gs) a (with_gossip a (g ∷ [])) (delimited_field 3 inside)
    (delimited-some 3 inside) (sym (delimited-long 3 inside)) (next-delimited 3 inside (gossip_fields gs) (lit≤ tt) (lit< tt) long) (news a place g (gossip_fields gs) f)
    ∙ gossips_back (place + length (delimited 3 inside)) (with_gossip a (g ∷ [])) gs fs
    ∙ ap (λ (l : List Gossip). read (record { from = a.from; other = a.other; bad = a.bad; gossip = l })) (append_snoc a.gossip g gs)

-- the addresses
unfoldable pub FitOther : Optional → Type 0
FitOther optional.Absent = Unit
FitOther (optional.Given b) = here.valid b ≡ true

unfoldable other_text : Optional → Text
other_text optional.Absent = text.Empty
other_text (optional.Given b) = text.Given b

other_back : (place : ℕ) (from : Addr) (o : Optional) (gs : List Gossip) → FitOther o → Fits gs
    → walk action_step place (other_bytes o ++ gossip_fields gs) (record { from = text.Given from; other = text.Empty; bad = false; gossip = [] })
    ≡ read (record { from = text.Given from; other = other_text o; bad = false; gossip = gs })
unfolding FitOther other_bytes other_text put
other_back place from optional.Absent gs f fs = gossips_back place (record { from = text.Given from; other = text.Empty; bad = false; gossip = [] }) gs fs
other_back place from (optional.Given b) gs f fs =
    let a : Acting = record { from = text.Given from; other = text.Empty; bad = false; gossip = [] } in
    let a' : Acting = record { from = text.Given from; other = text.Given b; bad = false; gossip = [] } in
    walk-text action_step 2 b (lit≤ tt) (lit< tt) place (gossip_fields gs) a a'
    (λ p. sym (step_read a p _ (delimited_field 2 (text b)) (Other (text.Given b)) (other_read p _ (delimited_field 2 (text b)) refl (text.Given b) (sym (text_field 2 b (gossip_fields gs) f)))))
    ∙ gossips_back (place + length (delimited 2 (text b))) a' gs fs

fields_back : (place : ℕ) (from : Addr) (o : Optional) (gs : List Gossip) → here.valid from ≡ true → FitOther o → Fits gs
    → walk action_step place (fields_of from o gs) silent ≡ read (record { from = text.Given from; other = other_text o; bad = false; gossip = gs })
unfolding fields_of put
fields_back place from o gs h f fs =
    let rest : List ℕ = other_bytes o ++ gossip_fields gs in
    let a : Acting = record { from = text.Given from; other = text.Empty; bad = false; gossip = [] } in
    walk-text action_step 1 from (lit≤ tt) (lit< tt) place rest silent a
    (λ p. sym (step_read silent p _ (delimited_field 1 (text from)) (From (text.Given from)) (from_read p _ (delimited_field 1 (text from)) refl (text.Given from) (sym (text_field 1 from rest h)))))
    ∙ other_back (place + length (delimited 1 (text from))) from o gs f fs

-- the fields are short enough for their count
pub short : (n : ℕ) (bytes : List ℕ) → n ≤ 15 → length bytes < 128 → length (delimited n bytes) ≡ 2 + length bytes
short n bytes h k =
    let key : n * 8 + 2 < 128 = omega arith in
    omega (arith, delimited-long n bytes, varint-one (n * 8 + 2) key, varint-one (length bytes) k)

text-short : (n : ℕ) (a : Addr) → n ≤ 15 → length (string n (text a)) ≤ 129
text-short n a h =
    let k : length (text a) < 128 = omega (arith, here_chars a, here_text-long a) in
    omega (arith, ap (λ (l : List ℕ). length l) (string-some n (text a) (text-long a)), short n (text a) h k)

pub gossips_short : (gs : List Gossip) → Fits gs → length (gossip_fields gs) ≤ 129 * length gs
unfolding gossip_fields
gossips_short [] none = omega arith
gossips_short (g ∷ gs) (more f fs) =
    let k : length (gossip_bytes_of g) < 128 = bytes-long g.event f in
    omega (arith, length-append (delimited 3 (gossip_bytes_of g)) (gossip_fields gs), short 3 (gossip_bytes_of g) (lit≤ tt) k, gossips_short gs fs)

other_short : (o : Optional) → length (other_bytes o) ≤ 129
unfolding other_bytes
other_short optional.Absent = omega arith
other_short (optional.Given b) = text-short 2 b (lit≤ tt)

pub fields-short : (from : Addr) (o : Optional) (gs : List Gossip) → Fits gs → length (fields_of from o gs) ≤ 258 + 129 * length gs
unfolding fields_of
fields-short from o gs fs =
    omega (
      arith,
      length-append (string 1 (text from)) (other_bytes o ++ gossip_fields gs),
      length-append (other_bytes o) (gossip_fields gs),
      text-short 1 from (lit≤ tt),
      other_short o,
      gossips_short gs fs,
    )

-- the action as a field of the whole
pub silent-resumed : (k : ℕ) → resumed unsent k ≡ silent
unfolding resumed
silent-resumed k = elim (eqb 0 k) as (λ u. pick u silent silent ≡ silent) [ true ↦ refl | false ↦ refl ]

message-back : (k : ℕ) (from : Addr) (o : Optional) (gs : List Gossip) → 1 ≤ k → k ≤ 3 → here.valid from ≡ true → FitOther o → Fits gs → length gs ≤ 64
    → walk message_step 0 (delimited k (fields_of from o gs)) unsent
    ≡ read (record { kind = k; acting = record { from = text.Given from; other = other_text o; bad = false; gossip = gs } })
message-back k from o gs h₁ h₂ hf ho hg hn =
    let inside : List ℕ = fields_of from o gs in
    let a : Acting = record { from = text.Given from; other = other_text o; bad = false; gossip = gs } in
    let m : Message = record { kind = k; acting = a } in
    let long : length inside < 2 ^ 64 = omega (arith, fields-short from o gs hg) in
    ap (λ (l : List ℕ). walk message_step 0 l unsent) (sym (append-nil (delimited k inside)))
    ∙ walk_field message_step 0 (delimited k inside) [] unsent m (delimited_field k inside)
    (delimited-some k inside) (sym (delimited-long k inside)) (next-delimited k inside [] h₁ (omega arith) long)
    (sym (inner_read unsent 0 (delimited k inside ++ []) (delimited_field k inside) h₂ refl a
    (sym (ap (λ (l : List ℕ). walk action_step (0 + head_of k inside) l (resumed unsent k)) (content-delimited k inside [])
    ∙ ap (λ (x : Acting). walk action_step (0 + head_of k inside) inside x) (silent-resumed k)
    ∙ fields_back (0 + head_of k inside) from o gs hf ho hg))))
    ∙ walk_end message_step (0 + length (delimited k inside)) [] m refl

-- what an action needs to be sent
unfoldable pub FitAction : Action → Type 0
FitAction (Ping from requested) = (here.valid from ≡ true) × FitOther requested
FitAction (PingReq from suspect) = (here.valid from ≡ true) × (here.valid suspect ≡ true)
FitAction (Ack from forward) = (here.valid from ≡ true) × FitOther forward

ping_made : (from : Addr) (o : Optional) → action_of 1 from (other_text o) ≡ made'.Whole (Ping from o)
unfolding other_text action_of
ping_made from optional.Absent = refl
ping_made from (optional.Given b) = refl

ack_made : (from : Addr) (o : Optional) → action_of 3 from (other_text o) ≡ made'.Whole (Ack from o)
unfolding other_text action_of
ack_made from optional.Absent = refl
ack_made from (optional.Given b) = refl

req_made : (from b : Addr) → action_of 2 from (other_text (optional.Given b)) ≡ made'.Whole (PingReq from b)
unfolding other_text action_of
req_made from b = refl

judged-back : (k : ℕ) (from : Addr) (n : ℕ) (o : Optional) (a : Action) → 1 ≤ k → action_of k from (other_text o) ≡ made'.Whole a
    → judge_of k (text.Given from) (other_text o) false n ≡ Whole a
unfolding judge_of judge_from judge_made
judged-back k from n o a h e =
    ap (λ (u : Bool). pick u (Malformed n) (judge_made (action_of k from (other_text o)) false n)) (ne_eqb k 0 (λ q. omega arith))
    ∙ ap (λ (x : Made). judge_made x false n) e

pub record Says (d : Decode) (a : Action) (gs : List Gossip) : Type 0 where
  pub action : d.answer ≡ Whole a
  pub gossip : d.gossip ≡ gs

finished : (n k : ℕ) (from : Addr) (o : Optional) (a : Action) (gs : List Gossip) → judge_of k (text.Given from) (other_text o) false n ≡ Whole a
    → Says (finish n (read (record { kind = k; acting = record { from = text.Given from; other = other_text o; bad = false; gossip = gs } }))) a gs
unfolding finish
finished n k from o a gs e = record { action = e; gossip = refl }

by_kind : (k : ℕ) (from : Addr) (o : Optional) (a : Action) (gs : List Gossip) → 1 ≤ k → k ≤ 3 → here.valid from ≡ true → FitOther o → Fits gs → length gs ≤ 64
    → action_of k from (other_text o) ≡ made'.Whole a → Says (decode (delimited k (fields_of from o gs))) a gs
unfolding decode
by_kind k from o a gs h₁ h₂ hf ho hg hn e =
    let n : ℕ = length (delimited k (fields_of from o gs)) in
    subst (λ (x : Read Message). Says (finish n x) a gs) (sym (message-back k from o gs h₁ h₂ hf ho hg hn))
    (finished n k from o a gs (judged-back k from n o a h₁ e))

-- READING WHAT WAS WRITTEN GIVES THE ACTION BACK
pub decode-encode : (a : Action) (gs : List Gossip) → FitAction a → Fits gs → length gs ≤ 64 → Says (decode (encode a gs)) a gs
unfolding encode FitAction FitOther
decode-encode (Ping from o) gs (hf, ho) hg hn = by_kind 1 from o (Ping from o) gs (lit≤ tt) (lit≤ tt) hf ho hg hn (ping_made from o)
decode-encode (PingReq from b) gs (hf, hb) hg hn = by_kind 2 from (optional.Given b) (PingReq from b) gs (lit≤ tt) (lit≤ tt) hf hb hg hn (req_made from b)
decode-encode (Ack from o) gs (hf, ho) hg hn = by_kind 3 from o (Ack from o) gs (lit≤ tt) (lit≤ tt) hf ho hg hn (ack_made from o)
