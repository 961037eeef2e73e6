-- NO ACCEPTED INPUT IS SHORTER THAN THE WRITER'S ENCODING OF WHAT IT HOLDS: so what came in a buffer is forwarded in that buffer.
-- Assumes nothing.
use Rattle.std.proofs.Math.Path.{◌≡◌, refl, subst}
use Rattle.std.proofs.Common.{ap, sym, ◌∙◌, lit<, lit≤, length-append}
use Rattle.std.specs.Prelude.{Bool, List, [], ◌∷◌, ◌++◌, ℕ, ◌+◌, ◌-◌, ◌≤◌, ltb}
use Rattle.std.proofs.Math.Bool.{true, false}
use native.Mathlib.Omega.{arith}
use Rattle.std.proofs.Math.Dec.{eqb}
use Rattle.std.proofs.Math.ListN.{length}
use borrow.Author.Tests.{eqb-true}
use Rattle.model.specs.Rows.{pick}
use Rattle.address.specs.Here.{Addr, here_text as text}
use Rattle.types.specs.declared.Action.{Action}
use Rattle.types.specs.declared.Action.TheVariants.{Ping, PingReq, Ack}
use Rattle.types.specs.declared.Event.{Event}
use Rattle.types.specs.declared.Event.TheVariants.{Nothing, Joined, Recovered, Suspected, Deceased}
use Rattle.types.specs.declared.Gossip.{Gossip}
use Rattle.types.specs.declared.Optional.{Optional}
use Rattle.types.specs.declared.Optional.TheVariants as optional
use Rattle.types.specs.Views.{no_gossip}
use Rattle.types.specs.Wire.{varint, varint-one, tag, delimited, string, number, event_bytes, gossip_bytes}
use Rattle.varint.specs.Parts.{part-long}
use Rattle.fields.specs.declared.Field.{Field}
use Rattle.fields.specs.Field.{content}
use Rattle.fields.specs.FieldLaws.{Lies}
use Rattle.fields.specs.Walk.{Read, stopped, read, walk}
use Rattle.utf8.specs.Utf8.{utf8}
use Rattle.iptext.specs.declared.Text.{Text}
use Rattle.iptext.specs.declared.Text.TheVariants.{Empty, Malformed, Given}
use Rattle.iptext.specs.Reading.{text_of}
use Rattle.iptext.specs.Texts.{text-long}
use Rattle.iptext.specs.Canonical.{text-only}
use Rattle.events.specs.declared.Said.{Said}
use Rattle.events.specs.declared.TextField.TheVariants as field
use Rattle.events.specs.Event.{text_at, put_text, put_number, event_step, unsaid}
use Rattle.events.specs.Back.{kind, string-some}
use Rattle.gossips.specs.declared.Held.{Held}
use Rattle.gossips.specs.declared.Settled.{Settled}
use Rattle.gossips.specs.declared.Settled.TheVariants as settled
use Rattle.gossips.specs.Gossip.{unheld, started, gossip_step, settled as settled_of, whole_of, made, gossip_bytes_of}
use Rattle.actions.specs.declared.Piece.{Piece}
use Rattle.actions.specs.declared.Piece.TheVariants.{Unknown, From, Other, News}
use Rattle.actions.specs.Action.{Acting, silent, piece_at, put, action_step}
use Rattle.incoming.specs.declared.Made.{Made}
use Rattle.incoming.specs.declared.Made.TheVariants as made'
use Rattle.incoming.specs.declared.Decoded.TheVariants as decoded
use Rattle.incoming.specs.Datagram.{Message, unsent, resumed, message_step, action_of, judge_made, judge_from, judge_of, finish, decode}
use Rattle.incoming.specs.Encode.{other_bytes, gossip_fields, fields_of, encode}
use Rattle.datagram_promises.specs.Lengths.{Octets, long}
use Rattle.datagram_promises.specs.Growth.{enclosed, Takes, Grows}
use Rattle.datagram_promises.proofs.Growth.{delimited_takes, enclosed-more, enclosed-sum, same_read, not_stopped, then_read, walk_grows, content_grows}

-- a choice that was read, by its test
picked : {B S : Type 0} (u : Bool) (x y : Read S) (s : S) → pick u x y ≡ read s → (u ≡ true → x ≡ read s → B) → (u ≡ false → y ≡ read s → B) → B
picked true x y s e f g = f refl e
picked false x y s e f g = g refl e

-- ---- a text
-- what an address's text takes as a field; a text that says none is left out
unfoldable heft : Text → ℕ
heft Empty = 0
heft Malformed = 0
heft (Given a) = enclosed (length (text a))

string_takes : (n : ℕ) (a : Addr) → n ≤ 15 → length (string n (text a)) ≡ heft (Given a)
unfolding heft
string_takes n a h = ap (λ (l : List ℕ). length l) (string-some n (text a) (text-long a)) ∙ delimited_takes n (text a) h

-- only an address's own text says it
text_takes : (t : List ℕ) (x : Text) (size : ℕ) → text_of t ≡ x → enclosed (length t) ≤ size → heft x ≤ size
unfolding heft
text_takes t Empty size e h = omega arith
text_takes t Malformed size e h = omega arith
text_takes t (Given a) size e h = subst (λ (l : List ℕ). enclosed (length l) ≤ size) (text-only t a e).says h

no_text : {B : Type 0} (t : Text) → field.Stopped ≡ field.Read t → B
no_text t e = let z : ◌≡◌ {A = ℕ} 0 1 = cc in absurd (omega arith)

same_text : (s t : Text) → field.Read s ≡ field.Read t → s ≡ t
same_text s t e = cc

module _ (bytes : List ℕ) (f : Field) (l : Lies (length bytes) f) (t : Takes f) where
  field_takes : (x : Text) → text_at bytes f ≡ field.Read x → heft x ≤ f.size
  unfolding text_at
  field_takes x e =
      (elim (eqb f.wire 2) as (λ u. eqb f.wire 2 ≡ u → pick u (pick (utf8 (content bytes f)) (field.Read (text_of (content bytes f))) field.Stopped) field.Stopped ≡ field.Read x → heft x ≤ f.size) [
        | true ↦ λ w q.
            (elim (utf8 (content bytes f)) as (λ u. pick u (field.Read (text_of (content bytes f))) field.Stopped ≡ field.Read x → heft x ≤ f.size) [
              | true ↦ λ r.
                  let p = part-long bytes f.head f.size l.begins l.ends in
                  text_takes (content bytes f) x f.size (same_text (text_of (content bytes f)) x r)
                  (subst (λ (n : ℕ). enclosed n ≤ f.size) (sym p) (t.bytes (eqb-true f.wire 2 w)))
              | false ↦ λ r. no_text x r
            ]) q
        | false ↦ λ w q. no_text x q
      ]) refl e

  -- a text that is put where it belongs
  text-put : {S : Type 0} {B : Type 0} (place : ℕ) (into : Text → S) (s : S) → put_text place (text_at bytes f) into ≡ read s → ((x : Text) → heft x ≤ f.size → into x ≡ s → B) → B
  unfolding put_text
  text-put {S} {B} place into s e g =
      (elim (text_at bytes f) as (λ r. text_at bytes f ≡ r → put_text place r into ≡ read s → B) [
        | field.Stopped ↦ λ q w. not_stopped place s w
        | field.Read x ↦ λ q w. g x (field_takes x q) (same_read (into x) s w)
      ]) refl e

-- ---- an event
-- what a number takes as a field: 0 is left out
unfoldable number_heft : ℕ → ℕ
number_heft n = pick (eqb n 0) 0 (1 + long n)

number_takes : (n : ℕ) → length (number 3 n) ≡ number_heft n
unfolding number_heft
number_takes n =
    elim (eqb n 0) as (λ u. length (pick u [] (tag 3 0 ++ varint n)) ≡ pick u 0 (1 + long n)) [
      | true ↦ refl
      | false ↦ let k = varint-one 24 (lit< tt) in let a = length-append (tag 3 0) (varint n) in omega arith
    ]

number-least : (n : ℕ) → number_heft n ≤ 1 + long n
unfolding number_heft
number-least n = elim (eqb n 0) as (λ u. pick u 0 (1 + long n) ≤ 1 + long n) [ true ↦ omega arith | false ↦ omega arith ]

unfoldable said_heft : Said → ℕ
said_heft s = heft s.from + heft s.subject + number_heft s.number

event_grows : Grows said_heft event_step
unfolding event_step put_number said_heft
event_grows = record {
  grows = λ s place bytes f o l t s' e.
      picked (eqb f.number 1) _ _ s' e
      (λ u q. text-put bytes f l t place _ s' q (λ x h w. subst (λ (r : Said). said_heft r ≤ said_heft s + f.size) w (omega arith)))
      (λ u q. picked (eqb f.number 2) _ _ s' q
      (λ u q. text-put bytes f l t place _ s' q (λ x h w. subst (λ (r : Said). said_heft r ≤ said_heft s + f.size) w (omega arith)))
      (λ u q. picked (eqb f.number 3) _ _ s' q
      (λ u q. picked (eqb f.wire 0) _ _ s' q
      (λ w q.
      let n = number-least f.value in
      let z = t.number (eqb-true f.wire 0 w) in
      subst (λ (r : Said). said_heft r ≤ said_heft s + f.size) (same_read _ s' q) (omega arith))
      (λ w q. not_stopped place s' q))
      (λ u q. subst (λ (r : Said). said_heft r ≤ said_heft s + f.size) (same_read s s' q) (omega arith))));
}

-- the writer's bytes of an event
event_takes : (k : ℕ) (from subject : Addr) (n : ℕ) → length (event_bytes (kind k) (text from) (text subject) n) ≡ said_heft (record { from = Given from; subject = Given subject; number = n })
unfolding said_heft
event_takes k from subject n =
    let a = string_takes 1 from (lit≤ tt) in
    let b = string_takes 2 subject (lit≤ tt) in
    let c = number_takes n in
    let x = length-append (string 1 (text from)) (string 2 (text subject) ++ number 3 n) in
    let y = length-append (string 2 (text subject)) (number 3 n) in
    omega arith

-- ---- messages in a message: of a kind that is held, or of a new one
unfoldable kind_heft : ℕ → ℕ → ℕ
kind_heft k w = pick (eqb k 0) 0 (enclosed w)

kind-least : (k w : ℕ) → kind_heft k w ≤ enclosed w
unfolding kind_heft
kind-least k w = elim (eqb k 0) as (λ u. pick u 0 (enclosed w) ≤ enclosed w) [ true ↦ omega arith | false ↦ omega arith ]

-- a message of c bytes, merged into one of weight w under the same number or put in its place
module _ (k n w w' c size : ℕ) (h : enclosed c ≤ size) where
  merged : (b : ℕ) → (eqb k n ≡ true → b ≡ w) → (eqb k n ≡ false → b ≡ 0) → w' ≤ b + c → kind_heft n w' ≤ kind_heft k w + size
  unfolding kind_heft
  merged b same other g =
      (elim (eqb k n) as (λ u. eqb k n ≡ u → kind_heft n w' ≤ kind_heft k w + size) [
        | true ↦ λ e.
            let q : k ≡ n = eqb-true k n e in
            let z : b ≡ w = same e in
            subst (λ (m : ℕ). kind_heft m w' ≤ kind_heft k w + size) q (both z)
        | false ↦ λ e.
            let z : b ≡ 0 = other e in
            let l = kind-least n w' in
            let m = enclosed-more w' c (omega arith) in
            omega arith
      ]) refl
    where
      both : b ≡ w → kind_heft k w' ≤ kind_heft k w + size
      both z =
          elim (eqb k 0) as (λ u. pick u 0 (enclosed w') ≤ pick u 0 (enclosed w) + size) [
            | true ↦ omega arith
            | false ↦ let s = enclosed-sum w c w' (omega arith) in omega arith
          ]

-- ---- a gossip
unfoldable held_heft : Held → ℕ
held_heft h = kind_heft h.kind (said_heft h.said)

started-same : (h : Held) (n : ℕ) → eqb h.kind n ≡ true → said_heft (started h n) ≡ said_heft h.said
unfolding started
started-same h n e = ap (λ (u : Bool). said_heft (pick u h.said unsaid)) e

started_other : (h : Held) (n : ℕ) → eqb h.kind n ≡ false → said_heft (started h n) ≡ 0
unfolding started said_heft heft number_heft
started_other h n e = ap (λ (u : Bool). said_heft (pick u h.said unsaid)) e

gossip_grows : Grows held_heft gossip_step
unfolding gossip_step held_heft
gossip_grows = record {
  grows = λ h place bytes f o l t h' e.
      picked (ltb 4 f.number) _ _ h' e
      (λ u q. subst (λ (r : Held). held_heft r ≤ held_heft h + f.size) (same_read h h' q) (omega arith))
      (λ u q. picked (eqb f.wire 2) _ _ h' q
      (λ w q.
      let x = then_read (walk event_step (place + f.head) (content bytes f) (started h f.number)) _ h' q in
      let g = content_grows said_heft event_step event_grows (place + f.head) bytes f (started h f.number) x.0 o l x.1 in
      subst (λ (r : Held). held_heft r ≤ held_heft h + f.size) (same_read _ h' x.2)
      (merged h.kind f.number (said_heft h.said) (said_heft x.0) (f.size - f.head) f.size (t.bytes (eqb-true f.wire 2 w))
      (said_heft (started h f.number)) (started-same h f.number) (started_other h f.number) g))
      (λ w q. not_stopped place h' q));
}

module _ (from subject : Addr) (n : ℕ) where
  abbrev TakesEvent : Event → Type 0
  TakesEvent e = length (gossip_bytes_of (record { event = e })) ≡ enclosed (said_heft (record { from = Given from; subject = Given subject; number = n }))

  event-pick : (u : Bool) (x y : Event) → TakesEvent x → TakesEvent y → TakesEvent (pick u x y)
  event-pick true x y p q = p
  event-pick false x y p q = q

  of-kind : (j : ℕ) → j ≤ 15 → length (gossip_bytes (kind j) (text from) (text subject) n) ≡ enclosed (said_heft (record { from = Given from; subject = Given subject; number = n }))
  of-kind j h = delimited_takes j (event_bytes (kind j) (text from) (text subject) n) h ∙ ap enclosed (event_takes j from subject n)

  made_takes : (k : ℕ) → TakesEvent (made k from subject n)
  unfolding made gossip_bytes_of
  made_takes k =
      event-pick (eqb k 1) (Joined from subject n) _ (of-kind 1 (lit≤ tt))
      (event-pick (eqb k 2) (Recovered from subject n) _ (of-kind 2 (lit≤ tt))
      (event-pick (eqb k 3) (Suspected from subject n) (Deceased from subject n) (of-kind 3 (lit≤ tt)) (of-kind 4 (lit≤ tt))))

missing : {B : Type 0} (g : Gossip) → settled.Missing ≡ settled.Whole g → B
missing g e = let z : ◌≡◌ {A = ℕ} 0 1 = cc in absurd (omega arith)

same-gossip : (g h : Gossip) → settled.Whole g ≡ settled.Whole h → g ≡ h
same-gossip g h e = cc

abbrev gossip_size : Gossip → ℕ
gossip_size g = length (gossip_bytes_of g)

-- a gossip of an event, read with both its addresses
whole_takes : (k n : ℕ) (from subject : Text) (g : Gossip) → whole_of k n from subject ≡ settled.Whole g → gossip_size g ≤ enclosed (said_heft (record { from = from; subject = subject; number = n }))
unfolding whole_of
whole_takes k n Empty subject g e = missing g e
whole_takes k n Malformed subject g e = missing g e
whole_takes k n (Given from) Empty g e = missing g e
whole_takes k n (Given from) Malformed g e = missing g e
whole_takes k n (Given from) (Given subject) g e =
    let q = made_takes from subject n k in
    subst (λ (x : Gossip). gossip_size x ≤ enclosed (said_heft (record { from = Given from; subject = Given subject; number = n }))) (same-gossip _ g e) (omega arith)

settled_takes : (h : Held) (g : Gossip) → settled_of h ≡ settled.Whole g → gossip_size g ≤ held_heft h
unfolding settled_of held_heft kind_heft gossip_bytes_of
settled_takes h g e =
    (elim (eqb h.kind 0) as (λ u. pick u (settled.Whole (record { event = Nothing })) (whole_of h.kind h.said.number h.said.from h.said.subject) ≡ settled.Whole g → gossip_size g ≤ pick u 0 (enclosed (said_heft h.said))) [
      | true ↦ λ q. subst (λ (x : Gossip). gossip_size x ≤ 0) (same-gossip _ g q) (omega arith)
      | false ↦ λ q. whole_takes h.kind h.said.number h.said.from h.said.subject g q
    ]) e

-- ---- an action
unfoldable acting_heft : Acting → ℕ
acting_heft a = heft a.from + heft a.other + length (gossip_fields a.gossip)

one_more : (gs : List Gossip) (g : Gossip) → length (gossip_fields (gs ++ (g ∷ []))) ≡ length (gossip_fields gs) + enclosed (gossip_size g)
unfolding gossip_fields
one_more [] g =
    let d = delimited_takes 3 (gossip_bytes_of g) (lit≤ tt) in
    let a = length-append (delimited 3 (gossip_bytes_of g)) [] in
    omega arith
one_more (x ∷ gs) g =
    let i = one_more gs g in
    let a = length-append (delimited 3 (gossip_bytes_of x)) (gossip_fields (gs ++ (g ∷ []))) in
    let b = length-append (delimited 3 (gossip_bytes_of x)) (gossip_fields gs) in
    omega arith

-- what one field says takes no more than the field
unfoldable piece_heft : Piece → ℕ
piece_heft Unknown = 0
piece_heft (From t) = heft t
piece_heft (Other t) = heft t
piece_heft (News settled.Missing) = enclosed 0
piece_heft (News (settled.Whole g)) = enclosed (gossip_size g)

none_size : enclosed (gossip_size no_gossip) ≡ enclosed 0
unfolding gossip_bytes_of
none_size = refl

put_takes : (a : Acting) (p : Piece) → acting_heft (put a p) ≤ acting_heft a + piece_heft p
unfolding put acting_heft piece_heft
put_takes a Unknown = omega arith
put_takes a (From t) = omega arith
put_takes a (Other t) = omega arith
put_takes a (News settled.Missing) = let m = one_more a.gossip no_gossip in let z = none_size in omega arith
put_takes a (News (settled.Whole g)) = let m = one_more a.gossip g in omega arith

news_takes : (s : Settled) (h : Held) (c : ℕ) → settled_of h ≡ s → held_heft h ≤ c → piece_heft (News s) ≤ enclosed c
unfolding piece_heft
news_takes settled.Missing h c e l = enclosed-more 0 c (omega arith)
news_takes (settled.Whole g) h c e l = let t = settled_takes h g e in enclosed-more (gossip_size g) c (omega arith)

held_none : (w c : ℕ) → w ≤ held_heft unheld + c → w ≤ c
unfolding held_heft kind_heft
held_none w c h = omega arith

piece_takes : (place : ℕ) (bytes : List ℕ) (f : Field) → Octets bytes → Lies (length bytes) f → Takes f → (p : Piece) → piece_at place bytes f ≡ read p → piece_heft p ≤ f.size
unfolding piece_at piece_heft
piece_takes place bytes f o l t p e =
    picked (eqb f.number 1) _ _ p e
    (λ u q. text-put bytes f l t place From p q (λ x h w. subst (λ (r : Piece). piece_heft r ≤ f.size) w h))
    (λ u q. picked (eqb f.number 2) _ _ p q
    (λ u q. text-put bytes f l t place Other p q (λ x h w. subst (λ (r : Piece). piece_heft r ≤ f.size) w h))
    (λ u q. picked (eqb f.number 3) _ _ p q
    (λ u q. picked (eqb f.wire 2) _ _ p q
    (λ w q.
    let x = then_read (walk gossip_step (place + f.head) (content bytes f) unheld) _ p q in
    let g = content_grows held_heft gossip_step gossip_grows (place + f.head) bytes f unheld x.0 o l x.1 in
    let n = news_takes (settled_of x.0) x.0 (f.size - f.head) refl (held_none (held_heft x.0) (f.size - f.head) g) in
    let b = t.bytes (eqb-true f.wire 2 w) in
    subst (λ (r : Piece). piece_heft r ≤ f.size) (same_read _ p x.2) (omega arith))
    (λ w q. not_stopped place p q))
    (λ u q. subst (λ (r : Piece). piece_heft r ≤ f.size) (same_read Unknown p q) (omega arith))))

action_grows : Grows acting_heft action_step
unfolding action_step
action_grows = record {
  grows = λ a place bytes f o l t a' e.
      let x = then_read (piece_at place bytes f) _ a' e in
      let p = piece_takes place bytes f o l t x.0 x.1 in
      let q = put_takes a x.0 in
      subst (λ (r : Acting). acting_heft r ≤ acting_heft a + f.size) (same_read _ a' x.2) (omega arith);
}

-- ---- a datagram
unfoldable message_heft : Message → ℕ
message_heft m = kind_heft m.kind (acting_heft m.acting)

resumed-same : (m : Message) (n : ℕ) → eqb m.kind n ≡ true → acting_heft (resumed m n) ≡ acting_heft m.acting
unfolding resumed
resumed-same m n e = ap (λ (u : Bool). acting_heft (pick u m.acting silent)) e

resumed_other : (m : Message) (n : ℕ) → eqb m.kind n ≡ false → acting_heft (resumed m n) ≡ 0
unfolding resumed acting_heft heft gossip_fields
resumed_other m n e = ap (λ (u : Bool). acting_heft (pick u m.acting silent)) e

message_grows : Grows message_heft message_step
unfolding message_step message_heft
message_grows = record {
  grows = λ m place bytes f o l t m' e.
      picked (ltb 3 f.number) _ _ m' e
      (λ u q. subst (λ (r : Message). message_heft r ≤ message_heft m + f.size) (same_read m m' q) (omega arith))
      (λ u q. picked (eqb f.wire 2) _ _ m' q
      (λ w q.
      let x = then_read (walk action_step (place + f.head) (content bytes f) (resumed m f.number)) _ m' q in
      let g = content_grows acting_heft action_step action_grows (place + f.head) bytes f (resumed m f.number) x.0 o l x.1 in
      subst (λ (r : Message). message_heft r ≤ message_heft m + f.size) (same_read _ m' x.2)
      (merged m.kind f.number (acting_heft m.acting) (acting_heft x.0) (f.size - f.head) f.size (t.bytes (eqb-true f.wire 2 w))
      (acting_heft (resumed m f.number)) (resumed-same m f.number) (resumed_other m f.number) g))
      (λ w q. not_stopped place m' q));
}

-- what the writer makes of the action and its gossip
unfoldable other_text : Optional → Text
other_text optional.Absent = Empty
other_text (optional.Given b) = Given b

fields-take : (from : Addr) (o : Optional) (gs : List Gossip) (bad : Bool) → length (fields_of from o gs) ≡ acting_heft (record { from = Given from; other = other_text o; bad = bad; gossip = gs })
unfolding fields_of acting_heft other_text other_bytes heft
fields-take from optional.Absent gs bad =
    let a = string_takes 1 from (lit≤ tt) in
    let x = length-append (string 1 (text from)) (gossip_fields gs) in
    omega arith
fields-take from (optional.Given b) gs bad =
    let a = string_takes 1 from (lit≤ tt) in
    let c = string_takes 2 b (lit≤ tt) in
    let x = length-append (string 1 (text from)) (string 2 (text b) ++ gossip_fields gs) in
    let y = length-append (string 2 (text b)) (gossip_fields gs) in
    omega arith

-- the action of a kind is written in a field that holds its fields
module _ (from : Addr) (gs : List Gossip) (bad : Bool) where
  encoded : (j : ℕ) → j ≤ 15 → (o : Optional) → length (delimited j (fields_of from o gs)) ≤ enclosed (acting_heft (record { from = Given from; other = other_text o; bad = bad; gossip = gs }))
  encoded j h o =
      let d = delimited_takes j (fields_of from o gs) h in
      let q = ap enclosed (fields-take from o gs bad) in
      omega arith

  action_takes : (k : ℕ) (other : Text) (a : Action) → action_of k from other ≡ made'.Whole a → length (encode a gs) ≤ enclosed (acting_heft (record { from = Given from; other = other; bad = bad; gossip = gs }))
  unfolding action_of encode other_text
  action_takes k Malformed a e = absurd_made a e
    where
      absurd_made : {B : Type 0} (a : Action) → made'.Missing ≡ made'.Whole a → B
      absurd_made a e = let z : ◌≡◌ {A = ℕ} 0 1 = cc in absurd (omega arith)
  action_takes k Empty a e =
      (elim (eqb k 1) as (λ u. pick u (made'.Whole (Ping from optional.Absent)) (pick (eqb k 2) made'.Missing (made'.Whole (Ack from optional.Absent))) ≡ made'.Whole a → Fits a) [
        | true ↦ λ q. subst Fits (same_action _ a q) (encoded 1 (lit≤ tt) optional.Absent)
        | false ↦ λ q.
            (elim (eqb k 2) as (λ u. pick u made'.Missing (made'.Whole (Ack from optional.Absent)) ≡ made'.Whole a → Fits a) [
              | true ↦ λ r. let z : ◌≡◌ {A = ℕ} 0 1 = cc in absurd (omega arith)
              | false ↦ λ r. subst Fits (same_action _ a r) (encoded 3 (lit≤ tt) optional.Absent)
            ]) q
      ]) e
    where
      Fits : Action → Type 0
      Fits a = length (encode a gs) ≤ enclosed (acting_heft (record { from = Given from; other = Empty; bad = bad; gossip = gs }))

      same_action : (a b : Action) → made'.Whole a ≡ made'.Whole b → a ≡ b
      same_action a b e = cc
  action_takes k (Given b) a e =
      (elim (eqb k 1) as (λ u. pick u (made'.Whole (Ping from (optional.Given b))) (pick (eqb k 2) (made'.Whole (PingReq from b)) (made'.Whole (Ack from (optional.Given b)))) ≡ made'.Whole a → Fits a) [
        | true ↦ λ q. subst Fits (same_action _ a q) (encoded 1 (lit≤ tt) (optional.Given b))
        | false ↦ λ q.
            (elim (eqb k 2) as (λ u. pick u (made'.Whole (PingReq from b)) (made'.Whole (Ack from (optional.Given b))) ≡ made'.Whole a → Fits a) [
              | true ↦ λ r. subst Fits (same_action _ a r) (encoded 2 (lit≤ tt) (optional.Given b))
              | false ↦ λ r. subst Fits (same_action _ a r) (encoded 3 (lit≤ tt) (optional.Given b))
            ]) q
      ]) e
    where
      Fits : Action → Type 0
      Fits a = length (encode a gs) ≤ enclosed (acting_heft (record { from = Given from; other = Given b; bad = bad; gossip = gs }))

      same_action : (a b : Action) → made'.Whole a ≡ made'.Whole b → a ≡ b
      same_action a b e = cc

malformed : {B : Type 0} (n : ℕ) (a : Action) → decoded.Malformed n ≡ decoded.Whole a → B
malformed n a e = let z : ◌≡◌ {A = ℕ} 0 1 = cc in absurd (omega arith)

made-whole : (m : Made) (bad : Bool) (n : ℕ) (a : Action) → judge_made m bad n ≡ decoded.Whole a → m ≡ made'.Whole a
unfolding judge_made
made-whole made'.Missing bad n a e = malformed n a e
made-whole (made'.Whole b) true n a e = malformed n a e
made-whole (made'.Whole b) false n a e = let q : b ≡ a = cc in ap made'.Whole q

from_takes : (k : ℕ) (from other : Text) (bad : Bool) (n : ℕ) (gs : List Gossip) (a : Action) → judge_from k from other bad n ≡ decoded.Whole a
    → length (encode a gs) ≤ enclosed (acting_heft (record { from = from; other = other; bad = bad; gossip = gs }))
unfolding judge_from
from_takes k Empty other bad n gs a e = malformed n a e
from_takes k Malformed other bad n gs a e = malformed n a e
from_takes k (Given b) other bad n gs a e = action_takes b gs bad k other a (made-whole (action_of k b other) bad n a e)

message_takes : (m : Message) (n : ℕ) (a : Action) → judge_of m.kind m.acting.from m.acting.other m.acting.bad n ≡ decoded.Whole a → length (encode a m.acting.gossip) ≤ message_heft m
unfolding judge_of message_heft kind_heft
message_takes m n a e =
    (elim (eqb m.kind 0) as (λ u. pick u (decoded.Malformed n) (judge_from m.kind m.acting.from m.acting.other m.acting.bad n) ≡ decoded.Whole a → length (encode a m.acting.gossip) ≤ pick u 0 (enclosed (acting_heft m.acting))) [
      | true ↦ λ q. malformed n a q
      | false ↦ λ q. from_takes m.kind m.acting.from m.acting.other m.acting.bad n m.acting.gossip a q
    ]) e

finish_takes : (n : ℕ) (r : Read Message) (a : Action) → (finish n r).answer ≡ decoded.Whole a → ((m : Message) → r ≡ read m → message_heft m ≤ n) → length (encode a (finish n r).gossip) ≤ n
unfolding finish
finish_takes n (stopped p) a e h = malformed p a e
finish_takes n (read m) a e h = let t = message_takes m n a e in let w = h m refl in omega arith

message-none : (w c : ℕ) → w ≤ message_heft unsent + c → w ≤ c
unfolding message_heft kind_heft
message-none w c h = omega arith

pub least : (bytes : List ℕ) (a : Action) → Octets bytes → (decode bytes).answer ≡ decoded.Whole a → length (encode a (decode bytes).gossip) ≤ length bytes
unfolding decode
least bytes a o e = finish_takes (length bytes) (walk message_step 0 bytes unsent) a e (λ m q. message-none (message_heft m) (length bytes) (walk_grows message_heft message_step message_grows 0 bytes unsent m o q))
