-- Each way out of the functions that read a datagram.
-- Assumes nothing.
use Rattle.std.specs.Prelude.{◌≡◌, Bool, eqb, drop}
use Rattle.std.proofs.Math.Path.{refl, ap, sym, subst}
use Rattle.std.proofs.Common.{◌∙◌, take_all}
use Rattle.std.proofs.Math.Bool.{true, false}
use mathlib.Core.List.{List, []}
use Prim.Native.Nat.{ℕ, ◌+◌, ◌≤◌, ◌<◌, min}
use native.Mathlib.Omega.{arith}
use Rattle.std.proofs.Math.Dec.{ltb}
use Rattle.std.proofs.Math.ListN.{length, take}
use borrow.Author.Tests.{eq-eqb, ne_eqb, lt-ltb, le-ltb, ltb-true, ltb-false}
use Rattle.model.specs.declared.Refusal.TheVariants.{ShortRow, ManyRecords}
use Rattle.model.specs.Bounds.{message_records}
use Rattle.model.specs.Rows.{pick}
use Rattle.types.specs.declared.Action.{Action}
use Rattle.types.specs.declared.Gossip.{Gossip}
use Rattle.fields.specs.declared.Field.{Field}
use Rattle.fields.specs.declared.Next.TheVariants as next
use Rattle.fields.specs.Field.{next_in, content}
use Rattle.fields.specs.Walk.{Read, stopped, read, and_then, walk}
use Rattle.fields.specs.Walks.{Going, going_stop, going_refuse, going_more}
use Rattle.iptext.specs.declared.Text.{Text}
use Rattle.iptext.specs.declared.Text.TheVariants as text
use Rattle.actions.specs.declared.Small.{Small}
use Rattle.actions.specs.declared.Acted.{Acted}
use Rattle.actions.specs.Action.{Acting, silent, action_step, Shows, Given, Acts}
use Rattle.incoming.specs.declared.Decoded.{Decoded}
use Rattle.incoming.specs.declared.Decoded.TheVariants.{Malformed, Whole}
use Rattle.incoming.specs.declared.Reading.{Reading}
use Rattle.incoming.specs.declared.Reading.TheVariants as reading
use Rattle.incoming.specs.declared.Datagram.{Datagram}
use Rattle.incoming.specs.Datagram.{Message, unsent, resumed, message_step, judge_of, finish, decode, unspoken, resumed_at, malformed_of, Decodes, told_of, reading_of, handed, records_of, given_of, Takes}

module _ (m : Message) (place : ℕ) (bytes : List ℕ) (f : Field) where
  pub other_kind : 3 < f.number → read m ≡ message_step m place bytes f
  unfolding message_step
  other_kind l = sym (simp (lt-ltb 3 f.number l))

  module _ (l : f.number ≤ 3) where
    pub wrong_wire : (f.wire ≡ 2 → ⊥) → stopped place ≡ message_step m place bytes f
    unfolding message_step
    wrong_wire w = sym (simp (le-ltb 3 f.number l, ne_eqb f.wire 2 w))

    module _ (w : f.wire ≡ 2) where
      inner : message_step m place bytes f ≡ and_then (walk action_step (place + f.head) (content bytes f) (resumed m f.number)) (λ t. read (record { kind = f.number; acting = t }))
      unfolding message_step
      inner = simp (le-ltb 3 f.number l, eq-eqb f.wire 2 w)

      pub inner_stop : (p : ℕ) → stopped p ≡ walk action_step (place + f.head) (content bytes f) (resumed m f.number) → stopped p ≡ message_step m place bytes f
      unfolding and_then
      inner_stop p q = sym (inner ∙ ap (λ (r : Read Acting). and_then r (λ t. read (record { kind = f.number; acting = t }))) (sym q))

      pub inner_read : (t : Acting) → read t ≡ walk action_step (place + f.head) (content bytes f) (resumed m f.number) → read (record { kind = f.number; acting = t }) ≡ message_step m place bytes f
      unfolding and_then
      inner_read t q = sym (inner ∙ ap (λ (r : Read Acting). and_then r (λ t. read (record { kind = f.number; acting = t }))) (sym q))

-- what a row shows of the action that goes on
shows_silent : (row : List Gossip) → Shows silent unspoken row
shows_silent row = record { from = refl; other = refl; bad = refl; count = refl; kept = refl }

pub shows_unspoken : (row : List Gossip) (s : Small) → s ≡ unspoken → Shows silent s row
shows_unspoken row s e = subst (λ (x : Small). Shows silent x row) (sym e) (shows_silent row)

pub shows_resumed : (m : Message) (s : Small) (row : List Gossip) (k n : ℕ) (t : Small) → m.kind ≡ k → Shows m.acting s row → t ≡ resumed_at k s n → Shows (resumed m n) t row
unfolding resumed resumed_at
shows_resumed m s row k n t e h q =
    subst (λ (x : Small). Shows (pick (eqb m.kind n) m.acting silent) x row) (sym q)
    (subst (λ (x : ℕ). Shows (pick (eqb x n) m.acting silent) (pick (eqb k n) s (record { from = text.Empty; other = text.Empty; bad = false; count = 0 })) row) (sym e)
    (elim (eqb k n) as (λ u. Shows (pick u m.acting silent) (pick u s (record { from = text.Empty; other = text.Empty; bad = false; count = 0 })) row) [
      | true ↦ h
      | false ↦ shows_silent row
    ]))

given_stop : (x : Read Acting) (r : Acted) → Given x r → r.stopped ≡ true → stopped r.place ≡ x
unfolding Given
given_stop (stopped p) r g e = ap stopped g.1
given_stop (read a) r g e = let u = g.0 in let z : true ≡ false = sym e ∙ u in let y : ◌≡◌ {A = ℕ} 0 1 = cc in absurd (omega arith)

given-more : (x : Read Acting) (r : Acted) → Given x r → r.stopped ≡ false → (b : Acting) × (read b ≡ x) × Shows b r.small r.row
unfolding Given
given-more (stopped p) r g e = let u = g.0 in let z : false ≡ true = sym e ∙ u in let y : ◌≡◌ {A = ℕ} 0 1 = cc in absurd (omega arith)
given-more (read a) r g e = (a, refl, g.1)

-- the loop
pub record Run (bytes : List ℕ) (at k : ℕ) (s : Small) (row : List Gossip) : Type 0 where
  pub within : at ≤ length bytes
  pub said : Message
  pub going : Going message_step 0 bytes unsent at said
  pub kind : said.kind ≡ k
  pub shows : Shows said.acting s row

module _ (bytes : List ℕ) (at k : ℕ) (s : Small) (row : List Gossip) (n : Run bytes at k s row) (rest : List ℕ) (e : rest ≡ drop at bytes) (h : at < length bytes) where
  pub run_stop : next.Stopped ≡ next_in rest → stopped at ≡ walk message_step 0 bytes unsent
  run_stop q = let z : at ≡ 0 + at = omega arith in ap stopped z ∙ going_stop message_step 0 bytes unsent at n.said n.going rest e h q

  module _ (f : Field) (q : next.Found f ≡ next_in rest) where
    pub run-over : 3 < f.number → at + f.size ≤ length bytes → Run bytes (at + f.size) k s row
    run-over l b = record {
      within = b;
      said = n.said;
      going = going_more message_step 0 bytes unsent at n.said n.going rest e h f q n.said (other_kind n.said (0 + at) rest f l);
      kind = n.kind;
      shows = n.shows;
    }

    module _ (l : f.number ≤ 3) where
      pub run_wrong : (f.wire ≡ 2 → ⊥) → stopped at ≡ walk message_step 0 bytes unsent
      run_wrong w =
          let z : at ≡ 0 + at = omega arith in
          ap stopped z ∙ going_refuse message_step 0 bytes unsent at n.said n.going rest e h f q (0 + at) (wrong_wire n.said (0 + at) rest f l w)

      module _ (w : f.wire ≡ 2) (t : Small) (v : t ≡ resumed_at k s f.number) (r : Acted) (g : Acts (at + f.head) (content rest f) t row r) where
        here : Given (walk action_step (0 + at + f.head) (content rest f) (resumed n.said f.number)) r
        here =
            let z : at + f.head ≡ 0 + at + f.head = omega arith in
            subst (λ (p : ℕ). Given (walk action_step p (content rest f) (resumed n.said f.number)) r) z
            (g.acts (resumed n.said f.number) (shows_resumed n.said s row k f.number t n.kind n.shows v))

        pub run-refuse : r.stopped ≡ true → stopped r.place ≡ walk message_step 0 bytes unsent
        run-refuse u =
            going_refuse message_step 0 bytes unsent at n.said n.going rest e h f q r.place
            (inner_stop n.said (0 + at) rest f l w r.place (given_stop (walk action_step (0 + at + f.head) (content rest f) (resumed n.said f.number)) r here u))

        pub run_more : r.stopped ≡ false → at + f.size ≤ length bytes → Run bytes (at + f.size) f.number r.small r.row
        run_more u b =
            let x = given-more (walk action_step (0 + at + f.head) (content rest f) (resumed n.said f.number)) r here u in
            record {
              within = b;
              said = record { kind = f.number; acting = x.0 };
              going = going_more message_step 0 bytes unsent at n.said n.going rest e h f q (record { kind = f.number; acting = x.0 }) (inner_read n.said (0 + at) rest f l w x.0 x.1);
              kind = refl;
              shows = x.2;
            }

-- what the whole comes to
stops : (bytes : List ℕ) (row : List Gossip) (p : ℕ) → stopped p ≡ walk message_step 0 bytes unsent → Decodes bytes (malformed_of p row)
unfolding decode finish
stops bytes row p e = record {
  says = ap (λ (x : Read Message). (finish (length bytes) x).answer) e;
  counts = ap (λ (x : Read Message). min (length (finish (length bytes) x).gossip) 65) e;
  hands = ap (λ (x : Read Message). take 64 (finish (length bytes) x).gossip) e;
}

pub decodes_stop : (bytes : List ℕ) (row : List Gossip) (p : ℕ) (r : Datagram) → r ≡ malformed_of p row → stopped p ≡ walk message_step 0 bytes unsent → Decodes bytes r
decodes_stop bytes row p r q e = subst (Decodes bytes) (sym q) (stops bytes row p e)

module _ (bytes : List ℕ) (m : Message) (k : ℕ) (s : Small) (row : List Gossip) (e : read m ≡ walk message_step 0 bytes unsent) (q : m.kind ≡ k) (h : Shows m.acting s row) where
  abbrev judged : Decoded
  judged = judge_of m.kind m.acting.from m.acting.other m.acting.bad (length bytes)

  same : judge_of k s.from s.other s.bad (length bytes) ≡ judged
  same =
      ap (λ (x : ℕ). judge_of x s.from s.other s.bad (length bytes)) (sym q)
      ∙ ap (λ (x : Text). judge_of m.kind x s.other s.bad (length bytes)) h.from
      ∙ ap (λ (x : Text). judge_of m.kind m.acting.from x s.bad (length bytes)) h.other
      ∙ ap (λ (x : Bool). judge_of m.kind m.acting.from m.acting.other x (length bytes)) h.bad

  pub decodes_read : (d : Decoded) → d ≡ judge_of k s.from s.other s.bad (length bytes) → Decodes bytes (record { answer = d; count = s.count; row = row })
  unfolding decode finish
  decodes_read d j =
      record {
        says = j ∙ same ∙ ap (λ (v : Read Message). (finish (length bytes) v).answer) e;
        counts = h.count ∙ ap (λ (v : Read Message). min (length (finish (length bytes) v).gossip) 65) e;
        hands = h.kept ∙ ap (λ (v : Read Message). take 64 (finish (length bytes) v).gossip) e;
      }

-- what a host is told, and given
module _ (bytes : List ℕ) (places : ℕ) where
  pub takes_short : (row : List Gossip) → places < 64 → Takes bytes places (record { count = 0; row = row; answer = reading.Refused ShortRow })
  unfolding reading_of records_of handed
  takes_short row h =
      let e : reading.Refused ShortRow ≡ reading_of bytes places = sym (simp (lt-ltb places message_records h)) in
      let r : [] ≡ records_of bytes places = ap (λ (x : Reading). handed x (decode bytes).gossip) e in
      record { says = e; hands = r; counts = ap (λ (l : List Gossip). length l) r; fits = omega arith; few = omega arith }

  module _ (h : 64 ≤ places) (d : Datagram) (g : Decodes bytes d) where
    abbrev gs : List Gossip
    gs = (decode bytes).gossip

    said : reading_of bytes places ≡ told_of d.answer (length gs)
    unfolding reading_of
    said =
        ap (λ (u : Bool). pick u (reading.Refused ShortRow) (told_of (decode bytes).answer (length gs))) (le-ltb places message_records h)
        ∙ ap (λ (x : Decoded). told_of x (length gs)) (sym g.says)

    -- an action whose count, up to 65, is told or found too great
    abbrev at : Action → Bool → ℕ → Reading
    at a u n = pick u (reading.Refused ManyRecords) (reading.Whole a n)

    -- what is told, how many records are handed over, and which, of the count up to 65 and of the whole count
    abbrev Same : Reading → Reading → Type 0
    Same x y = (x ≡ y) × (given_of x ≡ length (handed y gs)) × (take (given_of x) d.row ≡ handed y gs) × (given_of x ≤ 64)

    taken : d.count ≡ length gs → length gs ≤ 64 → take d.count d.row ≡ gs
    taken c l =
        let z : d.count ≡ min d.count 64 = omega (arith, c, l) in
        ap (λ (n : ℕ). take n d.row) z ∙ g.hands ∙ take_all 64 gs l

    told_same : (x : Decoded) → Same (told_of x d.count) (told_of x (length gs))
    unfolding told_of given_of handed
    told_same (Malformed p) = (refl, refl, refl, omega arith)
    told_same (Whole a) =
        (elim (ltb message_records (length gs)) as (λ u. ltb message_records (length gs) ≡ u → Same (at a (ltb message_records d.count) d.count) (at a u (length gs))) [
          | true ↦ λ e.
              let l = ltb-true message_records (length gs) e in
              subst (λ (v : Bool). Same (at a v d.count) (at a true (length gs))) (sym (lt-ltb message_records d.count (omega (arith, g.counts)))) (refl, refl, refl, omega arith)
          | false ↦ λ e.
              let l = ltb-false message_records (length gs) e in
              let c : d.count ≡ length gs = omega (arith, g.counts) in
              subst (λ (v : Bool). Same (at a v d.count) (at a false (length gs))) (sym (le-ltb message_records d.count (omega (arith, g.counts))))
              (ap (reading.Whole a) c, c, taken c l, omega (arith, l, c))
        ]) refl

    pub takes_told : (answer : Reading) (n : ℕ) → answer ≡ told_of d.answer d.count → n ≡ given_of answer → Takes bytes places (record { count = n; row = d.row; answer = answer })
    unfolding records_of
    takes_told answer n e c =
        let t = told_same d.answer in
        let c' : n ≡ given_of (told_of d.answer d.count) = c ∙ ap given_of e in
        let r : handed (told_of d.answer (length gs)) gs ≡ records_of bytes places = ap (λ (x : Reading). handed x gs) (sym said) in
        record {
          says = e ∙ t.0 ∙ sym said;
          hands = ap (λ (k : ℕ). take k d.row) c' ∙ t.2 ∙ r;
          counts = c' ∙ t.1 ∙ ap (λ (l : List Gossip). length l) r;
          fits = omega (arith, c', t.3, h);
          few = omega (arith, c', t.3);
        }
