-- A datagram laid down piece by piece: how long each is, its room, and what stands there then.
-- Assumes nothing.
use Rattle.std.specs.Prelude.{◌≡◌, Bool, ℕ, suc, ◌+◌, ◌*◌, ◌^◌, ◌≤◌, ◌<◌, take, get_or, ltb}
use Rattle.std.proofs.Math.Path.{refl, ap, sym}
use Rattle.std.proofs.Common.{◌∙◌, subst, arith, add-one, length-append, take-suc, take-take, get_or-take, length-take-le, lit≤}
use Rattle.std.proofs.Math.Bool.{true, false}
use mathlib.Core.List.{List, [], ◌∷◌, ◌++◌, append_assoc, append-nil}
use Rattle.std.proofs.Math.ListN.{length, drop}
use Rattle.std.proofs.Math.Seq.{split_at, sets, length-sets}
use borrow.Author.Tests.{lt-ltb, le-ltb, ltb-false}
use Rattle.model.specs.Size.{varint_length}
use Rattle.types.specs.declared.Action.{Action}
use Rattle.types.specs.declared.Action.TheVariants.{Ping, PingReq, Ack}
use Rattle.types.specs.declared.Gossip.{Gossip}
use Rattle.types.specs.declared.Optional.{Optional}
use Rattle.types.specs.declared.Optional.TheVariants as optional
use Rattle.types.specs.Views.{no_gossip}
use Rattle.address.specs.Here.{Addr, here, here_text as text, here_text-long}
use Rattle.types.specs.Wire.{varint, varint-one, varint-length, tag, delimited, string}
use Rattle.varint.specs.Laid.{Laid, Room, laid_none, laid_then, laid_as, laid-first, room-first, room_then}
use Rattle.iptext.specs.Texts.{text-long}
use Rattle.events.specs.Back.{string-some}
use Rattle.gossips.specs.Gossip.{gossip_bytes_of}
use Rattle.incoming.specs.Encode.{other_bytes, gossip_fields, fields_of, encode}
use Rattle.incoming.specs.Back.{short}
use Rattle.outgoing.specs.declared.Opened.{Opened}
use Rattle.model.specs.declared.Refusal.{Refusal}
use Rattle.model.specs.declared.Refusal.TheVariants.{NoRoom}
use Rattle.model.specs.Calls.{first_of}
use Rattle.outgoing.specs.declared.Writing.{Writing}
use Rattle.outgoing.specs.declared.Writing.TheVariants.{Whole, Refused}
use Rattle.outgoing.specs.Outgoing.{open_of, addresses_of, head_of, headed_of, written_of, row_after}

-- texts
pub text-counts : (n : ℕ) (a : Addr) (r : ℕ) → n ≤ 15 → r ≡ here.chars a → r < 128 → 2 + r ≡ length (string n (text a))
text-counts n a r h e l =
    let t : length (text a) ≡ r = here_text-long a ∙ sym e in
    let k : length (text a) < 128 = omega arith in
    omega (arith, ap (λ (x : List ℕ). length x) (string-some n (text a) (text-long a)), short n (text a) h k)

pub other_none : (o : Optional) → o ≡ optional.Absent → 0 ≡ length (other_bytes o)
unfolding other_bytes
other_none o e = sym (ap (λ (x : Optional). length (other_bytes x)) e)

pub other_some : (o : Optional) (b : Addr) (r : ℕ) → o ≡ optional.Given b → r ≡ here.chars b → r < 128 → 2 + r ≡ length (other_bytes o)
unfolding other_bytes
other_some o b r e q l = text-counts 2 b r (lit≤ tt) q l ∙ sym (ap (λ (x : Optional). length (other_bytes x)) e)

pub other_skipped : (row : List ℕ) (at : ℕ) (o : Optional) → o ≡ optional.Absent → Laid row at (other_bytes o) row at
unfolding other_bytes
other_skipped row at o e = laid_as [] (other_bytes o) (sym (ap other_bytes e)) (laid_none row at)

pub other_room : {row : List ℕ} {at : ℕ} (o : Optional) (b : Addr) → o ≡ optional.Given b → Room row at (other_bytes o) → Room row at (string 2 (text b))
unfolding other_bytes
other_room {row} {at} o b e h = subst (λ (x : Optional). Room row at (other_bytes x)) e h

pub other_laid : {row row' : List ℕ} {at next : ℕ} (o : Optional) (b : Addr) → o ≡ optional.Given b → Laid row at (string 2 (text b)) row' next → Laid row at (other_bytes o) row' next
unfolding other_bytes
other_laid o b e f = laid_as (string 2 (text b)) (other_bytes o) (sym (ap other_bytes e)) f

-- gossip records
gossips_append : (a b : List Gossip) → gossip_fields (a ++ b) ≡ gossip_fields a ++ gossip_fields b
unfolding gossip_fields
gossips_append [] b = refl
gossips_append (g ∷ a) b =
    ap (λ (l : List ℕ). delimited 3 (gossip_bytes_of g) ++ l) (gossips_append a b)
    ∙ sym (append_assoc (delimited 3 (gossip_bytes_of g)) (gossip_fields a) (gossip_fields b))

one-gossip : (g : Gossip) → gossip_fields (g ∷ []) ≡ delimited 3 (gossip_bytes_of g)
unfolding gossip_fields
one-gossip g = append-nil (delimited 3 (gossip_bytes_of g))

first-of : {out : List ℕ} {at : ℕ} (g : Gossip) (rest : List Gossip) → Room out at (gossip_fields (g ∷ rest)) → Room out at (delimited 3 (gossip_bytes_of g))
unfolding gossip_fields
first-of g rest r = room-first (delimited 3 (gossip_bytes_of g)) (gossip_fields rest) r

module _ (row : List Gossip) (i : ℕ) (h : i < length row) where
  more-gossip : gossip_fields (take (i + 1) row) ≡ gossip_fields (take i row) ++ delimited 3 (gossip_bytes_of (get_or row i no_gossip))
  more-gossip =
      ap (λ (n : ℕ). gossip_fields (take n row)) (add-one i)
      ∙ ap gossip_fields (take-suc row i no_gossip h)
      ∙ gossips_append (take i row) (get_or row i no_gossip ∷ [])
      ∙ ap (λ (l : List ℕ). gossip_fields (take i row) ++ l) (one-gossip (get_or row i no_gossip))

  pub gossips_count : (sum r : ℕ) → sum ≡ length (gossip_fields (take i row)) → r ≡ length (gossip_bytes_of (get_or row i no_gossip)) → r < 128
      → sum + (2 + r) ≡ length (gossip_fields (take (i + 1) row))
  gossips_count sum r e q l =
      let b : List ℕ = gossip_bytes_of (get_or row i no_gossip) in
      let k : length (gossip_bytes_of (get_or row i no_gossip)) < 128 = omega arith in
      omega (
        arith,
        ap (λ (x : List ℕ). length x) more-gossip,
        length-append (gossip_fields (take i row)) (delimited 3 (gossip_bytes_of (get_or row i no_gossip))),
        short 3 (gossip_bytes_of (get_or row i no_gossip)) (lit≤ tt) k,
      )

  pub gossips_laid : {out out' out'' : List ℕ} {at next last : ℕ} → Laid out at (gossip_fields (take i row)) out' next
      → Laid out' next (delimited 3 (gossip_bytes_of (get_or row i no_gossip))) out'' last → Laid out at (gossip_fields (take (i + 1) row)) out'' last
  gossips_laid f g =
      laid_as (gossip_fields (take i row) ++ delimited 3 (gossip_bytes_of (get_or row i no_gossip))) (gossip_fields (take (i + 1) row)) (sym more-gossip) (laid_then f g)

  pub gossips_room : (n : ℕ) {out out' : List ℕ} {at next : ℕ} → i < n → n ≤ length row → Room out at (gossip_fields (take n row))
      → Laid out at (gossip_fields (take i row)) out' next → Room out' next (delimited 3 (gossip_bytes_of (get_or row i no_gossip)))
  gossips_room n {out} {out'} {at} {next} l m r f =
      let g : Gossip = get_or row i no_gossip in
      let rest : List Gossip = drop (suc i) (take n row) in
      let k : i < length (take n row) = omega (arith, length-take-le n row m) in
      let i≤n : i ≤ n = omega arith in
      let e : take n row ≡ take i row ++ (get_or row i no_gossip ∷ rest) =
      split_at (take n row) i no_gossip k
      ∙ ap (λ (x : List Gossip). x ++ (get_or (take n row) i no_gossip ∷ rest)) (take-take i n row i≤n)
      ∙ ap (λ (x : Gossip). take i row ++ (x ∷ rest)) (get_or-take n row i no_gossip l) in
      let b : gossip_fields (take n row) ≡ gossip_fields (take i row) ++ gossip_fields (g ∷ rest) = ap gossip_fields e ∙ gossips_append (take i row) (g ∷ rest) in
      first-of g rest (room_then (gossip_fields (take i row)) (gossip_fields (g ∷ rest)) f (subst (Room out at) b r))

-- one gossip with its key and count
module _ {out : List ℕ} {at : ℕ} (g : Gossip) (r : ℕ) (e : r ≡ length (gossip_bytes_of g)) (h : Room out at (delimited 3 (gossip_bytes_of g))) where
  whole : Room out at (tag 3 2 ++ (varint r ++ gossip_bytes_of g))
  whole = subst (λ (n : ℕ). Room out at (tag 3 2 ++ (varint n ++ gossip_bytes_of g))) (sym e) h

  pub key_room : Room out at (tag 3 2)
  key_room = room-first (tag 3 2) (varint r ++ gossip_bytes_of g) whole

  module _ {out₁ : List ℕ} {n₁ : ℕ} (f₁ : Laid out at (tag 3 2) out₁ n₁) where
    behind : Room out₁ n₁ (varint r ++ gossip_bytes_of g)
    behind = room_then (tag 3 2) (varint r ++ gossip_bytes_of g) f₁ whole

    pub count_room : Room out₁ n₁ (varint r)
    count_room = room-first (varint r) (gossip_bytes_of g) behind

    module _ {out₂ : List ℕ} {n₂ : ℕ} (f₂ : Laid out₁ n₁ (varint r) out₂ n₂) where
      pub bytes-room : Room out₂ n₂ (gossip_bytes_of g)
      bytes-room = room_then (varint r) (gossip_bytes_of g) f₂ behind

      pub gossip-laid : {out₃ : List ℕ} {n₃ : ℕ} → Laid out₂ n₂ (gossip_bytes_of g) out₃ n₃ → Laid out at (delimited 3 (gossip_bytes_of g)) out₃ n₃
      gossip-laid f₃ =
          laid_as (tag 3 2 ++ (varint r ++ gossip_bytes_of g)) (delimited 3 (gossip_bytes_of g))
          (ap (λ (n : ℕ). tag 3 2 ++ (varint n ++ gossip_bytes_of g)) e) (laid_then f₁ (laid_then f₂ f₃))

-- the two addresses of an action
module _ {out : List ℕ} {at : ℕ} (from : Addr) (o : Optional) (h : Room out at (addresses_of from o)) where
  pub from-room : Room out at (string 1 (text from))
  unfolding addresses_of
  from-room = room-first (string 1 (text from)) (other_bytes o) h

  module _ {out₁ : List ℕ} {n₁ : ℕ} (f₁ : Laid out at (string 1 (text from)) out₁ n₁) where
    pub second-room : Room out₁ n₁ (other_bytes o)
    unfolding addresses_of
    second-room = room_then (string 1 (text from)) (other_bytes o) f₁ h

    pub addresses-laid : {out₂ : List ℕ} {n₂ : ℕ} → Laid out₁ n₁ (other_bytes o) out₂ n₂ → Laid out at (addresses_of from o) out₂ n₂
    unfolding addresses_of
    addresses-laid f₂ = laid_then f₁ f₂

pub addresses-count : (from : Addr) (o : Optional) (x y rest : ℕ) → x ≡ here.chars from → x < 128 → y ≡ length (other_bytes o)
    → 2 + x + y + rest ≡ length (addresses_of from o) + rest
unfolding addresses_of
addresses-count from o x y rest a l b = omega (arith, text-counts 1 from x (lit≤ tt) a l, length-append (string 1 (text from)) (other_bytes o))

-- what stands before the records
open_kind : (a : Action) → (open_of a).kind ≤ 3
unfolding open_of
open_kind (Ping f o) = lit≤ tt
open_kind (PingReq f s) = lit≤ tt
open_kind (Ack f o) = lit≤ tt

module _ (a : Action) (rest : ℕ) (p : Opened) (e : p ≡ open_of a) where
  abbrev both : List ℕ
  both = addresses_of p.from p.other

  heads : head_of a rest ≡ tag p.kind 2 ++ (varint (length both + rest) ++ both)
  unfolding head_of
  heads =
      ap (λ (q : Opened). tag q.kind 2 ++ (varint (length (addresses_of q.from q.other) + rest) ++ addresses_of q.from q.other))
      (sym e)

  pub kind-small : p.kind ≤ 3
  kind-small = subst (λ (q : Opened). q.kind ≤ 3) (sym e) (open_kind a)

  module _ (n v : ℕ) (c : n ≡ length both + rest) (l : n < 2 ^ 64) (w : v ≡ varint_length n) where
    total : 1 + v + n ≡ length (head_of a rest) + rest
    total =
        let key : p.kind * 8 + 2 < 128 = omega (arith, kind-small) in
        let k : length (varint (length both + rest)) ≡ v = ap (λ (x : ℕ). length (varint x)) (sym c) ∙ varint-length n l ∙ sym w in
        omega (
          arith,
          ap (λ (x : List ℕ). length x) heads,
          length-append (tag p.kind 2) (varint (length both + rest) ++ both),
          length-append (varint (length both + rest)) both,
          varint-one (p.kind * 8 + 2) key,
        )

    abbrev by : Bool → Writing
    by u = elim u [ true ↦ Refused NoRoom | false ↦ Whole (length (head_of a rest)) ]

    -- the answer is known, and so is the row
    answered : (row : List ℕ) (r : Writing) (row' : List ℕ) → r ≡ headed_of (head_of a rest) rest row → row' ≡ row_after r (head_of a rest) row
        → (r ≡ headed_of (head_of a rest) rest row) × (row' ≡ row_after (headed_of (head_of a rest) rest row) (head_of a rest) row)
    answered row r row' q k = (q, k ∙ ap (λ (x : Writing). row_after x (head_of a rest) row) q)

    pub too_long : (row : List ℕ) → length row < 1 + v + n
        → (Refused NoRoom ≡ headed_of (head_of a rest) rest row) × (row ≡ row_after (headed_of (head_of a rest) rest row) (head_of a rest) row)
    unfolding headed_of row_after
    too_long row h = answered row (Refused NoRoom) row (ap by (sym (lt-ltb (length row) (length (head_of a rest) + rest) (omega (arith, total))))) refl

    module _ (row : List ℕ) (h : 1 + v + n ≤ length row) where
      all : Room row 0 (tag p.kind 2 ++ (varint n ++ both))
      all =
          subst (λ (x : ℕ). Room row 0 (tag p.kind 2 ++ (varint x ++ both))) (sym c)
          (subst (Room row 0) heads (record { fits = omega (arith, total) }))

      pub room_key : Room row 0 (tag p.kind 2)
      room_key = room-first (tag p.kind 2) (varint n ++ both) all

      module _ {row₁ : List ℕ} {n₁ : ℕ} (f₁ : Laid row 0 (tag p.kind 2) row₁ n₁) where
        behind_key : Room row₁ n₁ (varint n ++ both)
        behind_key = room_then (tag p.kind 2) (varint n ++ both) f₁ all

        pub room-count : Room row₁ n₁ (varint n)
        room-count = room-first (varint n) both behind_key

        module _ {row₂ : List ℕ} {n₂ : ℕ} (f₂ : Laid row₁ n₁ (varint n) row₂ n₂) where
          pub room-addresses : Room row₂ n₂ both
          room-addresses = room_then (varint n) both f₂ behind_key

          pub headed : {row₃ : List ℕ} {n₃ : ℕ} → Laid row₂ n₂ both row₃ n₃
              → (Whole n₃ ≡ headed_of (head_of a rest) rest row) × (row₃ ≡ row_after (headed_of (head_of a rest) rest row) (head_of a rest) row)
          unfolding headed_of row_after
          headed {row₃} {n₃} f₃ =
              let k : length (head_of a rest) + rest ≤ length row = omega (arith, total) in
              let b : Laid row 0 (head_of a rest) row₃ n₃ =
              laid_as (tag p.kind 2 ++ (varint n ++ both)) (head_of a rest)
              (ap (λ (x : ℕ). tag p.kind 2 ++ (varint x ++ both)) c ∙ sym heads) (laid_then f₁ (laid_then f₂ f₃)) in
              let z : n₃ ≡ length (head_of a rest) = omega (arith, b.ends) in
              answered row (Whole n₃) row₃ (ap Whole z ∙ ap by (sym (le-ltb (length row) (length (head_of a rest) + rest) k)))
              (laid-first (omega (arith, k)) b ∙ ap (λ (x : ℕ). head_of a rest ++ drop x row) (sym z))

-- a refusal, and the place behind what was written
NothingWritten : Writing → Type 0
NothingWritten (Whole n) = ⊥
NothingWritten (Refused x) = Unit {0}

place_of : Writing → ℕ
place_of (Whole n) = n
place_of (Refused x) = 0

-- the whole
open_encode : (a : Action) (gs : List Gossip) → encode a gs ≡ delimited (open_of a).kind (fields_of (open_of a).from (open_of a).other gs)
unfolding encode open_of
open_encode (Ping f o) gs = refl
open_encode (PingReq f s) gs = refl
open_encode (Ack f o) gs = refl

module _ (a : Action) (gs : List Gossip) where
  abbrev rest : ℕ
  rest = length (gossip_fields gs)

  abbrev addresses : List ℕ
  addresses = addresses_of (open_of a).from (open_of a).other

  fields_split : fields_of (open_of a).from (open_of a).other gs ≡ addresses ++ gossip_fields gs
  unfolding fields_of addresses_of
  fields_split = sym (append_assoc (string 1 (text (open_of a).from)) (other_bytes (open_of a).other) (gossip_fields gs))

  -- a datagram is its head and its records
  pub head_then : encode a gs ≡ head_of a rest ++ gossip_fields gs
  unfolding head_of
  head_then =
      open_encode a gs
      ∙ ap (λ (l : List ℕ). delimited (open_of a).kind l) fields_split
      ∙ ap (λ (x : ℕ). tag (open_of a).kind 2 ++ (varint x ++ (addresses ++ gossip_fields gs))) (length-append addresses (gossip_fields gs))
      ∙ ap (λ (l : List ℕ). tag (open_of a).kind 2 ++ l) (sym (append_assoc (varint (length addresses + rest)) addresses (gossip_fields gs)))
      ∙ sym (append_assoc (tag (open_of a).kind 2) (varint (length addresses + rest) ++ addresses) (gossip_fields gs))

  long : length (encode a gs) ≡ length (head_of a rest) + rest
  long = ap (λ (l : List ℕ). length l) head_then ∙ length-append (head_of a rest) (gossip_fields gs)

  -- where no head is written nothing is; behind a head there is room for the records, and with them the datagram stands
  module _ (row : List ℕ) where
    abbrev cut : Bool
    cut = ltb (length row) (length (head_of a rest) + rest)

    abbrev by_head : Bool → Writing
    by_head u = elim u [ true ↦ Refused NoRoom | false ↦ Whole (length (head_of a rest)) ]

    abbrev by_all : Bool → Writing
    by_all u = elim u [ true ↦ Refused NoRoom | false ↦ Whole (length (encode a gs)) ]

    head-by : (u : Bool) → cut ≡ u → headed_of (head_of a rest) rest row ≡ by_head u
    unfolding headed_of
    head-by u t = ap by_head t

    all_by : (u : Bool) → cut ≡ u → written_of (encode a gs) row ≡ by_all u
    unfolding written_of
    all_by u t = ap (λ (n : ℕ). by_all (ltb (length row) n)) long ∙ ap by_all t

    module _ (m : ℕ) (g : m ≡ rest) (r : Writing) (row' : List ℕ)
        (w : (r ≡ headed_of (head_of a m) m row) × (row' ≡ row_after (headed_of (head_of a m) m row) (head_of a m) row)) where
      head_answers : r ≡ headed_of (head_of a rest) rest row
      head_answers = w.0 ∙ ap (λ (x : ℕ). headed_of (head_of a x) x row) g

      head-stands : row' ≡ row_after (headed_of (head_of a rest) rest row) (head_of a rest) row
      head-stands = w.1 ∙ ap (λ (x : ℕ). row_after (headed_of (head_of a x) x row) (head_of a x) row) g

      pub head-refused : (x : Refusal) → r ≡ Refused x
          → (Refused x ≡ written_of (encode a gs) row) × (row' ≡ row_after (written_of (encode a gs) row) (encode a gs) row)
      unfolding row_after NothingWritten
      head-refused x e =
          (elim cut as (λ u. cut ≡ u → (Refused x ≡ written_of (encode a gs) row) × (row' ≡ row_after (written_of (encode a gs) row) (encode a gs) row)) [
            | true ↦ λ t. (
              sym e ∙ head_answers ∙ head-by true t ∙ sym (all_by true t),
              head-stands
                  ∙ ap (λ (w : Writing). row_after w (head_of a rest) row) (head-by true t)
                  ∙ sym (ap (λ (w : Writing). row_after w (encode a gs) row) (all_by true t)),
            )
            | false ↦ λ t. absurd (subst NothingWritten (sym e ∙ head_answers ∙ head-by false t) tt)
          ]) refl

      module _ (at : ℕ) (e : r ≡ Whole at) where
        fits : length (head_of a rest) + rest ≤ length row
        unfolding NothingWritten
        fits =
            (elim cut as (λ u. cut ≡ u → length (head_of a rest) + rest ≤ length row) [
              | true ↦ λ t. absurd (subst NothingWritten (sym (sym e ∙ head_answers ∙ head-by true t)) tt)
              | false ↦ λ t. ltb-false (length row) (length (head_of a rest) + rest) t
            ]) refl

        cut_not : cut ≡ false
        cut_not = le-ltb (length row) (length (head_of a rest) + rest) fits

        ends : at ≡ length (head_of a rest)
        unfolding place_of
        ends = ap place_of (sym e ∙ head_answers ∙ head-by false cut_not)

        pub head-laid : Laid row 0 (head_of a rest) row' at
        unfolding row_after
        head-laid =
            let y : row' ≡ head_of a rest ++ drop (length (head_of a rest)) row =
            head-stands ∙ ap (λ (w : Writing). row_after w (head_of a rest) row) (head-by false cut_not) in
            let z : sets row 0 (head_of a rest) ≡ head_of a rest ++ drop (length (head_of a rest)) row =
            laid-first {row = row} {bytes = head_of a rest} {next = 0 + length (head_of a rest)} (omega (arith, fits)) (record { ends = refl; long = length-sets row 0 (head_of a rest); says = refl }) in
            record { ends = omega (arith, ends); long = ap (λ (l : List ℕ). length l) (y ∙ sym z) ∙ length-sets row 0 (head_of a rest); says = y ∙ sym z }

        pub rest-room : Room row' at (gossip_fields gs)
        rest-room = record { fits = omega (arith, fits, ends, head-laid.long) }

        pub all_written : {row'' : List ℕ} {end : ℕ} → Laid row' at (gossip_fields gs) row'' end
            → (Whole end ≡ written_of (encode a gs) row) × (row'' ≡ row_after (written_of (encode a gs) row) (encode a gs) row)
        unfolding row_after
        all_written {row''} {end} f =
            let b : Laid row 0 (encode a gs) row'' end = laid_as (head_of a rest ++ gossip_fields gs) (encode a gs) (sym head_then) (laid_then head-laid f) in
            let z : end ≡ length (encode a gs) = omega (arith, b.ends) in (
              ap Whole z ∙ sym (all_by false cut_not),
              laid-first (omega (arith, fits, long)) b ∙ sym (ap (λ (w : Writing). row_after w (encode a gs) row) (all_by false cut_not)),
            )

-- without records the head is the whole
pub head-alone : (a : Action) (row : List ℕ) (r : Writing) (row' : List ℕ) → (r ≡ headed_of (head_of a 0) 0 row) × (row' ≡ row_after (headed_of (head_of a 0) 0 row) (head_of a 0) row)
    → (r ≡ written_of (encode a []) row) × (row' ≡ row_after (written_of (encode a []) row) (encode a []) row)
unfolding headed_of written_of gossip_fields
head-alone a row r row' w =
    let e : encode a [] ≡ head_of a 0 = head_then a [] ∙ append-nil (head_of a 0) in
    let z : length (head_of a 0) + 0 ≡ length (head_of a 0) = omega arith in
    let q : headed_of (head_of a 0) 0 row ≡ written_of (encode a []) row =
    ap (λ (n : ℕ). first_of ((ltb (length row) n, NoRoom) ∷ []) Refused (Whole (length (head_of a 0)))) z
    ∙ ap (λ (l : List ℕ). written_of l row) (sym e) in
    (w.0 ∙ q, w.1 ∙ (λ i. row_after (q i) (sym e i) row))

-- no gossip, and all of it
pub no_count : 0 ≡ length (gossip_fields [])
unfolding gossip_fields
no_count = refl

pub no_laid : (row : List ℕ) (at : ℕ) → Laid row at (gossip_fields []) row at
unfolding gossip_fields
no_laid row at = laid_none row at
