-- EXACTLY. When reading a datagram gives 3, 11 with its place, 4, or the action, and when writing one gives 4, 5, 12, or the bytes; and what is left of the lent row.
-- Assumes nothing.
use Rattle.std.specs.Prelude.{◌≡◌, ◌↔◌, Bool, true, false, not, ◌&&◌, List, [], ◌∷◌, ◌++◌, map, ℕ, ◌≤◌, ◌<◌, ltb, take}
use Rattle.std.proofs.Math.Path.{refl, ap, sym}
use Rattle.std.proofs.Common.{◌∙◌, arith, lt-ltb, le-ltb, ltb-true, ltb-false}
use Rattle.std.proofs.Math.ListN.{length, drop}
use Rattle.std.proofs.Math.Seq.{take_at, drop_at}
use Rattle.model.specs.declared.Refusal.TheVariants.{ShortRow, ManyRecords, AddressRange, NoRoom}
use Rattle.model.specs.Bounds.{message_records}
use Rattle.model.specs.Rows.{pick, every}
use Rattle.model.specs.Sound.{valid_gossip}
use Rattle.model.specs.Calls.{first_of, valid_action}
use Rattle.address.specs.Here.{here}
use Rattle.types.specs.declared.Action.{Action}
use Rattle.types.specs.declared.Gossip.{Gossip}
use Rattle.types.specs.Views.{to_gossip, to_action}
use Rattle.incoming.specs.declared.Decoded.{Decoded}
use Rattle.incoming.specs.declared.Decoded.TheVariants as decoded
use Rattle.incoming.specs.declared.Reading.{Reading}
use Rattle.incoming.specs.declared.Reading.TheVariants as reading
use Rattle.incoming.specs.Datagram.{decode, told_of, reading_of, handed, records_of}
use Rattle.incoming.specs.Encode.{encode}
use Rattle.outgoing.specs.declared.Writing.{Writing}
use Rattle.outgoing.specs.declared.Writing.TheVariants as writing
use Rattle.outgoing.specs.Outgoing.{writing_of, row_after}
use Rattle.datagram.specs.Promises.{Reads, Writes, reading_number, writing_number}

unlike : {B : Type 0} → true ≡ false → B
unlike e = let z : ◌≡◌ {A = ℕ} 0 1 = cc in absurd (omega arith)

unlike' : {B : Type 0} → false ≡ true → B
unlike' e = unlike (sym e)

-- ---- reading
-- the answer by its tests: too few places, too many records
abbrev told : Bool → Decoded → Bool → ℕ → Reading
told short (decoded.Malformed place) many n = pick short (reading.Refused ShortRow) (reading.Malformed place)
told short (decoded.Whole a) many n = pick short (reading.Refused ShortRow) (pick many (reading.Refused ManyRecords) (reading.Whole a n))

short-told : (short : Bool) (d : Decoded) (many : Bool) (n : ℕ) → (reading_number (told short d many n) ≡ 3) ↔ (short ≡ true)
short-told true (decoded.Malformed p) many n = ((λ e. refl), (λ h. refl))
short-told true (decoded.Whole a) many n = ((λ e. refl), (λ h. refl))
short-told false (decoded.Malformed p) many n = ((λ e. absurd (omega arith)), (λ h. unlike' h))
short-told false (decoded.Whole a) true n = ((λ e. absurd (omega arith)), (λ h. unlike' h))
short-told false (decoded.Whole a) false n = ((λ e. absurd (omega arith)), (λ h. unlike' h))

-- of what a result says, the number alone
number_of : {x y : Reading} → x ≡ y → reading_number x ≡ reading_number y
number_of e = ap reading_number e

malformed_told : (short : Bool) (d : Decoded) (many : Bool) (n p : ℕ) → (told short d many n ≡ reading.Malformed p) ↔ ((short ≡ false) × (d ≡ decoded.Malformed p))
malformed_told true (decoded.Malformed q) many n p = ((λ e. let z = number_of e in absurd (omega arith)), (λ h. unlike h.0))
malformed_told true (decoded.Whole a) many n p = ((λ e. let z = number_of e in absurd (omega arith)), (λ h. unlike h.0))
malformed_told false (decoded.Malformed q) many n p = ((λ e. let z : q ≡ p = cc in (refl, ap decoded.Malformed z)), (λ h. let d = h.1 in let z : q ≡ p = cc in ap reading.Malformed z))
malformed_told false (decoded.Whole a) true n p = ((λ e. let z = number_of e in absurd (omega arith)), (λ h. let d = h.1 in let z : ◌≡◌ {A = ℕ} 0 1 = cc in absurd (omega arith)))
malformed_told false (decoded.Whole a) false n p = ((λ e. let z = number_of e in absurd (omega arith)), (λ h. let d = h.1 in let z : ◌≡◌ {A = ℕ} 0 1 = cc in absurd (omega arith)))

many-told : (short : Bool) (d : Decoded) (many : Bool) (n : ℕ) → (reading_number (told short d many n) ≡ 4) ↔ ((short ≡ false) × ((a : Action) × (d ≡ decoded.Whole a)) × (many ≡ true))
many-told true (decoded.Malformed p) many n = ((λ e. absurd (omega arith)), (λ h. unlike h.0))
many-told true (decoded.Whole a) many n = ((λ e. absurd (omega arith)), (λ h. unlike h.0))
many-told false (decoded.Malformed p) many n = ((λ e. absurd (omega arith)), (λ h. let d = h.1.1 in let z : ◌≡◌ {A = ℕ} 0 1 = cc in absurd (omega arith)))
many-told false (decoded.Whole a) true n = ((λ e. (refl, (a, refl), refl)), (λ h. refl))
many-told false (decoded.Whole a) false n = ((λ e. absurd (omega arith)), (λ h. unlike' h.2))

whole-told : (short : Bool) (d : Decoded) (many : Bool) (n : ℕ) (a : Action) (k : ℕ) → (told short d many n ≡ reading.Whole a k) ↔ ((short ≡ false) × (d ≡ decoded.Whole a) × (many ≡ false) × (k ≡ n))
whole-told true (decoded.Malformed p) many n a k = ((λ e. let z = number_of e in absurd (omega arith)), (λ h. unlike h.0))
whole-told true (decoded.Whole b) many n a k = ((λ e. let z = number_of e in absurd (omega arith)), (λ h. unlike h.0))
whole-told false (decoded.Malformed p) many n a k = ((λ e. let z = number_of e in absurd (omega arith)), (λ h. let d = h.1 in let z : ◌≡◌ {A = ℕ} 0 1 = cc in absurd (omega arith)))
whole-told false (decoded.Whole b) true n a k = ((λ e. let z = number_of e in absurd (omega arith)), (λ h. unlike h.2))
whole-told false (decoded.Whole b) false n a k =
    ((λ e. let x : b ≡ a = cc in let y : n ≡ k = cc in (refl, ap decoded.Whole x, refl, sym y)), (λ h. let d = h.1 in let x : b ≡ a = cc in (λ i. reading.Whole (x i) (sym h.3 i))))

is_told : (bytes : List ℕ) (places : ℕ) → reading_of bytes places ≡ told (ltb places message_records) (decode bytes).answer (ltb message_records (length (decode bytes).gossip)) (length (decode bytes).gossip)
unfolding reading_of told_of
is_told bytes places = by_answer (decode bytes).answer (length (decode bytes).gossip)
  where
    by_answer : (d : Decoded) (n : ℕ) → pick (ltb places message_records) (reading.Refused ShortRow) (told_of d n) ≡ told (ltb places message_records) d (ltb message_records n) n
    by_answer (decoded.Malformed p) n = refl
    by_answer (decoded.Whole a) n = refl

-- tests and orders
less : (a b : ℕ) → (ltb a b ≡ true) ↔ (a < b)
less a b = ((λ e. ltb-true a b e), (λ h. lt-ltb a b h))

not_less : (a b : ℕ) → (ltb a b ≡ false) ↔ (b ≤ a)
not_less a b = ((λ e. ltb-false a b e), (λ h. le-ltb a b h))

module _ (bytes : List ℕ) (lent : List Gossip) (r : Reading) (lent' : List Gossip) (met : Reads bytes lent r lent') where
  abbrev gs : List Gossip
  gs = (decode bytes).gossip

  abbrev tests : Reading
  tests = told (ltb (length lent) message_records) (decode bytes).answer (ltb message_records (length gs)) (length gs)

  answered : r ≡ tests
  answered = met.answer ∙ is_told bytes (length lent)

  -- 3: fewer than 64 gossip places
  pub read_3 : (reading_number r ≡ 3) ↔ (length lent < message_records)
  read_3 =
      let t = short-told (ltb (length lent) message_records) (decode bytes).answer (ltb message_records (length gs)) (length gs) in
      let l = less (length lent) message_records in
      ((λ e. l.0 (t.0 (sym (number_of answered) ∙ e))), (λ h. number_of answered ∙ t.1 (l.1 h)))

  -- 11 with its place: enough places, and the bytes are malformed there
  pub read_11 : (p : ℕ) → (r ≡ reading.Malformed p) ↔ ((message_records ≤ length lent) × ((decode bytes).answer ≡ decoded.Malformed p))
  read_11 p =
      let t = malformed_told (ltb (length lent) message_records) (decode bytes).answer (ltb message_records (length gs)) (length gs) p in
      let l = not_less (length lent) message_records in
      ((λ e. let x = t.0 (sym answered ∙ e) in (l.0 x.0, x.1)), (λ h. answered ∙ t.1 (l.1 h.0, h.1)))

  -- 4: enough places, an action with all that it needs, and more than 64 records
  pub read_4 : (reading_number r ≡ 4) ↔ ((message_records ≤ length lent) × ((a : Action) × ((decode bytes).answer ≡ decoded.Whole a)) × (message_records < length gs))
  read_4 =
      let t = many-told (ltb (length lent) message_records) (decode bytes).answer (ltb message_records (length gs)) (length gs) in
      let l = not_less (length lent) message_records in
      let m = less message_records (length gs) in
      ((λ e. let x = t.0 (sym (number_of answered) ∙ e) in (l.0 x.0, x.1, m.0 x.2)), (λ h. number_of answered ∙ t.1 (l.1 h.0, h.1, m.1 h.2)))

  -- else the action, and how many records it has
  pub read_whole : (a : Action) (n : ℕ) → (r ≡ reading.Whole a n) ↔ ((message_records ≤ length lent) × ((decode bytes).answer ≡ decoded.Whole a) × (length gs ≤ message_records) × (n ≡ length gs))
  read_whole a n =
      let t = whole-told (ltb (length lent) message_records) (decode bytes).answer (ltb message_records (length gs)) (length gs) a n in
      let l = not_less (length lent) message_records in
      let m = not_less message_records (length gs) in
      ((λ e. let x = t.0 (sym answered ∙ e) in (l.0 x.0, x.1, m.0 x.2, x.3)), (λ h. answered ∙ t.1 (l.1 h.0, h.1, m.1 h.2, h.3)))

  -- refused, no place of the row is touched
  pub read_refused : (reading_number r ≡ 0 → ⊥) → lent' ≡ lent
  unfolding records_of handed
  read_refused h = met.row ∙ by_answer (reading_of bytes (length lent)) (λ e. h (number_of met.answer ∙ e))
    where
      by_answer : (x : Reading) → (reading_number x ≡ 0 → ⊥) → handed x gs ++ drop (length (handed x gs)) lent ≡ lent
      by_answer (reading.Whole a n) k = absurd (k refl)
      by_answer (reading.Malformed p) k = refl
      by_answer (reading.Refused y) k = refl

  -- read, its records stand at the front, and the places past the last stay as lent
  pub read_row : (a : Action) (n : ℕ) → r ≡ reading.Whole a n → lent' ≡ gs ++ drop (length gs) lent
  unfolding records_of handed
  read_row a n e = met.row ∙ ap (λ (x : Reading). handed x gs ++ drop (length (handed x gs)) lent) (sym met.answer ∙ e)

-- ---- writing
module _ (a : Action) (gs : List Gossip) (out : List ℕ) (r : Writing) (out' : List ℕ) (met : Writes a gs out r out') where
  -- every address of the action and of its records is in range; a record of no event has none
  abbrev in_range : Bool
  in_range = valid_action here (to_action a) && every (valid_gossip here) (map to_gossip gs)

  abbrev at : Bool → Bool → Bool → Writing
  at many ranged short = first_of ((many, ManyRecords) ∷ (not ranged, AddressRange) ∷ (short, NoRoom) ∷ []) writing.Refused (writing.Whole (length (encode a gs)))

  abbrev is_number : {x y : Writing} → x ≡ y → writing_number x ≡ writing_number y
  is_number e = ap writing_number e

  many-at : (many ranged short : Bool) → (writing_number (at many ranged short) ≡ 4) ↔ (many ≡ true)
  many-at true ranged short = ((λ e. refl), (λ h. refl))
  many-at false false short = ((λ e. absurd (omega arith)), (λ h. unlike' h))
  many-at false true true = ((λ e. absurd (omega arith)), (λ h. unlike' h))
  many-at false true false = ((λ e. absurd (omega arith)), (λ h. unlike' h))

  range_at : (many ranged short : Bool) → (writing_number (at many ranged short) ≡ 5) ↔ ((many ≡ false) × (ranged ≡ false))
  range_at true ranged short = ((λ e. absurd (omega arith)), (λ h. unlike h.0))
  range_at false false short = ((λ e. (refl, refl)), (λ h. refl))
  range_at false true true = ((λ e. absurd (omega arith)), (λ h. unlike h.1))
  range_at false true false = ((λ e. absurd (omega arith)), (λ h. unlike h.1))

  room_at : (many ranged short : Bool) → (writing_number (at many ranged short) ≡ 12) ↔ ((many ≡ false) × (ranged ≡ true) × (short ≡ true))
  room_at true ranged short = ((λ e. absurd (omega arith)), (λ h. unlike h.0))
  room_at false false short = ((λ e. absurd (omega arith)), (λ h. unlike' h.1))
  room_at false true true = ((λ e. (refl, refl, refl)), (λ h. refl))
  room_at false true false = ((λ e. absurd (omega arith)), (λ h. unlike' h.2))

  whole-at : (many ranged short : Bool) (n : ℕ) → (at many ranged short ≡ writing.Whole n) ↔ ((many ≡ false) × (ranged ≡ true) × (short ≡ false) × (n ≡ length (encode a gs)))
  whole-at true ranged short n = ((λ e. let z = is_number e in absurd (omega arith)), (λ h. unlike h.0))
  whole-at false false short n = ((λ e. let z = is_number e in absurd (omega arith)), (λ h. unlike' h.1))
  whole-at false true true n = ((λ e. let z = is_number e in absurd (omega arith)), (λ h. unlike h.2))
  whole-at false true false n = ((λ e. let y : length (encode a gs) ≡ n = cc in (refl, refl, refl, sym y)), (λ h. ap writing.Whole (sym h.3)))

  abbrev many : Bool
  many = ltb message_records (length gs)

  abbrev short : Bool
  short = ltb (length out) (length (encode a gs))

  wrote : r ≡ at many in_range short
  unfolding writing_of
  wrote = met.answer

  -- 4: more than 64 records
  pub write_4 : (writing_number r ≡ 4) ↔ (message_records < length gs)
  write_4 =
      let t = many-at many in_range short in
      let m = less message_records (length gs) in
      ((λ e. m.0 (t.0 (sym (is_number wrote) ∙ e))), (λ h. is_number wrote ∙ t.1 (m.1 h)))

  -- 5: at most 64 records, and an address of the action or of a record is out of range
  pub write_5 : (writing_number r ≡ 5) ↔ ((length gs ≤ message_records) × (in_range ≡ false))
  write_5 =
      let t = range_at many in_range short in
      let m = not_less message_records (length gs) in
      ((λ e. let x = t.0 (sym (is_number wrote) ∙ e) in (m.0 x.0, x.1)), (λ h. is_number wrote ∙ t.1 (m.1 h.0, h.1)))

  -- 12: neither, and the encoding is longer than the row
  pub write_12 : (writing_number r ≡ 12) ↔ ((length gs ≤ message_records) × (in_range ≡ true) × (length out < length (encode a gs)))
  write_12 =
      let t = room_at many in_range short in
      let m = not_less message_records (length gs) in
      let s = less (length out) (length (encode a gs)) in
      ((λ e. let x = t.0 (sym (is_number wrote) ∙ e) in (m.0 x.0, x.1, s.0 x.2)), (λ h. is_number wrote ∙ t.1 (m.1 h.0, h.1, s.1 h.2)))

  -- else how many bytes were written
  pub write_whole : (n : ℕ) → (r ≡ writing.Whole n) ↔ ((length gs ≤ message_records) × (in_range ≡ true) × (length (encode a gs) ≤ length out) × (n ≡ length (encode a gs)))
  write_whole n =
      let t = whole-at many in_range short n in
      let m = not_less message_records (length gs) in
      let s = not_less (length out) (length (encode a gs)) in
      ((λ e. let x = t.0 (sym wrote ∙ e) in (m.0 x.0, x.1, s.0 x.2, x.3)), (λ h. wrote ∙ t.1 (m.1 h.0, h.1, s.1 h.2, h.3)))

  -- refused, no place of the row is touched
  pub write_refused : (writing_number r ≡ 0 → ⊥) → out' ≡ out
  unfolding row_after
  write_refused h = met.row ∙ by_answer (writing_of a gs out) (λ e. h (is_number met.answer ∙ e))
    where
      by_answer : (x : Writing) → (writing_number x ≡ 0 → ⊥) → row_after x (encode a gs) out ≡ out
      by_answer (writing.Whole n) k = absurd (k refl)
      by_answer (writing.Refused y) k = refl

  -- THE WRITER'S BYTES ARE `encode`: they stand at the front, and the places past the last stay as lent
  pub write_bytes : (n : ℕ) → r ≡ writing.Whole n → (take n out' ≡ encode a gs) × (drop n out' ≡ drop n out)
  unfolding row_after
  write_bytes n e =
      let q : out' ≡ encode a gs ++ drop n out = met.row ∙ ap (λ (x : Writing). row_after x (encode a gs) out) (sym met.answer ∙ e) in
      let l : length (encode a gs) ≡ n = sym ((write_whole n).0 e).3 in
      (ap (take n) q ∙ take_at (encode a gs) (drop n out) n l, ap (drop n) q ∙ drop_at (encode a gs) (drop n out) n l)
