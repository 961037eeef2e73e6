-- HOW MANY DRAWS A PICK READS. For any type of address.
-- Assumes nothing.
use Rattle.std.specs.Prelude.{◌≡◌, refl, Bool, eqb, ltb}
use Rattle.std.proofs.Math.Bool.{true, false}
use mathlib.Core.List.{List, [], ◌∷◌, ◌++◌}
use Rattle.std.proofs.Math.Option.{Option}
use Prim.Native.Nat.{ℕ, zero, suc, ◌+◌, ◌-◌, ◌*◌, ◌%◌}
use Rattle.std.proofs.Common.{arith, lt-ltb, le-ltb}
use Rattle.std.proofs.Math.ListN.{length, get_or}
use Rattle.model.specs.declared.Refusal.TheVariants.{DrawsShort}
use Rattle.model.specs.Rows.{pick, swap}
use Rattle.model.specs.Answers.{Answer, done, and_then, when}
use Rattle.model.specs.Members.{Members, Picked, shuffle_from, shuffle, advance, passed, looks, cap, seek, pick_from}
use Rattle.promises.specs.Firsts.{Refuses, halts, goes, fails}
use Rattle.promises.specs.Reads.{reads_after, seek_reads, pick_reads, Reading, short, enough}

reads_more : {B : Type 0} {ds rest : List ℕ} (n : ℕ) {m : ℕ} {a : Answer B} → n + length rest ≡ length ds → Reading rest m a → Reading ds (n + m) a
reads_more n e (short h) = short (omega arith)
reads_more n e (enough {rest = left} h) = enough {rest = left} (omega arith)

reads_none : {B : Type 0} {b : B} {ds : List ℕ} → Reading ds 0 (done b ds)
reads_none {ds = ds} = enough {rest = ds} (omega arith)

module _ {A : Type 0} (same : A → A → Bool) (blank own : A) where
  shuffle_reading : (i : ℕ) (l : List A) (ds : List ℕ) → Reading ds i (shuffle_from blank i l ds)
  shuffle_reading zero l ds = reads_none
  shuffle_reading (suc i) l [] = short (omega arith)
  shuffle_reading (suc i) l (d ∷ ds) = one_more (shuffle_reading i (swap blank l (suc i) (d % suc (suc i))) ds)
    where
      one_more : {a : Answer (List A)} → Reading ds i a → Reading (d ∷ ds) (suc i) a
      one_more (short h) = short (omega arith)
      one_more (enough {rest = rest} h) = enough {rest = rest} (omega arith)

  -- one look, and what is read after it
  look_reading : {C : Type 0} (turns : Bool) (m : Members A) (next : ℕ) (ds : List ℕ) (k : Members A → List ℕ → Answer C) (reads : List A → List ℕ → ℕ)
      → ((o : List A) (rest : List ℕ) → Reading rest (reads o rest) (k (record { table = m.table; order = o; position = next }) rest))
      → Reading ds (elim turns [ true ↦ (length m.order - 1) + reads_after (shuffle blank m.order ds) reads | false ↦ reads m.order ds ])
      (and_then (when turns
      (and_then (shuffle blank m.order ds) λ o rest. done (record { table = m.table; order = o; position = next }) rest)
      (done (record { table = m.table; order = m.order; position = next }) ds)) k)
  unfolding when shuffle
  look_reading true m next ds k reads h = after (shuffle_reading (length m.order - 1) m.order ds)
    where
      after : {x : Answer (List A)} → Reading ds (length m.order - 1) x
          → Reading ds ((length m.order - 1) + reads_after x reads) (and_then (and_then x λ o rest. done (record { table = m.table; order = o; position = next }) rest) k)
      after (short q) = short (omega arith)
      after (enough {b = o} {rest = rest} q) = reads_more (length m.order - 1) q (h o rest)
  look_reading false m next ds k reads h = h m.order ds

  seek_reading : (f : ℕ) (e : Option A) (k : ℕ) (got : List A) (m : Members A) (ds : List ℕ)
      → Reading ds (seek_reads same blank own f e k m.order m.position ds) (seek same blank own f e k got m ds)
  unfolding seek seek_reads advance
  seek_reading zero e zero got m ds = reads_none
  seek_reading zero e (suc k) got m ds = reads_none
  seek_reading (suc f) e zero got m ds = reads_none
  seek_reading (suc f) e (suc k) got m ds =
      let x = get_or m.order m.position blank in
      let next = (m.position + 1) % length m.order in
      look_reading (eqb next 0) m next ds _ (λ o rest. seek_reads same blank own f e (pick (passed same blank own e x) (suc k) k) o next rest)
      (λ o rest.
      let m' : Members A = record { table = m.table; order = o; position = next } in
      elim (passed same blank own e x) as (λ u. Reading {B = Picked A} rest (seek_reads same blank own f e (pick u (suc k) k) o next rest)
      (elim u [ true ↦ seek same blank own f e (suc k) got m' rest | false ↦ seek same blank own f e k (got ++ (x ∷ [])) m' rest ])) [
        | true ↦ seek_reading f e (suc k) got m' rest
        | false ↦ seek_reading f e k (got ++ (x ∷ [])) m' rest
      ])

  pub pick_reading : (e : Option A) (wanted : ℕ) (m : Members A) (ds : List ℕ) → Reading ds (pick_reads same blank own e wanted m ds) (pick_from same blank own e wanted m ds)
  unfolding pick_from pick_reads
  pick_reading e wanted m ds =
      let k = cap same blank own e wanted (length m.order) in
      seek_reading (looks same blank own e * k) e k [] m ds

-- where a pick gives something, these are the draws that it used
pub reading_uses : {B : Type 0} {b : B} {ds rest : List ℕ} {n : ℕ} → Reading ds n (done b rest) → length ds - length rest ≡ n
reading_uses (enough h) = omega arith

-- "a draw is needed past the end of the draws"
pub reading_refuses : {B : Type 0} {ds : List ℕ} {n : ℕ} {a : Answer B} → Reading ds n a → Refuses ((ltb (length ds) n, DrawsShort) ∷ []) a
reading_refuses {ds = ds} {n = n} (short h) = halts (fails (lt-ltb (length ds) n h) refl)
reading_refuses {ds = ds} {n = n} (enough h) = goes (le-ltb (length ds) n (omega arith), tt)
