-- What a loop over a row keeps from turn to turn: one that tests each place, one that seeks the first that passes a test, and one that copies a row
-- without one of its places. Over any element.
-- Assumes nothing.
use Rattle.std.specs.Prelude.{◌≡◌, refl, Bool, true, false, not, List, [], ◌∷◌, map, ℕ, suc, ◌+◌, ◌≤◌, ◌<◌, length, get_or, set, take, drop}
use Rattle.std.proofs.Common.{ap, sym, ◌∙◌, arith, add-one, drop_of_length-le, drop-cons, take_all, length-take-le}
use Rattle.std.proofs.Math.Seq.{get_or-take}
use Rattle.std.proofs.lemmas.Bool.{not-true, not-false}
use Rattle.model.specs.Rows.{pick, every, remove_at, pad_to}
use Rattle.laws.specs.Bools.{loop_fails, loop_next, loop_ends}
use Rattle.laws.specs.Pad.{length-remove_at, remove_at-before, remove_at-after, pad_step}

-- the places before i have passed: those of the first n that are left decide the answer
pub record Tested {A : Type 0} (f : A → Bool) (row : List A) (n : ℕ) (answer : Bool) (i : ℕ) : Type 0 where
  pub few : i ≤ n
  pub within : length (take n row) ≡ n
  pub rest : every f (drop i (take n row)) ≡ answer

-- of the first n, and of all from i on
pub test_first : {A : Type 0} (f : A → Bool) (row : List A) (n : ℕ) → n ≤ length row → Tested f row n (every f (take n row)) 0
test_first f row n h = record { few = omega arith; within = length-take-le n row h; rest = refl }

pub test_from : {A : Type 0} (f : A → Bool) (row : List A) (n i : ℕ) → length row ≡ n → i ≤ n → Tested f row n (every f (drop i row)) i
test_from f row n i e h =
    record {
      few = h;
      within = length-take-le n row (omega arith);
      rest = ap (λ (l : List _). every f (drop i l)) (take_all n row (omega arith));
    }

module _ {A : Type 0} {f : A → Bool} {row : List A} {n : ℕ} {answer : Bool} {i : ℕ} (d : A) (tested : Tested f row n answer i) where
  -- b is what the test of the place gave
  pub test_fails : (b : Bool) → i < n → b ≡ f (get_or row i d) → not b ≡ true → false ≡ answer
  test_fails b h e q =
      sym (loop_fails f d (take n row) answer i tested.rest (omega (arith, tested.within)) (ap f (get_or-take n row i d h) ∙ sym e ∙ not-true b q))

  pub test_next : (b : Bool) → i < n → b ≡ f (get_or row i d) → not b ≡ false → Tested f row n answer (i + 1)
  test_next b h e q =
      record {
        few = omega arith;
        within = tested.within;
        rest = loop_next f d (take n row) answer i tested.rest (omega (arith, tested.within)) (ap f (get_or-take n row i d h) ∙ sym e ∙ not-false b q);
      }

  pub test_ends : n ≤ i → true ≡ answer
  test_ends h = sym (loop_ends f d (take n row) answer i tested.rest (omega (arith, tested.within)))

-- the place of the first that passes, or the length where none does
unfoldable pub first_place : {A : Type 0} → (A → Bool) → List A → ℕ
first_place f [] = 0
first_place f (x ∷ l) = pick (f x) 0 (suc (first_place f l))

pub place_map : {A B : Type 0} (f : B → Bool) (g : A → B) (l : List A) → first_place f (map g l) ≡ first_place (λ x. f (g x)) l
unfolding first_place
place_map f g [] = refl
place_map f g (x ∷ l) = ap (λ (k : ℕ). pick (f (g x)) 0 (suc k)) (place_map f g l)

-- none of the places before i passes: it is sought among those of the first n that are left
pub record Sought {A : Type 0} (f : A → Bool) (row : List A) (n i : ℕ) : Type 0 where
  pub few : i ≤ n
  pub within : length (take n row) ≡ n
  pub rest : first_place f (take n row) ≡ i + first_place f (drop i (take n row))

pub seek-first : {A : Type 0} (f : A → Bool) (row : List A) (n : ℕ) → n ≤ length row → Sought f row n 0
seek-first f row n h = record { few = omega arith; within = length-take-le n row h; rest = omega arith }

module _ {A : Type 0} {f : A → Bool} {row : List A} {n i : ℕ} (d : A) (sought : Sought f row n i) where
  -- what is left, by what the test of the place gave
  ahead : (b : Bool) → i < n → b ≡ f (get_or row i d) → first_place f (drop i (take n row)) ≡ pick b 0 (suc (first_place f (drop (suc i) (take n row))))
  unfolding first_place
  ahead b h e = rw (drop-cons (take n row) i d (omega (arith, sought.within)), get_or-take n row i d h, e)

  pub seek_found : (b : Bool) → i < n → b ≡ f (get_or row i d) → b ≡ true → i ≡ first_place f (take n row)
  seek_found b h e q = let z : first_place f (drop i (take n row)) ≡ 0 = ahead b h e ∙ rw q in omega (arith, sought.rest)

  pub seek-next : (b : Bool) → i < n → b ≡ f (get_or row i d) → b ≡ false → Sought f row n (i + 1)
  seek-next b h e q =
      let z : first_place f (drop i (take n row)) ≡ suc (first_place f (drop (suc i) (take n row))) = ahead b h e ∙ rw q in
      record { few = omega arith; within = sought.within; rest = rw (add-one i) (omega (arith, sought.rest)) }

  pub seek-ends : n ≤ i → n ≡ first_place f (take n row)
  unfolding first_place
  seek-ends h =
      let z : first_place f (drop i (take n row)) ≡ 0 = rw (drop_of_length-le (take n row) {i = i} (omega (arith, sought.within))) in
      omega (arith, sought.rest, sought.few)

-- the row after i turns: the first i of the first n without place p
pub record Closing {A : Type 0} (places : ℕ) (z : A) (row : List A) (n p i : ℕ) (out : List A) : Type 0 where
  pub few : i + 1 ≤ n
  pub room : n ≤ places
  pub left : suc (length (remove_at (take n row) p)) ≡ n
  pub copied : out ≡ pad_to places z (take i (remove_at (take n row) p))

pub close_starts : {A : Type 0} {places : ℕ} {z : A} {row out : List A} {n p : ℕ} → length row ≡ places → n ≤ places → p < n → out ≡ pad_to places z []
    → Closing places z row n p 0 out
close_starts {row = row} {n = n} {p = p} long room within e =
    let taken = length-take-le n row (omega arith) in
    record { few = omega arith; room = room; left = length-remove_at (take n row) p (omega (arith, taken)) ∙ taken; copied = e }

module _ {A : Type 0} {places : ℕ} {z : A} {row out : List A} {n p i : ℕ} (c : Closing places z row n p i out) where
  turn : (next : List A) (v : A) → i + 1 < n → get_or (remove_at (take n row) p) i z ≡ v → next ≡ set out i v → Closing places z row n p (i + 1) next
  turn next v h g e =
      record {
        few = omega arith;
        room = c.room;
        left = c.left;
        copied = e
            ∙ rw (c.copied, add-one) (pad_step places i z v (remove_at (take n row) p) (omega (arith, c.left, c.room)) (omega (arith, c.left)) g);
      }

  -- before the place that goes, and from it on
  pub close_before : (next : List A) → i + 1 < n → i < p → next ≡ set out i (get_or row i z) → Closing places z row n p (i + 1) next
  close_before next h k = turn next (get_or row i z) h (remove_at-before (take n row) p i z k ∙ get_or-take n row i z (omega arith))

  pub close_after : (next : List A) → i + 1 < n → p ≤ i → next ≡ set out i (get_or row (i + 1) z) → Closing places z row n p (i + 1) next
  close_after next h k =
      turn next (get_or row (i + 1) z) h
      (remove_at-after (take n row) p i z k ∙ get_or-take n row (suc i) z (omega arith) ∙ ap (λ (j : ℕ). get_or row j z) (sym (add-one i)))

  -- all turns are done
  pub close_ends : n ≤ i + 1 → out ≡ pad_to places z (remove_at (take n row) p)
  close_ends h = c.copied ∙ ap (pad_to places z) (take_all i (remove_at (take n row) p) (omega (arith, c.left)))
