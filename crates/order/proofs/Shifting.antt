-- A row that makes place for one more from its end down: the places behind i stand as in the new row, the others as they came. Over any element.
-- Assumes nothing.
use mathlib.Core.Path.{◌≡◌, refl, ap, sym, ◌∙◌}
use mathlib.Core.List.{List, [], ◌∷◌, ◌++◌, append_assoc}
use Prim.Native.Nat.{ℕ, zero, suc, ◌+◌, ◌-◌, ◌≤◌, ◌<◌}
use native.Mathlib.Omega.{arith}
use native.Mathlib.Nat.{not-suc-le-zero, le_of_suc-le-suc}
use lib.ListN.{length, get_or, set, take, drop, replicate, length-append, length-replicate, get_or-replicate, take-append-drop, drop_of_length-le, get_or-append}
use lib.Seq.{length-take-le, take-suc, drop-cons, set_at, take_all, take-append-le, take-take, get_or-take, get_or-append-add}
use Rattle.model.specs.Rows.{insert_at, pad_to}
use Rattle.laws.specs.Pad.{length-insert_at, length-pad_to, insert_at-at, insert_at-after}

module _ {A : Type 0} where
  -- one place more stands as in the new row
  set_back : (old new : List A) (i : ℕ) (v d : A) → i < length old → length old ≡ length new → get_or new i d ≡ v
      → set (take (suc i) old ++ drop (suc i) new) i v ≡ take i old ++ drop i new
  set_back old new i v d h e g =
      ap (λ (l : List A). set (l ++ drop (suc i) new) i v) (take-suc old i d h)
      ∙ ap (λ (l : List A). set l i v) (append_assoc (take i old) (get_or old i d ∷ []) (drop (suc i) new))
      ∙ set_at (take i old) (get_or old i d) (drop (suc i) new) v i (length-take-le i old (omega arith))
      ∙ ap (λ (y : A). take i old ++ y ∷ drop (suc i) new) (sym g)
      ∙ ap (λ (l : List A). take i old ++ l) (sym (drop-cons new i d (omega arith)))

  get_d_behind : (l : List A) (m i : ℕ) (z : A) → length l ≤ i → i < length l + m → get_or (l ++ replicate m z) i z ≡ z
  get_d_behind l m i z h k =
      let e : i ≡ length l + (i - length l) = omega arith in
      ap (λ (j : ℕ). get_or (l ++ replicate m z) j z) e ∙ get_or-append-add l (replicate m z) (i - length l) z ∙ get_or-replicate m (i - length l) z z (omega arith)

  take-insert_at : (l : List A) (p : ℕ) (x : A) → p ≤ length l → take p (insert_at l p x) ≡ take p l
  take-insert_at l zero x h = refl
  take-insert_at [] (suc p) x h = absurd (not-suc-le-zero h)
  take-insert_at (y ∷ l) (suc p) x h = ap (λ (m : List A). y ∷ m) (take-insert_at l p x (le_of_suc-le-suc h))

  -- the row with x at place p of its first n, and blanks behind
  abbrev pub grown : ℕ → A → List A → ℕ → ℕ → A → List A
  grown places z row n p x = pad_to places z (insert_at (take n row) p x)

  -- the row when the places behind i have been written
  pub record Shifting (places : ℕ) (z : A) (row : List A) (n p : ℕ) (x : A) (i : ℕ) (out : List A) : Type 0 where
    pub few : i < places
    pub after : p ≤ i
    pub within : p ≤ n
    pub long : length row ≡ places
    pub taken : length (insert_at (take n row) p x) ≡ suc n
    pub room : n < places
    pub shifted : out ≡ take (suc i) row ++ drop (suc i) (grown places z row n p x)

  pub shift_starts : (places : ℕ) (z : A) (row : List A) (n p : ℕ) (x : A) (i : ℕ) → suc i ≡ places → length row ≡ places → n < places → p ≤ n
      → Shifting places z row n p x i row
  shift_starts places z row n p x i e long room within =
      let t : length (insert_at (take n row) p x) ≡ suc n = length-insert_at (take n row) p x ∙ ap suc (length-take-le n row (omega arith)) in
      let l : length (grown places z row n p x) ≡ places = length-pad_to places z (insert_at (take n row) p x) (omega arith) in
      record {
        few = omega arith;
        after = omega arith;
        within = within;
        long = long;
        taken = t;
        room = room;
        shifted = sym (take-append-drop (suc i) row)
            ∙ ap (λ (d : List A). take (suc i) row ++ d)
            (drop_of_length-le row {i = suc i} (omega arith) ∙ sym (drop_of_length-le (grown places z row n p x) {i = suc i} (omega arith)));
      }

  module _ {places : ℕ} {z : A} {row out : List A} {n p i : ℕ} {x : A} (s : Shifting places z row n p x i out) where
    grown-long : length (grown places z row n p x) ≡ places
    grown-long = length-pad_to places z (insert_at (take n row) p x) (omega (arith, s.taken, s.room))

    -- what stands before i is as it came
    pub shift_read : (j : ℕ) → j ≤ i → get_or out j z ≡ get_or row j z
    shift_read j h =
        ap (λ (l : List A). get_or l j z) s.shifted
        ∙ get_or-append (take (suc i) row) (drop (suc i) (grown places z row n p x)) z j
        (omega (arith, length-take-le (suc i) row (omega (arith, s.few, s.long))))
        ∙ get_or-take (suc i) row j z (omega arith)

    written : (v : A) → get_or (grown places z row n p x) i z ≡ v → set out i v ≡ take i row ++ drop i (grown places z row n p x)
    written v g =
        ap (λ (l : List A). set l i v) s.shifted
        ∙ set_back row (grown places z row n p x) i v z (omega (arith, s.few, s.long)) (s.long ∙ sym grown-long) g

    next : (k : ℕ) (out' : List A) (v : A) → suc k ≡ i → p ≤ k → out' ≡ set out i v → get_or (grown places z row n p x) i z ≡ v → Shifting places z row n p x k out'
    next k out' v e h w g =
        record {
          few = omega (arith, s.few);
          after = h;
          within = s.within;
          long = s.long;
          taken = s.taken;
          room = s.room;
          shifted = w ∙ written v g ∙ ap (λ (j : ℕ). take j row ++ drop j (grown places z row n p x)) (sym e);
        }

    -- behind the list, and between its end and the place
    pub shift_blank : (k : ℕ) (out' : List A) → suc k ≡ i → p ≤ k → n < i → out' ≡ set out i z → Shifting places z row n p x k out'
    shift_blank k out' e h b w =
        next k out' z e h w
        (get_d_behind (insert_at (take n row) p x) (places - length (insert_at (take n row) p x)) i z (omega (arith, s.taken)) (omega (arith, s.taken, s.few, s.room)))

    pub shift_up : (k : ℕ) (out' : List A) → suc k ≡ i → p ≤ k → i ≤ n → out' ≡ set out i (get_or out k z) → Shifting places z row n p x k out'
    shift_up k out' e h b w =
        next k out' (get_or row k z) e h
        (w ∙ ap (λ (v : A). set out i v) (shift_read k (omega arith)))
        (get_or-append (insert_at (take n row) p x) (replicate (places - length (insert_at (take n row) p x)) z) z i (omega (arith, s.taken))
        ∙ ap (λ (j : ℕ). get_or (insert_at (take n row) p x) j z) (sym e)
        ∙ insert_at-after (take n row) p k x z h
        ∙ get_or-take n row k z (omega arith))

    -- the place itself comes last
    pub shift_ends : i ≤ p → set out p x ≡ grown places z row n p x
    shift_ends h =
        let e : i ≡ p = omega (arith, s.after) in
        let l : length (take n row) ≡ n = length-take-le n row (omega (arith, s.long, s.room)) in
        ap (λ (j : ℕ). set out j x) (sym e)
        ∙ written x
        (ap (λ (j : ℕ). get_or (grown places z row n p x) j z) e
        ∙ get_or-append (insert_at (take n row) p x) (replicate (places - length (insert_at (take n row) p x)) z) z p (omega (arith, s.taken, s.within))
        ∙ insert_at-at (take n row) p x z (omega (arith, s.within)))
        ∙ ap (λ (j : ℕ). take j row ++ drop j (grown places z row n p x)) e
        ∙ ap (λ (l : List A). l ++ drop p (grown places z row n p x))
        (sym (take-take p n row s.within)
        ∙ sym (take-insert_at (take n row) p x (omega (arith, s.within)))
        ∙ sym (take-append-le p (insert_at (take n row) p x) (replicate (places - length (insert_at (take n row) p x)) z) (omega (arith, s.taken, s.within))))
        ∙ take-append-drop p (grown places z row n p x)
