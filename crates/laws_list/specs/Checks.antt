-- A loop that marks: each passed place is found in the other list, at a place not yet marked.
-- Assumes nothing.
use Rattle.std.specs.Prelude.{◌≡◌, refl, Bool, true, false, ◌&&◌, List, [], ◌∷◌, ◌++◌, ℕ, suc, ◌+◌, ◌≤◌, ◌<◌, length, get_or, set, take, drop}
use Rattle.std.proofs.Common.{ap, sym, ◌∙◌, arith, add-one, take-append-drop, drop-cons, take-suc, take_all, get_or-set_same, get_or-set_other, lt-ltb, le-ltb}
use Rattle.std.proofs.Math.Decide.{ℕ_discrete}
use Rattle.model.specs.Rows.{one, pick, has, occurs, Test}
use Rattle.model.specs.Sound.{distinct, permutes}
use Rattle.laws.specs.Counts.{occurs-append, has_le, has-none}
use Rattle.laws_list.specs.Distinct.{all_in, once_distinct, distinct_once, permutes-counts, counts-permutes, pigeons}
use Rattle.laws_list.specs.Held.{has-append}
use Rattle.laws_list.specs.Places.{place_of, has-place, place-holds}

and_false : (x y : Bool) → y ≡ false → (x && y) ≡ false
and_false true y e = e
and_false false y e = refl

is_false : (x : Bool) → (x ≡ true → ⊥) → x ≡ false
is_false true h = absurd (h refl)
is_false false h = refl

module _ {A : Type 0} (same : A → A → Bool) (test : Test same) where
  -- after i places of t: each stands once among them, each is found in o, and what is found is marked
  pub record Marked (o t : List A) (marks : List Bool) (i : ℕ) : Type 0 where
    pub once : (a : A) → occurs same a (take i t) ≤ 1
    pub found : all_in same (take i t) o ≡ true
    pub marked : (a : A) → place_of same a o < length o → get_or marks (place_of same a o) false ≡ has same a (take i t)

  pub mark-start : (o t : List A) (marks : List Bool) → ((p : ℕ) → p < length o → get_or marks p false ≡ false) → Marked o t marks 0
  mark-start o t marks h = record { once = λ a. omega arith; found = refl; marked = λ a k. h (place_of same a o) k }

  -- the place in hand stands in t
  stands : (d : A) (t : List A) (i : ℕ) → i < length t → occurs same (get_or t i d) (take i t) < occurs same (get_or t i d) t
  stands d t i h =
      let x : A = get_or t i d in
      let s : occurs same x t ≡ occurs same x (take i t) + occurs same x (drop i t) =
      ap (occurs same x) (sym (take-append-drop i t)) ∙ occurs-append same x (take i t) (drop i t) in
      let c : occurs same x (drop i t) ≡ one (same x x) + occurs same x (drop (suc i) t) = ap (occurs same x) (drop-cons t i d h) in
      omega (arith, s, c, ap one (test.same_refl x))

  -- it is not in o
  pub mark_absent : (d : A) (o t : List A) (i : ℕ) → i < length t → place_of same (get_or t i d) o ≡ length o → false ≡ (distinct same t && permutes same o t)
  mark_absent d o t i h e =
      let x : A = get_or t i d in
      let n : has same x o ≡ false = has-place same x o ∙ le-ltb (place_of same x o) (length o) (omega arith) in
      sym (and_false (distinct same t) (permutes same o t) (is_false (permutes same o t)
      (λ p. omega (arith, permutes-counts same test o t p x, has-none same x o n, stands d t i h))))

  -- its place is marked
  pub mark_again : (d : A) (o t : List A) (marks : List Bool) (i : ℕ) → Marked o t marks i → i < length t → place_of same (get_or t i d) o < length o
      → get_or marks (place_of same (get_or t i d) o) false ≡ true → false ≡ (distinct same t && permutes same o t)
  mark_again d o t marks i m h k e =
      let x : A = get_or t i d in
      let y : has same x (take i t) ≡ true = sym (m.marked x k) ∙ e in
      let n : distinct same t ≡ false =
      is_false (distinct same t) (λ p. omega (arith, distinct_once same test t p x, stands d t i h, has_le same x (take i t), ap one y)) in
      sym (ap (λ (u : Bool). u && permutes same o t) n)

  -- one more that is found
  in_snoc : (l o : List A) (x : A) → all_in same l o ≡ true → has same x o ≡ true → all_in same (l ++ (x ∷ [])) o ≡ true
  in_snoc [] o x p q = rw q
  in_snoc (y ∷ l) o x p q =
      (elim (has same y o) as (λ u. (u && all_in same l o) ≡ true → (u && all_in same (l ++ (x ∷ [])) o) ≡ true) [
        | true ↦ λ r. in_snoc l o x r q
        | false ↦ λ r. r
      ]) p

  -- its place is marked now
  pub mark-next : (d : A) (o t : List A) (marks : List Bool) (i : ℕ) → Marked o t marks i → i < length t → length o ≤ length marks
      → place_of same (get_or t i d) o < length o → get_or marks (place_of same (get_or t i d) o) false ≡ false
      → Marked o t (set marks (place_of same (get_or t i d) o) true) (i + 1)
  mark-next d o t marks i m h w k e =
      let x : A = get_or t i d in
      let p : ℕ = place_of same x o in
      let s : take (i + 1) t ≡ take i t ++ (x ∷ []) = ap (λ (j : ℕ). take j t) (add-one i) ∙ take-suc t i d h in
      let new : has same x (take i t) ≡ false = sym (m.marked x k) ∙ e in
      let there : has same x o ≡ true = has-place same x o ∙ lt-ltb p (length o) k in
      record {
        once = λ a.
            (elim (same a x) as (λ u. same a x ≡ u → occurs same a (take (i + 1) t) ≤ 1) [
              | true ↦ λ q.
                  let z : occurs same a (take i t) ≡ 0 = rw (test.same_eq a x q) (has-none same x (take i t) new) in
                  omega (arith, ap (occurs same a) s, occurs-append same a (take i t) (x ∷ []), ap one q)
              | false ↦ λ q. omega (arith, ap (occurs same a) s, occurs-append same a (take i t) (x ∷ []), ap one q, m.once a)
            ]) refl;
        found = ap (λ (l : List A). all_in same l o) s ∙ in_snoc (take i t) o x m.found there;
        marked = λ a g.
            (elim (ℕ_discrete (place_of same a o) p) [
              | yes q ↦
                  let b : a ≡ x = sym (place-holds same test a d o g) ∙ ap (λ (j : ℕ). get_or o j d) q ∙ place-holds same test x d o k in
                  let y : same a x ≡ true = ap (λ (c : A). same c x) b ∙ test.same_refl x in
                  ap (λ (j : ℕ). get_or (set marks p true) j false) q
                  ∙ get_or-set_same marks p true false (omega arith)
                  ∙ sym (ap (has same a) s ∙ has-append same a x (take i t) ∙ ap (pick (has same a (take i t)) true) y ∙ always (has same a (take i t)))
              | no q ↦
                  let y : same a x ≡ false = is_false (same a x) (λ z. q (ap (λ (c : A). place_of same c o) (test.same_eq a x z))) in
                  get_or-set_other marks p (place_of same a o) true false q
                  ∙ m.marked a g
                  ∙ sym (ap (has same a) s ∙ has-append same a x (take i t) ∙ ap (pick (has same a (take i t)) true) y ∙ itself (has same a (take i t)))
            ]);
      }
    where
      always : (u : Bool) → pick u true true ≡ true
      always true = refl
      always false = refl

      itself : (u : Bool) → pick u true false ≡ u
      itself true = refl
      itself false = refl

  -- all are found
  pub mark_end : (o t : List A) (marks : List Bool) (i : ℕ) → Marked o t marks i → length t ≤ i → length o ≡ length t → true ≡ (distinct same t && permutes same o t)
  mark_end o t marks i m h e =
      let s : take i t ≡ t = take_all i t h in
      let n : distinct same t ≡ true = once_distinct same test t (λ a. omega (arith, m.once a, ap (occurs same a) s)) in
      let p : permutes same t o ≡ true = pigeons same test t o (sym e) n (sym (ap (λ (l : List A). all_in same l o) s) ∙ m.found) in
      let q : permutes same o t ≡ true = counts-permutes same test o t (λ a. sym (permutes-counts same test t o p a)) in
      sym (ap (λ (u : Bool). u && permutes same o t) n ∙ q)
