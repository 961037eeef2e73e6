-- What the table says of an address after each change: whether it is listed, and its number.
-- Assumes nothing.
use Rattle.std.specs.Prelude.{◌≡◌, refl, Bool, true, false, List, [], ◌∷◌, ◌++◌, ◌+◌, ◌≤◌, ◌<◌}
use Rattle.std.proofs.Common.{ap, sym, ◌∙◌, arith}
use Rattle.model.specs.Rows.{one, pick, has, occurs, erase, Test}
use Rattle.model.specs.Words.{Member}
use Rattle.model.specs.Members.{addrs, strike, put, held}
use Rattle.laws.specs.Counts.{occurs-erase, has_le, has_is}
use Rattle.laws_list.specs.Whole.{put-addrs}

diff : (x y u : Bool) → one x + one u ≡ one y → x ≡ pick u false y
diff true true true e = absurd (omega arith)
diff true false true e = absurd (omega arith)
diff false true true e = refl
diff false false true e = refl
diff true true false e = refl
diff true false false e = absurd (omega arith)
diff false true false e = absurd (omega arith)
diff false false false e = refl

module _ {A : Type 0} (same : A → A → Bool) where
  pub has-append : (a b : A) (l : List A) → has same a (l ++ (b ∷ [])) ≡ pick (has same a l) true (same a b)
  has-append a b [] = elim (same a b) as (λ u. pick u true false ≡ u) [ true ↦ refl | false ↦ refl ]
  has-append a b (x ∷ l) =
      elim (same a x) as (λ u. pick u true (has same a (l ++ (b ∷ []))) ≡ pick (pick u true (has same a l)) true (same a b)) [
        | true ↦ refl
        | false ↦ has-append a b l
      ]

  pub held-old : (a : A) (t : List (Member A)) (m : Member A) → has same a (addrs t) ≡ true → held same a (t ++ (m ∷ [])) ≡ held same a t
  held-old a [] m e = cc
  held-old a (k ∷ t) m e =
      (elim (same a k.addr) as (λ u. pick u true (has same a (addrs t)) ≡ true
      → pick u k.number (held same a (t ++ (m ∷ []))) ≡ pick u k.number (held same a t)) [
        | true ↦ λ _. refl
        | false ↦ λ h. held-old a t m h
      ]) e

  pub held_new : (a : A) (t : List (Member A)) (m : Member A) → has same a (addrs t) ≡ false → same a m.addr ≡ true → held same a (t ++ (m ∷ [])) ≡ m.number
  held_new a [] m e q = rw q
  held_new a (k ∷ t) m e q =
      (elim (same a k.addr) as (λ u. pick u true (has same a (addrs t)) ≡ false → pick u k.number (held same a (t ++ (m ∷ []))) ≡ m.number) [
        | true ↦ λ h. cc
        | false ↦ λ h. held_new a t m h q
      ]) e

  module _ (test : Test same) where
    pub has-put : (a : A) (m : Member A) (t : List (Member A)) → has same a (addrs (put same m t)) ≡ has same a (addrs t)
    has-put a m t = ap (has same a) (put-addrs same test m t)

    pub has-erase : (a b : A) (l : List A) → occurs same a l ≤ 1 → has same b l ≡ true → has same a (erase same b l) ≡ pick (same a b) false (has same a l)
    has-erase a b l o h =
        let in-l : 0 < occurs same b l = omega (arith, has_le same b l, ap one h) in
        let c : occurs same a (erase same b l) + one (same a b) ≡ occurs same a l = occurs-erase same test b a l in-l in
        diff (has same a (erase same b l)) (has same a l) (same a b)
        (omega (arith, c, has_is same a l o, has_is same a (erase same b l) (omega arith)))

    pub held-put : (a : A) (m : Member A) (t : List (Member A)) → has same a (addrs t) ≡ true → same a m.addr ≡ true → held same a (put same m t) ≡ m.number
    held-put a m [] e q = cc
    held-put a m (k ∷ t) e q =
        (elim (same m.addr k.addr) as (λ u. same m.addr k.addr ≡ u → held same a (pick u (m ∷ t) (k ∷ put same m t)) ≡ m.number) [
          | true ↦ λ r. rw q
          | false ↦ λ r.
              let n : same a k.addr ≡ false = ap (λ (x : A). same x k.addr) (test.same_eq a m.addr q) ∙ r in
              rw n (held-put a m t (rw n at e) q)
        ]) refl

    pub held-put_other : (a : A) (m : Member A) (t : List (Member A)) → same a m.addr ≡ false → held same a (put same m t) ≡ held same a t
    held-put_other a m [] q = refl
    held-put_other a m (k ∷ t) q =
        (elim (same m.addr k.addr) as (λ u. same m.addr k.addr ≡ u → held same a (pick u (m ∷ t) (k ∷ put same m t)) ≡ held same a (k ∷ t)) [
          | true ↦ λ r. rw (q, sym (test.same_eq m.addr k.addr r)) (rw q)
          | false ↦ λ r. ap (pick (same a k.addr) k.number) (held-put_other a m t q)
        ]) refl

    pub held-strike : (a b : A) (t : List (Member A)) → same a b ≡ false → held same a (strike same b t) ≡ held same a t
    held-strike a b [] q = refl
    held-strike a b (k ∷ t) q =
        (elim (same b k.addr) as (λ u. same b k.addr ≡ u → held same a (pick u t (k ∷ strike same b t)) ≡ held same a (k ∷ t)) [
          | true ↦ λ r. rw (sym (test.same_eq b k.addr r), q)
          | false ↦ λ r. ap (pick (same a k.addr) k.number) (held-strike a b t q)
        ]) refl
