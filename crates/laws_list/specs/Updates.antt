-- What a list says of an address after an update: of its own the given state and the larger of the two numbers, and the same as before of any other.
-- Assumes nothing.
use Rattle.std.specs.Prelude.{◌≡◌, refl, Bool, true, false, List, [], ◌∷◌}
use Rattle.std.proofs.Common.{ap, sym, ◌∙◌}
use Rattle.model.specs.declared.State.TheVariants.{Alive}
use Rattle.model.specs.Rows.{pick, has, Test}
use Rattle.model.specs.Words.{Member}
use Rattle.model.specs.Members.{Members, addrs, listed, put, held, held_state, merged, update}

module _ {A : Type 0} (same : A → A → Bool) where
  -- what a table says of an address, by any part of a record: its number and its state are two such parts
  module _ {B : Type 0} (part : Member A → B) (without : B) where
    abbrev look : A → List (Member A) → B
    look a [] = without
    look a (m ∷ t) = pick (same a m.addr) (part m) (look a t)

    module _ (test : Test same) where
      look-put : (a : A) (m : Member A) (t : List (Member A)) → has same a (addrs t) ≡ true → same a m.addr ≡ true → look a (put same m t) ≡ part m
      look-put a m [] e q = cc
      look-put a m (k ∷ t) e q =
          (elim (same m.addr k.addr) as (λ u. same m.addr k.addr ≡ u → look a (pick u (m ∷ t) (k ∷ put same m t)) ≡ part m) [
            | true ↦ λ r. rw q
            | false ↦ λ r.
                let n : same a k.addr ≡ false = ap (λ (x : A). same x k.addr) (test.same_eq a m.addr q) ∙ r in
                rw n (look-put a m t (rw n at e) q)
          ]) refl

      look-put_other : (a : A) (m : Member A) (t : List (Member A)) → same a m.addr ≡ false → look a (put same m t) ≡ look a t
      look-put_other a m [] q = refl
      look-put_other a m (k ∷ t) q =
          (elim (same m.addr k.addr) as (λ u. same m.addr k.addr ≡ u → look a (pick u (m ∷ t) (k ∷ put same m t)) ≡ look a (k ∷ t)) [
            | true ↦ λ r. rw (q, sym (test.same_eq m.addr k.addr r)) (rw q)
            | false ↦ λ r. ap (pick (same a k.addr) (part k)) (look-put_other a m t q)
          ]) refl

  held-look : (a : A) (t : List (Member A)) → held same a t ≡ look (λ m. m.number) 0 a t
  held-look a [] = refl
  held-look a (m ∷ t) = ap (pick (same a m.addr) m.number) (held-look a t)

  state_look : (a : A) (t : List (Member A)) → held_state same a t ≡ look (λ m. m.state) Alive a t
  state_look a [] = refl
  state_look a (m ∷ t) = ap (pick (same a m.addr) m.state) (state_look a t)

  -- what is said of a, wherever a table's parts agree
  pub record SaysSame (a : A) (t t' : List (Member A)) : Type 0 where
    pub number : held same a t' ≡ held same a t
    pub state : held_state same a t' ≡ held_state same a t

  pub record Says (a : A) (m : Member A) (t : List (Member A)) : Type 0 where
    pub number : held same a t ≡ m.number
    pub state : held_state same a t ≡ m.state

  says_same : (a : A) (t t' : List (Member A)) → look (λ m. m.number) 0 a t' ≡ look (λ m. m.number) 0 a t
      → look (λ m. m.state) Alive a t' ≡ look (λ m. m.state) Alive a t → SaysSame a t t'
  says_same a t t' n s =
      record { number = held-look a t' ∙ n ∙ sym (held-look a t); state = state_look a t' ∙ s ∙ sym (state_look a t) }

  says : (a : A) (m : Member A) (t : List (Member A)) → look (λ k. k.number) 0 a t ≡ m.number → look (λ k. k.state) Alive a t ≡ m.state → Says a m t
  says a m t n s = record { number = held-look a t ∙ n; state = state_look a t ∙ s }

  module _ (test : Test same) where
    -- a record replaced: it is said of its address if that is listed, and nothing changes for the others
    pub said_put : (a : A) (m : Member A) (t : List (Member A)) → listed same a t ≡ true → same a m.addr ≡ true → Says a m (put same m t)
    said_put a m t e q = says a m (put same m t) (look-put (λ k. k.number) 0 test a m t e q) (look-put (λ k. k.state) Alive test a m t e q)

    pub said-put_other : (a : A) (m : Member A) (t : List (Member A)) → same a m.addr ≡ false → SaysSame a t (put same m t)
    said-put_other a m t q =
        says_same a t (put same m t) (look-put_other (λ k. k.number) 0 test a m t q) (look-put_other (λ k. k.state) Alive test a m t q)

    pub updated_says : (m : Member A) (r : Members A) → listed same m.addr r.table ≡ true → Says m.addr (merged same m r.table) (update same m r).table
    unfolding update
    updated_says m r e = said_put m.addr (merged same m r.table) r.table e (test.same_refl m.addr)

    pub updated_other : (m : Member A) (b : A) (r : Members A) → same b m.addr ≡ false → SaysSame b r.table (update same m r).table
    unfolding update
    updated_other m b r q = said-put_other b (merged same m r.table) r.table q
