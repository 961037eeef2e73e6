-- The three counts after each change of a list: one more, one less, or one less and one more; and that a count is no greater than the list is long.
-- Assumes nothing.
use Rattle.std.specs.Prelude.{◌≡◌, Bool, not, ◌&&◌, List, [], ◌∷◌, ◌++◌, ◌+◌, ◌-◌, ◌≤◌, length}
use Rattle.std.proofs.Math.Path.{refl}
use Rattle.std.proofs.Common.{ap, arith, eqb-true, eq-eqb}
use Rattle.std.proofs.Math.Bool.{true, false}
use Rattle.model.specs.declared.State.{State}
use Rattle.model.specs.declared.State.TheVariants.{Alive, Pending, Suspected}
use Rattle.model.specs.declared.Lamps.{Lamps}
use Rattle.model.specs.Rows.{one, pick, Test}
use Rattle.model.specs.Words.{Member}
use Rattle.model.specs.Members.{listed, strike, put, held_state}
use Rattle.model.specs.Lamps.{is_in, counts, count_of, lamps_of, dark, lamp_of, more, less, same_lamps}
use Rattle.laws.specs.Bools.{and_split, and_join}
use Rattle.laws_list.specs.Counting.{Few, Covers, light_of}

module _ {A : Type 0} (same : A → A → Bool) where
  -- it holds for each state whether the peer counts
  light_is : (own a : A) (s : State)
      → (light_of same) own a s ≡ record { alive = one (counts same Alive own a s); pending = one (counts same Pending own a s); suspected = one (counts same Suspected own a s) }
  unfolding light_of
  light_is own a s =
      elim (same own a) as (λ u. pick u dark (lamp_of s) ≡ record { alive = one (not u && is_in Alive s); pending = one (not u && is_in Pending s); suspected = one (not u && is_in Suspected s) }) [
        | true ↦ refl
        | false ↦ refl
      ]

  module _ (st : State) (own : A) where
    count_snoc : (t : List (Member A)) (m : Member A) → count_of same st own (t ++ (m ∷ [])) ≡ count_of same st own t + one (counts same st own m.addr m.state)
    count_snoc [] m = omega arith
    count_snoc (k ∷ t) m = omega (arith, count_snoc t m)

    pub count_le : (t : List (Member A)) → count_of same st own t ≤ length t
    count_le [] = omega arith
    count_le (m ∷ t) =
        elim (counts same st own m.addr m.state) as (λ u. one u + count_of same st own t ≤ length (m ∷ t)) [
          | true ↦ omega (arith, count_le t)
          | false ↦ omega (arith, count_le t)
        ]

    module _ (test : Test same) where
      count-strike : (a : A) (t : List (Member A)) → listed same a t ≡ true → count_of same st own (strike same a t) + one (counts same st own a (held_state same a t)) ≡ count_of same st own t
      count-strike a [] e = cc
      count-strike a (m ∷ t) e =
          (elim (same a m.addr) as (λ u. same a m.addr ≡ u → pick u true (listed same a t) ≡ true
          → count_of same st own (pick u t (m ∷ strike same a t)) + one (counts same st own a (pick u m.state (held_state same a t)))
          ≡ one (counts same st own m.addr m.state) + count_of same st own t) [
            | true ↦ λ q _. omega (arith, ap (λ (x : A). one (counts same st own x m.state)) (test.same_eq a m.addr q))
            | false ↦ λ q r. omega (arith, count-strike a t r)
          ]) refl e

      count-put : (k : Member A) (t : List (Member A)) → listed same k.addr t ≡ true
          → count_of same st own (put same k t) + one (counts same st own k.addr (held_state same k.addr t))
          ≡ count_of same st own t + one (counts same st own k.addr k.state)
      count-put k [] e = cc
      count-put k (m ∷ t) e =
          (elim (same k.addr m.addr) as (λ u. same k.addr m.addr ≡ u → pick u true (listed same k.addr t) ≡ true
          → count_of same st own (pick u (k ∷ t) (m ∷ put same k t)) + one (counts same st own k.addr (pick u m.state (held_state same k.addr t)))
          ≡ one (counts same st own m.addr m.state) + count_of same st own t + one (counts same st own k.addr k.state)) [
            | true ↦ λ q _. omega (arith, ap (λ (x : A). one (counts same st own x m.state)) (test.same_eq k.addr m.addr q))
            | false ↦ λ q r. omega (arith, count-put k t r)
          ]) refl e

  one_le : (u : Bool) → one u ≤ 1
  one_le true = omega arith
  one_le false = omega arith

  -- a peer is at most one
  pub light_few : (own a : A) (s : State) → Few 1 ((light_of same) own a s)
  light_few own a s = rw (light_is own a s) (record { alive = one_le (counts same Alive own a s); pending = one_le (counts same Pending own a s); suspected = one_le (counts same Suspected own a s) })

  pub lamps_few : (own : A) (t : List (Member A)) → Few (length t) (lamps_of same own t)
  unfolding lamps_of
  lamps_few own t = record { alive = count_le Alive own t; pending = count_le Pending own t; suspected = count_le Suspected own t }

  -- the own address lights no lamp
  pub light_own : (own : A) (s : State) → same own own ≡ true → (light_of same) own own s ≡ dark
  unfolding light_of
  light_own own s e = rw e

  -- one more at the end
  pub lamps_snoc : (own : A) (t : List (Member A)) (m : Member A) → lamps_of same own (t ++ (m ∷ [])) ≡ more (lamps_of same own t) ((light_of same) own m.addr m.state)
  unfolding lamps_of
  lamps_snoc own t m =
      rw (light_is own m.addr m.state)
      (λ i. record { alive = count_snoc Alive own t m i; pending = count_snoc Pending own t m i; suspected = count_snoc Suspected own t m i })

  module _ (test : Test same) (own a : A) (t : List (Member A)) (e : listed same a t ≡ true) where
    held_le : (st : State) → one (counts same st own a (held_state same a t)) ≤ count_of same st own t
    held_le st = omega (arith, count-strike st own test a t e)

    -- a listed peer is counted
    pub lamps_cover : Covers (lamps_of same own t) ((light_of same) own a (held_state same a t))
    unfolding lamps_of
    lamps_cover = rw (light_is own a (held_state same a t)) (record { alive = held_le Alive; pending = held_le Pending; suspected = held_le Suspected })

    -- one less
    pub lamps_strike : lamps_of same own (strike same a t) ≡ less (lamps_of same own t) ((light_of same) own a (held_state same a t))
    unfolding lamps_of
    lamps_strike = rw (light_is own a (held_state same a t)) (λ i. record { alive = struck Alive i; pending = struck Pending i; suspected = struck Suspected i })
      where
        struck : (st : State) → count_of same st own (strike same a t) ≡ count_of same st own t - one (counts same st own a (held_state same a t))
        struck st = omega (arith, count-strike st own test a t e)

  -- one less and one more
  pub lamps_put : (test : Test same) (own : A) (k : Member A) (t : List (Member A)) → listed same k.addr t ≡ true
      → lamps_of same own (put same k t) ≡ more (less (lamps_of same own t) ((light_of same) own k.addr (held_state same k.addr t))) ((light_of same) own k.addr k.state)
  unfolding lamps_of
  lamps_put test own k t e =
      rw (light_is own k.addr (held_state same k.addr t), light_is own k.addr k.state)
      (λ i. record { alive = moved Alive i; pending = moved Pending i; suspected = moved Suspected i })
    where
      moved : (st : State) → count_of same st own (put same k t)
          ≡ count_of same st own t - one (counts same st own k.addr (held_state same k.addr t)) + one (counts same st own k.addr k.state)
      moved st = omega (arith, count-put st own test k t e, count-strike st own test k.addr t e)

-- the test of three counts
pub lamps_eq : (l k : Lamps) → same_lamps l k ≡ true → l ≡ k
lamps_eq l k e =
    let p = and_split _ _ e in
    let q = and_split _ _ p.0 in
    λ i. record { alive = eqb-true l.alive k.alive q.0 i; pending = eqb-true l.pending k.pending q.1 i; suspected = eqb-true l.suspected k.suspected p.1 i }

pub lamps_same : (l : Lamps) → same_lamps l l ≡ true
lamps_same l = and_join (and_join (eq-eqb l.alive l.alive refl) (eq-eqb l.pending l.pending refl)) (eq-eqb l.suspected l.suspected refl)
