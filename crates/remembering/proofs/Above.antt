-- What the row is for: with remembering on, an address that is in the row comes in only above every number at which it was removed since it last came into the row.
-- Assumes nothing.
use Rattle.std.specs.Prelude.{◌≡◌, Bool, ℕ, ◌+◌, ◌≤◌, ◌<◌, max, drop, length}
use Rattle.std.proofs.Math.Path.{refl, ap}
use Rattle.std.proofs.Common.{sym, ◌∙◌, subst, arith}
use Rattle.std.proofs.Math.Bool.{true, false}
use mathlib.Core.List.{List, [], ◌∷◌, ◌++◌}
use Rattle.std.proofs.Math.Option.{Option, none, some}
use lib.Dec.{leb}
use borrow.Author.Tests.{leb-true, le-leb}
use Rattle.model.specs.Rows.{one, pick, has, erase, occurs, Test}
use Rattle.model.specs.Words.{Address, Lawful, Departed}
use Rattle.model.specs.Departed.{gone, greatest, make_room, look_up, without, depart}
use Rattle.model.specs.Node.{Stored, numbered, lists}
use Rattle.laws.specs.Bools.{and_join}
use Rattle.laws.specs.Counts.{occurs-append}
use Rattle.laws_list.specs.Departing.{without-addrs, gone-append, depart_once}
use Rattle.history.specs.Beginnings.{Beginning, Gave}
use Rattle.history.specs.Moments.{Moment}
use Rattle.history.specs.Histories.{Call, trace, start}
use Rattle.remembering.specs.Removals.{removal, removals, row_by, since}
use Rattle.remembering.specs.Standing.{Takes}
use Rattle.remembering.specs.Entering.{asked, AtRow, Along}
use Rattle.remembering.proofs.Rows.{row-append}
use Rattle.remembering.proofs.Row.{row_along}
use Rattle.remembering.specs.Above.{at_most, most, there, all_below, removed_at}

every_le : (d e : ℕ) → d ≤ e → (ns : List ℕ) → at_most d ns ≡ true → at_most e ns ≡ true
every_le d e h [] p = refl
every_le d e h (n ∷ ns) p =
    let q = Rattle.laws.specs.Bools.and_split (leb n d) (at_most d ns) p in
    and_join (le-leb n e (omega (arith, leb-true n d q.0))) (every_le d e h ns q.1)

module _ {A : Type 0} (same : A → A → Bool) (test : Test same) (a : A) where
  abbrev Once : List (Departed A) → Type 0
  Once r = (b : A) → occurs same b (gone r) ≤ 1

  lost : (r : List (Departed A)) → occurs same a (gone r) ≡ 0 → look_up same a r ≡ none
  unfolding look_up
  lost [] e = refl
  lost (d ∷ r) e =
      (elim (same a d.addr) as (λ u. one u + occurs same a (gone r) ≡ 0 → pick u (some d.number) (look_up same a r) ≡ none) [
        | true ↦ λ h. absurd (omega arith)
        | false ↦ λ h. lost r (omega arith)
      ]) e

  last_one : (q : List (Departed A)) (d : Departed A) → look_up same a q ≡ none → look_up same a (q ++ (d ∷ [])) ≡ pick (same a d.addr) (some d.number) none
  unfolding look_up
  last_one [] d e = refl
  last_one (x ∷ q) d e =
      (elim (same a x.addr) as (λ u. pick u (some x.number) (look_up same a q) ≡ none → pick u (some x.number) (look_up same a (q ++ (d ∷ []))) ≡ pick (same a d.addr) (some d.number) none) [
        | true ↦ λ h. Rattle.laws.specs.Bools.none-some (sym h)
        | false ↦ λ h. last_one q d h
      ]) e

  not_last : (q : List (Departed A)) (d : Departed A) (n : ℕ) → same a d.addr ≡ false → look_up same a (q ++ (d ∷ [])) ≡ some n → look_up same a q ≡ some n
  unfolding look_up
  not_last [] d n f e = Rattle.laws.specs.Bools.none-some (ap (λ (u : Bool). pick u (some d.number) none) (sym f) ∙ e)
  not_last (x ∷ q) d n f e =
      (elim (same a x.addr) as (λ u. pick u (some x.number) (look_up same a (q ++ (d ∷ []))) ≡ some n → pick u (some x.number) (look_up same a q) ≡ some n) [
        | true ↦ λ h. h
        | false ↦ λ h. not_last q d n f h
      ]) e

  -- what is found where room was made was there before
  behind-first : (q : List (Departed A)) (n : ℕ) → Once q → look_up same a (drop 1 q) ≡ some n → look_up same a q ≡ some n
  unfolding look_up
  behind-first [] n o e = e
  behind-first (x ∷ q) n o e =
      (elim (same a x.addr) as (λ u. same a x.addr ≡ u → pick u (some x.number) (look_up same a q) ≡ some n) [
        | true ↦ λ h.
            let z : occurs same a (gone q) ≡ 0 = omega (arith, o a, ap one h) in
            Rattle.laws.specs.Bools.none-some (sym (lost q z) ∙ e)
        | false ↦ λ h. e
      ]) refl

  in_room : (q : List (Departed A)) (n : ℕ) → Once q → look_up same a (make_room q) ≡ some n → look_up same a q ≡ some n
  unfolding make_room
  in_room q n o e =
      (elim (leb 128 (length q)) as (λ u. look_up same a (pick u (drop 1 q) q) ≡ some n → look_up same a q ≡ some n) [
        | true ↦ λ h. behind-first q n o h
        | false ↦ λ h. h
      ]) e

  in_rest : (b : A) (r : List (Departed A)) (n : ℕ) → same a b ≡ false → look_up same a (without same b r) ≡ some n → look_up same a r ≡ some n
  unfolding look_up without
  in_rest b [] n f e = e
  in_rest b (x ∷ r) n f e =
      (elim (same b x.addr) as (λ u. same b x.addr ≡ u → look_up same a (pick u r (x ∷ without same b r)) ≡ some n → pick (same a x.addr) (some x.number) (look_up same a r) ≡ some n) [
        | true ↦ λ h k. let z : same a x.addr ≡ false = ap (same a) (sym (test.same_eq b x.addr h)) ∙ f in ap (λ (u : Bool). pick u (some x.number) (look_up same a r)) z ∙ k
        | false ↦ λ h k.
            (elim (same a x.addr) as (λ u. pick u (some x.number) (look_up same a (without same b r)) ≡ some n → pick u (some x.number) (look_up same a r) ≡ some n) [
              | true ↦ λ j. j
              | false ↦ λ j. in_rest b r n f j
            ]) k
      ]) refl e

  none_has : (r : List (Departed A)) → look_up same a r ≡ none → has same a (gone r) ≡ false
  unfolding look_up
  none_has [] e = refl
  none_has (d ∷ r) e =
      (elim (same a d.addr) as (λ u. pick u (some d.number) (look_up same a r) ≡ none → pick u true (has same a (gone r)) ≡ false) [
        | true ↦ λ h. Rattle.laws.specs.Bools.none-some (sym h)
        | false ↦ λ h. none_has r h
      ]) e

  erase-less : (b c : A) (l : List A) → occurs same c (erase same b l) ≤ occurs same c l
  erase-less b c [] = omega arith
  erase-less b c (x ∷ l) =
      elim (same b x) as (λ u. occurs same c (pick u l (x ∷ erase same b l)) ≤ one (same c x) + occurs same c l) [
        | true ↦ omega arith
        | false ↦ omega (arith, erase-less b c l)
      ]

  once_without : (b : A) (r : List (Departed A)) → Once r → Once (without same b r)
  once_without b r o c = omega (arith, ap (occurs same c) (without-addrs same b r), erase-less b c (gone r), o c)

  -- the numbers are no greater than the row's, where it has the address
  abbrev Bounded : List (Departed A) → List ℕ → Type 0
  Bounded r ns = (d : ℕ) → look_up same a r ≡ some d → at_most d ns ≡ true

  -- after a removal of the address itself
  own-number : (n : ℕ) (r : List (Departed A)) → Once r → look_up same a (depart same a n r) ≡ some (greatest (look_up same a r) n)
  unfolding depart
  own-number n r o =
      let q = make_room (without same a r) in
      let d : Departed A = record { addr = a; number = greatest (look_up same a r) n } in
      let s = ap (occurs same a) (gone-append q (d ∷ [])) ∙ occurs-append same a (gone q) (a ∷ []) in
      let z : occurs same a (gone q) ≡ 0 = omega (arith, s, depart_once same test a n r o a, ap one (test.same_refl a)) in
      last_one q d (lost q z) ∙ ap (λ (u : Bool). pick u (some (greatest (look_up same a r) n)) none) (test.same_refl a)

  some_inj : (x y : ℕ) → ◌≡◌ {A = Option ℕ} (some x) (some y) → x ≡ y
  some_inj x y e = cc

  own_bounded : (n : ℕ) (r : List (Departed A)) (ns : List ℕ) → Once r → Bounded r ns → Bounded (depart same a n r) (n ∷ pick (has same a (gone r)) ns [])
  own_bounded n r ns o p d e = by (look_up same a r) refl (some_inj _ _ (sym (own-number n r o) ∙ e))
    where
      by : (x : Option ℕ) → look_up same a r ≡ x → greatest (look_up same a r) n ≡ d → at_most d (n ∷ pick (has same a (gone r)) ns []) ≡ true
      by none q g =
          let z : n ≡ d = sym (ap (λ (x : Option ℕ). greatest x n) q) ∙ g in
          and_join (le-leb n d (omega arith)) (ap (λ (u : Bool). at_most d (pick u ns [])) (none_has r q))
      by (some k) q g =
          let z : max k n ≡ d = sym (ap (λ (x : Option ℕ). greatest x n) q) ∙ g in
          and_join (le-leb n d (omega arith)) (ap (λ (u : Bool). at_most d (pick u ns [])) ((there same test a) r k q) ∙ every_le k d (omega arith) ns (p k q))

  -- and after one of another
  other_bounded : (b : A) (n : ℕ) (r : List (Departed A)) (ns : List ℕ) → same a b ≡ false → Once r → Bounded r ns → Bounded (depart same b n r) ns
  unfolding depart
  other_bounded b n r ns f o p d e =
      p d (in_rest b r d f (in_room (without same b r) d (once_without b r o) (not_last (make_room (without same b r)) (record { addr = b; number = greatest (look_up same b r) n }) d f e)))

  one_bounded : (x : Departed A) (r : List (Departed A)) (ns : List ℕ) → Once r → Bounded r ns
      → Bounded (depart same x.addr x.number r) (pick (same a x.addr) (x.number ∷ pick (has same a (gone r)) ns []) ns)
  one_bounded x r ns o p =
      (elim (same a x.addr) as (λ u. same a x.addr ≡ u → Bounded (depart same x.addr x.number r) (pick u (x.number ∷ pick (has same a (gone r)) ns []) ns)) [
        | true ↦ λ e. subst (λ (b : A). Bounded (depart same b x.number r) (x.number ∷ pick (has same a (gone r)) ns [])) (test.same_eq a x.addr e) (own_bounded x.number r ns o p)
        | false ↦ λ e. other_bounded x.addr x.number r ns e o p
      ]) refl

  pub since_bounded : (xs r : List (Departed A)) (ns : List ℕ) → Once r → Bounded r ns → Bounded (row_by same xs r) (since same a xs r ns)
  since_bounded [] r ns o p = p
  since_bounded (x ∷ xs) r ns o p =
      since_bounded xs (depart same x.addr x.number r) (pick (same a x.addr) (x.number ∷ pick (has same a (gone r)) ns []) ns)
      (depart_once same test x.addr x.number r o) (one_bounded x r ns o p)

  -- the row's number is the greatest of the numbers, where it has the address
  abbrev Exact : List (Departed A) → List ℕ → Type 0
  Exact r ns = (d : ℕ) → look_up same a r ≡ some d → most ns ≡ d

  own-exact : (n : ℕ) (r : List (Departed A)) (ns : List ℕ) → Once r → Exact r ns → Exact (depart same a n r) (n ∷ pick (has same a (gone r)) ns [])
  own-exact n r ns o p d e = by (look_up same a r) refl (some_inj _ _ (sym (own-number n r o) ∙ e))
    where
      by : (x : Option ℕ) → look_up same a r ≡ x → greatest (look_up same a r) n ≡ d → most (n ∷ pick (has same a (gone r)) ns []) ≡ d
      by none q g =
          let z : n ≡ d = sym (ap (λ (x : Option ℕ). greatest x n) q) ∙ g in
          ap (λ (u : Bool). max n (most (pick u ns []))) (none_has r q) ∙ (let y : max n 0 ≡ d = omega arith in y)
      by (some k) q g =
          let z : max k n ≡ d = sym (ap (λ (x : Option ℕ). greatest x n) q) ∙ g in
          ap (λ (u : Bool). max n (most (pick u ns []))) ((there same test a) r k q) ∙ (let y : max n (most ns) ≡ d = omega (arith, p k q) in y)

  other_exact : (b : A) (n : ℕ) (r : List (Departed A)) (ns : List ℕ) → same a b ≡ false → Once r → Exact r ns → Exact (depart same b n r) ns
  unfolding depart
  other_exact b n r ns f o p d e =
      p d (in_rest b r d f (in_room (without same b r) d (once_without b r o) (not_last (make_room (without same b r)) (record { addr = b; number = greatest (look_up same b r) n }) d f e)))

  one-exact : (x : Departed A) (r : List (Departed A)) (ns : List ℕ) → Once r → Exact r ns
      → Exact (depart same x.addr x.number r) (pick (same a x.addr) (x.number ∷ pick (has same a (gone r)) ns []) ns)
  one-exact x r ns o p =
      (elim (same a x.addr) as (λ u. same a x.addr ≡ u → Exact (depart same x.addr x.number r) (pick u (x.number ∷ pick (has same a (gone r)) ns []) ns)) [
        | true ↦ λ e. subst (λ (b : A). Exact (depart same b x.number r) (x.number ∷ pick (has same a (gone r)) ns [])) (test.same_eq a x.addr e) (own-exact x.number r ns o p)
        | false ↦ λ e. other_exact x.addr x.number r ns e o p
      ]) refl

  exact-from : (xs r : List (Departed A)) (ns : List ℕ) → Once r → Exact r ns → Exact (row_by same xs r) (since same a xs r ns)
  exact-from [] r ns o p = p
  exact-from (x ∷ xs) r ns o p =
      exact-from xs (depart same x.addr x.number r) (pick (same a x.addr) (x.number ∷ pick (has same a (gone r)) ns []) ns)
      (depart_once same test x.addr x.number r o) (one-exact x r ns o p)

  -- "the greatest number seen at a removal since the address last came into the row": no less and no more
  pub greatest-since : (xs : List (Departed A)) (d : ℕ) → look_up same a (row_by same xs []) ≡ some d → most (since same a xs [] []) ≡ d
  unfolding look_up
  greatest-since xs d e = exact-from xs [] [] (λ c. omega arith) (λ x y. Rattle.laws.specs.Bools.none-some y) d e

-- the row before a moment among others
along_at : {A : Type 0} (address : Address A) (ms ns : List (Moment A)) (m : Moment A) (r : List (Departed A)) → Along address (ms ++ (m ∷ ns)) r → AtRow address (row_by address.same (removals address ms) r) m
along_at address [] ns m r p = p.0
along_at address (x ∷ ms) ns m r p =
    rw (row-append address.same (removal address x.deed x.before) (removals address ms) r) (along_at address ms ns m (row_by address.same (removal address x.deed x.before) r) p.1)

below_all : (d k : ℕ) → d < k → (ns : List ℕ) → at_most d ns ≡ true → all_below k ns ≡ true
below_all d k h [] p = refl
below_all d k h (n ∷ ns) p =
    let q = Rattle.laws.specs.Bools.and_split (leb n d) (at_most d ns) p in
    and_join (borrow.Author.Tests.lt-ltb n k (omega (arith, leb-true n d q.0))) (below_all d k h ns q.1)

-- of every history, at each of its moments: `ms` came before it
module _ {A : Type 0} (address : Address A) (lawful : Lawful address) (b : Beginning A) (tick : ℕ) (node : Stored A) (gave : Gave address b node) (h : List (Call A))
    (ms ns : List (Moment A)) (m : Moment A) (there : trace address h (start address b tick) ≡ ms ++ (m ∷ ns)) where
  at_row : AtRow address (row_by address.same (removals address ms) []) m
  at_row = along_at address ms ns m [] (subst (λ (l : List (Moment A)). Along address l []) there (row_along address lawful tick b node gave h))

  -- the row before it is what the removals before it say
  pub row_then : m.before.departed ≡ row_by address.same (removals address ms) []
  row_then = at_row.row

  -- the number that a Joined or a Ping leaves, by D in the ticket's words: of a listed address too, and with the setting off
  pub takes_then : Takes address m.deed m.before m.after
  takes_then = at_row.takes

  -- "an address that is in the row is admitted (Joined or by its Ping) only above every number at which it was removed since it last came into the row"
  pub admitted_above : (a : A) (d : ℕ) → m.before.settings.remember ≡ true → look_up address.same a m.before.departed ≡ some d → asked m.deed ≡ true
      → lists address a m.before ≡ false → lists address a m.after ≡ true → all_below (numbered address a m.after) ((removed_at address lawful b tick node gave h ms ns m there) a) ≡ true
  admitted_above a d on in_row q out into =
      below_all d (numbered address a m.after) (at_row.admits q a d on in_row out into) ((removed_at address lawful b tick node gave h ms ns m there) a)
      (since_bounded address.same lawful.test a (removals address ms) [] [] (λ c. omega arith) (λ x y. refl) d (ap (look_up address.same a) (sym row_then) ∙ in_row))
