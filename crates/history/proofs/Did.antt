-- What a rule does to one address, and how the ledger keeps pace with it.
-- Assumes nothing.
use Rattle.std.specs.Prelude.{◌≡◌, Bool, ◌&&◌, ℕ, ◌+◌, ◌≤◌, ◌<◌, max, length, leb}
use Rattle.std.proofs.Math.Path.{refl, ap, sym}
use Rattle.std.proofs.Common.{◌∙◌, arith}
use Rattle.std.proofs.Math.Bool.{true, false, not}
use mathlib.Core.List.{List, [], ◌∷◌, ◌++◌}
use borrow.Author.Tests.{leb-true, lt-ltb, le-ltb, not-true}
use Rattle.model.specs.declared.State.TheVariants.{Alive}
use Rattle.model.specs.Rows.{one, pick, has}
use Rattle.laws.specs.Bools.{and_split}
use Rattle.model.specs.Words.{Address, Lawful, is_alive, parts_of, Member, Nothing, Joined, Recovered, Suspected, Deceased}
use Rattle.model.specs.Members.{Members, addrs, listed, held, added, remove, merged, update, strike, put}
use Rattle.model.specs.Node.{Node, Out, lists, numbered, state_of}
use Rattle.laws_list.specs.Whole.{Whole, added-whole, remove-whole, update-whole, strike-addrs, addrs-append}
use Rattle.laws_list.specs.Held.{has-append, held-old, held_new, has-put, has-erase, held-put, held-put_other, held-strike}
use Rattle.history.specs.Moments.{Deed, Told, Sender, Added, Ended, Other, moment_of}
use Rattle.history.specs.Ledger.{Tally, inside, comes, goes, carried, reported, step}
use Rattle.history.specs.Did.{Did, Kept, Fine}

-- the ledger keeps pace: l and l' say whether the address is listed before and after, g whether it goes and c whether it comes
counts : (l l' g c : Bool) (e d : ℕ) → e ≡ d + one l → (l ≡ true → l' ≡ not g) → (l ≡ false → l' ≡ c)
    → e + one (c && not l) ≡ d + one (g && l) + one l'
counts true l' true true e d h p q = rw (p refl) (omega arith)
counts true l' true false e d h p q = rw (p refl) (omega arith)
counts true l' false true e d h p q = rw (p refl) (omega arith)
counts true l' false false e d h p q = rw (p refl) (omega arith)
counts false l' true true e d h p q = rw (q refl) (omega arith)
counts false l' true false e d h p q = rw (q refl) (omega arith)
counts false l' false true e d h p q = rw (q refl) (omega arith)
counts false l' false false e d h p q = rw (q refl) (omega arith)

-- the bound: x was reported before and r now, n and n' are held before and after
tops : (l l' c : Bool) (x r n n' : ℕ) → l' ≡ true → (l ≡ false → l' ≡ c) → r ≤ n' → (l ≡ true → x ≤ n) → (l ≡ true → n ≤ n') → pick (c && not l) r (max x r) ≤ n'
tops true l' true x r n n' e q h p u = omega (arith, p refl, u refl)
tops true l' false x r n n' e q h p u = omega (arith, p refl, u refl)
tops false l' true x r n n' e q h p u = omega arith
tops false l' false x r n n' e q h p u = let z : ◌≡◌ {A = ℕ} 0 1 = cc (q refl) in absurd (omega arith)

no_departure : {B : Type 0} → ◌≡◌ {A = Bool} false true → B
no_departure e = let z : ◌≡◌ {A = ℕ} 0 1 = cc in absurd (omega arith)

module _ {A : Type 0} (address : Address A) (a : A) where
  pub inside_is : {own : A} {s : Node A} {t : Tally} → (Kept address a) own s t → inside t ≡ lists address a s
  inside_is {own} {s} {t} k =
      (elim (lists address a s) as (λ u. t.entries ≡ t.departures + one u → inside t ≡ u) [
        | true ↦ λ e. lt-ltb t.departures t.entries (omega arith)
        | false ↦ λ e. le-ltb t.departures t.entries (omega arith)
      ]) k.count

  -- a timer that removes: its address is not Alive, and at no greater number
  pub timed : (b : A) (n : ℕ) (s : Node A) → goes address a (Ended b n) s ≡ true → (is_alive (state_of address a s) ≡ false) × (numbered address a s ≤ n)
  timed b n s h =
      let still = not (is_alive (state_of address a s)) in
      let v = and_split still (leb (numbered address a s) n) (and_split (address.same a b) (still && leb (numbered address a s) n) h).1 in
      (not-true _ v.0, leb-true (numbered address a s) n v.1)

  no_less : (d : Deed A) (s : Node A) → goes address a d s ≡ true → numbered address a s ≤ carried address a d
  unfolding parts_of
  no_less (Told Nothing) s h = no_departure h
  no_less (Told (Joined f b n)) s h = no_departure h
  no_less (Told (Recovered f b n)) s h = no_departure h
  no_less (Told (Suspected f b n)) s h = no_departure h
  no_less (Told (Deceased f b n)) s h = leb-true (numbered address a s) n (and_split (address.same a b) (leb (numbered address a s) n) h).1
  no_less (Sender b) s h = no_departure h
  no_less (Added b n) s h = no_departure h
  no_less (Ended b n) s h = (timed b n s h).1
  no_less Other s h = no_departure h

  pub next : (own : A) (s : Node A) (d : Deed A) (o : Out A) (t : Tally) → (Kept address a) own s t → (Did address a) s d o
      → (Kept address a) own o.node (step address a (moment_of d s o) t) × (Fine address a) own t (moment_of d s o)
  next own s d o t k f =
      let i : inside t ≡ lists address a s = inside_is k in
      let kept : (Kept address a) own o.node (step address a (moment_of d s o) t) =
      record {
        whole = f.whole;
        mine = f.mine ∙ k.mine;
        count = rw i (counts (lists address a s) (lists address a o.node) (goes address a d s) (comes address a d) t.entries t.departures k.count f.was f.new);
        low = λ e q. rw i (tops (lists address a s) (lists address a o.node) (comes address a d) t.top (reported address a o.said) (numbered address a s) (numbered address a o.node)
            e f.new (f.told e (ap (λ (x : A). address.same x a) k.mine ∙ q)) (λ l. k.low l q) (λ l. f.rises l e));
      } in
      let older : (g : A) (n : ℕ) → d ≡ Told (Deceased g a n) → goes address a d s ≡ true → numbered address a s ≤ n =
      λ g n e h. leb-true (numbered address a s) n (and_split (address.same a a) (leb (numbered address a s) n) (ap (λ (x : Deed A). goes address a x s) (sym e) ∙ h)).1 in (
        kept,
        record {
          rises = λ p q. f.rises (sym i ∙ p) (sym (inside_is kept) ∙ q);
          bound = λ g n e q p h. omega (arith, k.low (sym i ∙ p) q, older g n e h);
          no_older = older;
          no_alive = λ n e h. (timed a n s (ap (λ (x : Deed A). goes address a x s) (sym e) ∙ h)).0;
          no_late = λ n e h. (timed a n s (ap (λ (x : Deed A). goes address a x s) (sym e) ∙ h)).1;
          no_lower = no_less d s;
          leaves = f.was;
          before = i;
          after = inside_is kept;
        },
      )

  module _ (lawful : Lawful address) where
    -- The four things that a rule can do to the list. It stays: the records are the same
    pub stay : (s : Node A) (d : Deed A) (o : Out A) → Whole address.same o.node.members → o.node.members.table ≡ s.members.table → o.node.own ≡ s.own
        → (lists address a s ≡ true → goes address a d s ≡ false) → (lists address a s ≡ false → comes address a d ≡ false)
        → (address.same s.own a ≡ false → lists address a s ≡ true → reported address a o.said ≤ numbered address a s) → (Did address a) s d o
    stay s d o w e m g c r =
        let l : lists address a o.node ≡ lists address a s = ap (listed address.same a) e in
        let n : numbered address a o.node ≡ numbered address a s = ap (held address.same a) e in
        record {
          whole = w;
          mine = m;
          was = λ h. l ∙ h ∙ ap not (sym (g h));
          new = λ h. l ∙ h ∙ sym (c h);
          rises = λ _ _. omega arith;
          told = λ h q. omega (arith, r q (sym l ∙ h));
        }

    -- after what a rule did the order may move
    pub moved_did : (s : Node A) (d : Deed A) (o p : Out A) → (Did address a) s d o → Whole address.same p.node.members → p.node.members.table ≡ o.node.members.table → p.node.own ≡ o.node.own
        → p.said ≡ o.said → (Did address a) s d p
    moved_did s d o p f w e m q =
        let l : lists address a p.node ≡ lists address a o.node = ap (listed address.same a) e in
        let n : numbered address a p.node ≡ numbered address a o.node = ap (held address.same a) e in
        record {
          whole = w;
          mine = m ∙ f.mine;
          was = λ h. l ∙ f.was h;
          new = λ h. l ∙ f.new h;
          rises = λ h j. omega (arith, n, f.rises h (sym l ∙ j));
          told = λ h j. omega (arith, n, ap (reported address a) q, f.told (sym l ∙ h) j);
        }

    -- one record is replaced, where the order may have moved before: x is the list as it then was. The number is the larger of the held and the given one
    pub put_did : (m : Member A) (x : Members A) (s : Node A) (d : Deed A) (o : Out A) → Whole address.same x → x.table ≡ s.members.table
        → o.node.members ≡ update address.same m x → o.node.own ≡ s.own
        → goes address a d s ≡ false → (lists address a s ≡ false → comes address a d ≡ false)
        → (address.same a m.addr ≡ true → reported address a o.said ≤ m.number) → (address.same a m.addr ≡ false → reported address a o.said ≡ 0) → (Did address a) s d o
    unfolding update
    put_did m x s d o w t e own g c r r₀ =
        let same = address.same in
        let test = lawful.test in
        let old = s.members.table in
        let k = merged same m old in
        let e₁ : o.node.members.table ≡ put same k old = ap (λ (y : Members A). y.table) e ∙ ap (λ (l : List (Member A)). put same (merged same m l) l) t in
        let l : lists address a o.node ≡ lists address a s = ap (listed same a) e₁ ∙ has-put same test a k old in
        let n : numbered address a o.node ≡ held same a (put same k old) = ap (held same a) e₁ in
        record {
          whole = rw e (update-whole same test m x w);
          mine = own;
          was = λ h. l ∙ h ∙ ap not (sym g);
          new = λ h. l ∙ h ∙ sym (c h);
          rises = λ h _.
              (elim (same a m.addr) as (λ u. same a m.addr ≡ u → numbered address a s ≤ numbered address a o.node) [
                | true ↦ λ q. omega (arith, n, held-put same test a k old h q, ap (λ (b : A). held same b old) (test.same_eq a m.addr q))
                | false ↦ λ q. omega (arith, n, held-put_other same test a k old q)
              ]) refl;
          told = λ h _.
              (elim (same a m.addr) as (λ u. same a m.addr ≡ u → reported address a o.said ≤ numbered address a o.node) [
                | true ↦ λ q. omega (arith, n, held-put same test a k old (sym l ∙ h) q, r q)
                | false ↦ λ q. omega (arith, r₀ q)
              ]) refl;
        }

    -- an address comes in
    pub came_did : (b : A) (n x : ℕ) (s : Node A) (d : Deed A) (o : Out A) → Whole address.same s.members → o.node.members ≡ added address.same b n x s.members → o.node.own ≡ s.own
        → lists address b s ≡ false → length s.members.table < 64 → goes address a d s ≡ false → comes address a d ≡ address.same a b
        → (address.same a b ≡ true → reported address a o.said ≤ n) → (address.same a b ≡ false → reported address a o.said ≡ 0) → (Did address a) s d o
    unfolding added
    came_did b n x s d o w e own f h g c r r₀ =
        let same = address.same in
        let test = lawful.test in
        let m : Member A = record { addr = b; state = Alive; number = n } in
        let l : lists address a o.node ≡ pick (lists address a s) true (same a b) =
        ap (λ (y : Members A). listed same a y.table) e ∙ ap (has same a) (addrs-append same s.members.table (m ∷ [])) ∙ has-append same a b (addrs s.members.table) in
        let v : numbered address a o.node ≡ held same a (s.members.table ++ (m ∷ [])) = ap (λ (y : Members A). held same a y.table) e in
        record {
          whole = rw e (added-whole same test b n x s.members w f h);
          mine = own;
          was = λ p. l ∙ rw p (ap not (sym g));
          new = λ p. l ∙ rw p (sym c);
          rises = λ p _. omega (arith, v, held-old same a s.members.table m p);
          told = λ p _.
              (elim (same a b) as (λ u. same a b ≡ u → reported address a o.said ≤ numbered address a o.node) [
                | true ↦ λ q. omega (arith, v, held_new same a s.members.table m (rw (test.same_eq a b q) f) q, r q)
                | false ↦ λ q. omega (arith, r₀ q)
              ]) refl;
        }

    -- an address goes
    pub gone_did : (b : A) (s : Node A) (d : Deed A) (o : Out A) → Whole address.same s.members → o.node.members ≡ remove address.same b s.members → o.node.own ≡ s.own
        → lists address b s ≡ true → goes address a d s ≡ address.same a b → comes address a d ≡ false
        → (address.same a b ≡ false → reported address a o.said ≡ 0) → (Did address a) s d o
    unfolding remove
    gone_did b s d o w e own f g c r₀ =
        let same = address.same in
        let test = lawful.test in
        let l : lists address a o.node ≡ pick (same a b) false (lists address a s) =
        ap (λ (y : Members A). listed same a y.table) e ∙ ap (has same a) (strike-addrs same test b s.members.table)
        ∙ has-erase same test a b (addrs s.members.table) (w.once a) f in
        let v : numbered address a o.node ≡ held same a (strike same b s.members.table) = ap (λ (y : Members A). held same a y.table) e in
        let other : lists address a o.node ≡ true → same a b ≡ false =
        elim (same a b) as (λ u. lists address a o.node ≡ pick u false (lists address a s) → lists address a o.node ≡ true → u ≡ false) [
          | true ↦ λ p q. cc
          | false ↦ λ p q. refl
        ] l in
        record {
          whole = rw e (remove-whole same test b s.members w f);
          mine = own;
          was = λ p. l ∙ rw (p, g) (picked (same a b));
          new = λ p. l ∙ rw (p, c) (elim (same a b) as (λ u. pick u false false ≡ false) [ true ↦ refl | false ↦ refl ]);
          rises = λ p q. omega (arith, v, held-strike same test a b s.members.table (other q));
          told = λ p _. omega (arith, r₀ (other p));
        }
      where
        picked : (u : Bool) → pick u false true ≡ not u
        picked true = refl
        picked false = refl
