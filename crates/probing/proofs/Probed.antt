-- Among any 2n - 1 pings in a row each of n peers is picked, whatever the draws, while the own address is listed.
-- Assumes nothing.
use Rattle.std.specs.Prelude.{◌≡◌, ◌⊎◌, Bool, not, get_or}
use Rattle.std.proofs.Math.Path.{refl, ap}
use Rattle.std.proofs.Common.{sym, ◌∙◌}
use Rattle.std.proofs.Math.Logic.{inl, inr, ⊎_elim}
use Rattle.std.proofs.Math.Bool.{true, false}
use mathlib.Core.List.{List, [], ◌∷◌, ◌++◌}
use Rattle.std.proofs.Math.Option.{none}
use Prim.Native.Nat.{ℕ, zero, suc, ◌+◌, ◌-◌, ◌*◌, ◌≤◌, ◌<◌, min}
use native.Mathlib.Omega.{arith}
use Rattle.std.proofs.Math.Decide.{ℕ_discrete}
use Rattle.std.proofs.Math.ListN.{length, drop, drop_of_length-le}
use Rattle.model.specs.Rows.{one, pick, has, occurs, Test}
use Rattle.model.specs.Answers.{Answer, done, refused}
use Rattle.laws.specs.After.{After, halts, gives, after_then, after_map}
use Rattle.model.specs.Members.{Members, Picked, addrs, seek, pick_from}
use Rattle.laws.specs.Counts.{has-none}
use Rattle.laws_list.specs.Whole.{Whole}
use Rattle.laws_pick.specs.Picks.{Moved, advance_drawn, after_drawn, here, cost, cost_le, cost_pos, pays, skips_room, skips_drop}
use Rattle.probing.specs.Probed.{peers, away, Ready, Nearer, pings}

module _ {A : Type 0} (same : A → A → Bool) (test : Test same) (blank own b : A) where
  peers-own : (l : List A) → (peers same test blank own b) l + occurs same own l ≡ length l
  peers-own [] = refl
  peers-own (x ∷ l) =
      elim (same own x) as (λ u. one (not u) + (peers same test blank own b) l + (one u + occurs same own l) ≡ suc (length l)) [
        | true ↦ omega (arith, peers-own l)
        | false ↦ omega (arith, peers-own l)
      ]

  peers-drop : (i : ℕ) (l : List A) → (peers same test blank own b) (drop i l) ≤ (peers same test blank own b) l
  peers-drop zero l = omega arith
  peers-drop (suc i) [] = omega arith
  peers-drop (suc i) (x ∷ l) = omega (arith, peers-drop i l)

  ready_moved : (n : ℕ) (r r' : Members A) → (Ready same test blank own b) n r → Moved same blank own r r' → (Ready same test blank own b) n r'
  ready_moved n r r' y m =
      record { whole = m.whole; mine = rw m.table y.mine; there = rw m.table y.there; many = m.long ∙ y.many }

  has_true : (l : List A) → 0 < occurs same b l → has same b l ≡ true
  has_true l h =
      (elim (has same b l) as (λ u. has same b l ≡ u → u ≡ true) [
        | true ↦ λ e. refl
        | false ↦ λ e. absurd (omega (arith, has-none same b l e))
      ]) refl

  -- a fresh round has every peer
  away_round : (n : ℕ) (r : Members A) → (Ready same test blank own b) n r → (away same test blank own b) n r.order ≡ n
  unfolding away
  away_round n r y =
      rw (has_true r.order (omega (arith, y.whole.counts b, y.there)))
      (omega (arith, peers-own r.order, y.whole.counts own, y.mine, y.many))

  away-none : (n : ℕ) → (away same test blank own b) n [] ≡ n
  unfolding away
  away-none n = omega arith

  -- a place that is not b's takes one pick if it is a peer's, and none if it is own
  away_pass : (n : ℕ) (x : A) (l : List A) → same b x ≡ false → (away same test blank own b) n (x ∷ l) ≡ one (not (same own x)) + (away same test blank own b) n l
  unfolding away
  away_pass n x l q = rw q (omega arith)

  -- what an advance leaves
  away-moved : (n : ℕ) (r r' : Members A) → (Ready same test blank own b) n r → Moved same blank own r r' → same b (get_or r.order r.position blank) ≡ false
      → (away same test blank own b) n (drop r.position r.order) ≡ one (not (same own (get_or r.order r.position blank))) + (away same test blank own b) n (drop r'.position r'.order)
  away-moved n r r' y m q =
      rw (here same blank own r y.whole (omega (arith, y.many)), away_pass n (get_or r.order r.position blank) (drop (r.position + 1) r.order) q)
      (ap (λ (k : ℕ). one (not (same own (get_or r.order r.position blank))) + k)
      (elim (ℕ_discrete (r.position + 1) (length r.order)) [
        | yes p ↦
            let none_left : drop (r.position + 1) r.order ≡ [] = drop_of_length-le r.order {i = r.position + 1} (omega arith) in
            rw (none_left, m.round p) (away-none n ∙ sym (away_round n r' (ready_moved n r r' y m)))
        | no p ↦
            let inner : r.position + 1 < length r.order = omega (arith, y.whole.place) in
            rw ((m.on inner).1, (m.on inner).0) refl
      ]))

  flip_false : (x y : A) → same x y ≡ false → same y x ≡ false
  flip_false x y p =
      (elim (same y x) as (λ u. same y x ≡ u → u ≡ false) [
        | true ↦ λ e. let z : same x y ≡ true = ap (same x) (test.same_eq y x e) ∙ test.same_refl x in cc
        | false ↦ λ e. refl
      ]) refl

  -- own is not b
  own_not : (x : A) → same own b ≡ false → same own x ≡ true → same b x ≡ false
  own_not x o q = ap (same b) (sym (test.same_eq own x q)) ∙ flip_false own b o

  seek_nearer : (f n : ℕ) (r : Members A) (ds : List ℕ) → 0 < n → (Ready same test blank own b) n r → same own b ≡ false → cost same blank own none (drop r.position r.order) ≤ f
      → After ((Nearer same test blank own b) n r) (seek same blank own f none 1 [] r ds)
  unfolding seek
  seek_nearer zero n r ds h y o k = absurd (omega (arith, cost_pos same blank own none (drop r.position r.order)))
  seek_nearer (suc f) n r ds h y o k =
      after_then (after_drawn (advance_drawn same blank own r ds y.whole (omega (arith, y.many)))) (λ r' rest m.
      (elim (same own (get_or r.order r.position blank)) as (λ u.
      same own (get_or r.order r.position blank) ≡ u
      → After ((Nearer same test blank own b) n r)
      (elim u [
        | true ↦ seek same blank own f none 1 [] r' rest
        | false ↦ seek same blank own f none 0 (get_or r.order r.position blank ∷ []) r' rest
      ])) [
        | true ↦ λ q.
            let e : (away same test blank own b) n (drop r.position r.order) ≡ (away same test blank own b) n (drop r'.position r'.order) =
            away-moved n r r' y m (own_not (get_or r.order r.position blank) o q) ∙ rw q (omega arith) in
            after_map (λ p c. record { ready = c.ready; one_picked = c.one_picked; nearer = ⊎_elim (λ z. inl z) (λ z. inr (omega arith)) c.nearer })
            (seek_nearer f n r' rest h (ready_moved n r r' y m) o (omega (arith, pays same blank own none r r' y.whole (omega (arith, y.many)) m q)))
        | false ↦ λ q.
            gives (record {
              ready = ready_moved n r r' y m;
              one_picked = (get_or r.order r.position blank, refl);
              nearer =
                  (elim (same b (get_or r.order r.position blank)) as (λ v. same b (get_or r.order r.position blank) ≡ v
                  → (has same b (get_or r.order r.position blank ∷ []) ≡ true)
                  ⊎ (suc ((away same test blank own b) n (drop r'.position r'.order)) ≤ (away same test blank own b) n (drop r.position r.order))) [
                    | true ↦ λ z. inl (rw z)
                    | false ↦ λ z. inr (omega (arith, away-moved n r r' y m z, ap (λ (w : Bool). one (not w)) q))
                  ]) refl;
            })
      ]) refl)

  pub pick_nearer : (n : ℕ) (r : Members A) (ds : List ℕ) → 0 < n → (Ready same test blank own b) n r → same own b ≡ false → After ((Nearer same test blank own b) n r) (pick_from same blank own none 1 r ds)
  unfolding pick_from
  pick_nearer n r ds h y o =
      let e : min 1 (length r.order - 1) ≡ 1 = omega (arith, y.many) in
      rw e (seek_nearer 3 n r ds h y o
      (cost_le same blank own none (drop r.position r.order)
      (omega (arith, skips_drop same blank own none r.position r.order, skips_room same blank own none r y.whole))))

  pub has_left : (l m : List A) → has same b l ≡ true → has same b (l ++ m) ≡ true
  has_left [] m e = cc
  has_left (x ∷ l) m e =
      (elim (same b x) as (λ u. pick u true (has same b l) ≡ true → pick u true (has same b (l ++ m)) ≡ true) [
        | true ↦ λ _. refl
        | false ↦ λ h. has_left l m h
      ]) e

  pub has_right : (l m : List A) → has same b m ≡ true → has same b (l ++ m) ≡ true
  has_right [] m e = e
  has_right (x ∷ l) m e =
      elim (same b x) as (λ u. pick u true (has same b (l ++ m)) ≡ true) [
        | true ↦ refl
        | false ↦ has_right l m e
      ]

  pub away_pos : (n : ℕ) (l : List A) → 0 < n → same own b ≡ false → 0 < (away same test blank own b) n l
  unfolding away
  away_pos n [] h o = omega arith
  away_pos n (x ∷ l) h o =
      (elim (same b x) as (λ u. same b x ≡ u → 0 < one (not (same own x)) + (peers same test blank own b) l + pick (pick u true (has same b l)) 0 n) [
        | true ↦ λ q. let z : same own x ≡ false = ap (same own) (sym (test.same_eq b x q)) ∙ o in rw z (omega arith)
        | false ↦ λ q. omega (arith, away_pos n l h o)
      ]) refl

  pings_reach : (dss : List (List ℕ)) (n : ℕ) (r : Members A) → 0 < n → (Ready same test blank own b) n r → same own b ≡ false → (away same test blank own b) n (drop r.position r.order) ≤ length dss
      → After (λ q. has same b q.picks ≡ true) ((pings same test blank own b) dss r)
  unfolding pings
  pings_reach [] n r h y o k = absurd (omega (arith, away_pos n (drop r.position r.order) h o))
  pings_reach (ds ∷ dss) n r h y o k =
      after_then (pick_nearer n r ds h y o) (λ p _ c.
      ⊎_elim
      (λ z. after_then (any ((pings same test blank own b) dss p.members)) (λ q rest _. gives (has_left p.picks q.picks z)))
      (λ z. after_then (pings_reach dss n p.members h c.ready o (omega arith)) (λ q rest w. gives (has_right p.picks q.picks w)))
      c.nearer)
    where
      any : (x : Answer (Picked A)) → After (λ _. Unit {0}) x
      any (refused r₁) = halts
      any (done b₁ ds₁) = gives tt

  -- what is left of a round without b lacks a peer
  lacks : (i : ℕ) (l : List A) → same own b ≡ false → 0 < occurs same b l → has same b (drop i l) ≡ false → suc ((peers same test blank own b) (drop i l)) ≤ (peers same test blank own b) l
  lacks zero l o h e = absurd (omega (arith, has-none same b l e))
  lacks (suc i) [] o h e = absurd (omega arith)
  lacks (suc i) (x ∷ l) o h e =
      (elim (same b x) as (λ u. same b x ≡ u → 0 < one u + occurs same b l → suc ((peers same test blank own b) (drop i l)) ≤ one (not (same own x)) + (peers same test blank own b) l) [
        | true ↦ λ q _. let z : same own x ≡ false = ap (same own) (sym (test.same_eq b x q)) ∙ o in omega (arith, peers-drop i l, ap (λ (w : Bool). one (not w)) z)
        | false ↦ λ q k. omega (arith, lacks i l o (omega arith) e)
      ]) refl h

  -- from any place of the order b is at most 2n - 1 pings away
  pub away-most : (n : ℕ) (r : Members A) → (Ready same test blank own b) n r → same own b ≡ false → (0 < n) × ((away same test blank own b) n (drop r.position r.order) ≤ 2 * n - 1)
  unfolding away
  away-most n r y o =
      let w = y.whole in
      let all : (peers same test blank own b) r.order ≡ n = omega (arith, peers-own r.order, w.counts own, y.mine, y.many) in
      let some-b : 0 < occurs same b r.order = omega (arith, w.counts b, y.there) in
      let gone : drop (length r.order) r.order ≡ [] = drop_of_length-le r.order {i = length r.order} (omega arith) in
      let pos : 0 < n = omega (arith, lacks (length r.order) r.order o some-b (rw gone refl)) in
      let near : (peers same test blank own b) (drop r.position r.order) + pick (has same b (drop r.position r.order)) 0 n ≤ 2 * n - 1 =
      (elim (has same b (drop r.position r.order)) as (λ u. has same b (drop r.position r.order) ≡ u → (peers same test blank own b) (drop r.position r.order) + pick u 0 n ≤ 2 * n - 1) [
        | true ↦ λ _. omega (arith, peers-drop r.position r.order)
        | false ↦ λ e. omega (arith, lacks r.position r.order o some-b e)
      ]) refl in
      (pos, near)

  -- so 2n - 1 pings reach it
  pub probed : (dss : List (List ℕ)) (n : ℕ) (r : Members A) → Whole same r → occurs same own (addrs r.table) ≡ 1 → occurs same b (addrs r.table) ≡ 1
      → same own b ≡ false → length r.table ≡ suc n → length dss ≡ 2 * n - 1 → After (λ q. has same b q.picks ≡ true) ((pings same test blank own b) dss r)
  probed dss n r w m t o l k =
      let y : (Ready same test blank own b) n r = record { whole = w; mine = m; there = t; many = w.long ∙ l } in
      let a = away-most n r y o in
      pings_reach dss n r a.0 y o (omega (arith, a.1))
