-- What choosing keeps: one induction over the rounds, and what follows from it. The heaps stay good, and the chosen fit the size.
-- Assumes nothing.
use Rattle.std.specs.Prelude.{◌≡◌, ◌&&◌, ◌||◌}
use Rattle.std.proofs.Math.Path.{refl}
use Rattle.std.proofs.Common.{ap, ◌∙◌, length-append}
use Rattle.std.proofs.Math.Bool.{Bool, true, false}
use mathlib.Core.List.{List, [], ◌∷◌, ◌++◌}
use Rattle.std.proofs.Math.Option.{Option, none, some}
use Prim.Native.Nat.{ℕ, zero, suc, ◌+◌, ◌*◌, ◌≤◌, ◌<◌}
use native.Mathlib.Omega.{arith}
use Rattle.std.proofs.Math.ListN.{length}
use Rattle.std.proofs.Math.Dec.{eqb, ltb, leb}
use borrow.Author.Tests.{ltb-false, leb-true, leb-false, le-leb}
use Rattle.model.specs.Rows.{pick, every}
use Rattle.model.specs.Words.{Address, Gossip, Entry, unused, sends_of, parts_of}
use Rattle.model.specs.Size.{size_of}
use Rattle.model.specs.Heap.{sink_top, remove_top}
use Rattle.model.specs.Choose.{Terms, Choice, Taken, was_noted, take_top, try_heap, try_alive, try_deceased, after_alive, after_deceased, gave, over, rounds, begin, choose}
use Rattle.model.specs.declared.Kind.{Kind}
use Rattle.model.specs.declared.Kind.TheVariants as kind
use Rattle.model.specs.Sound.{of_kind, valid_gossip, sound_entry}
use Rattle.laws.specs.Bools.{and_split, and_join, none-some}
use Rattle.laws_heap.specs.HeapLaws.{sink_top-length, sink_top-every, remove_top-length, remove_top-every}
use Rattle.laws_heap.specs.HeapTests.{sink_top-in_order, remove_top-in_order}
use Rattle.laws_choose.specs.GoodHeap.{GoodHeap}

module _ {A : Type 0} (address : Address A) where
  -- a heap gave one: it had a top, whose size fits, and that was taken
  pub record Gave (t : Terms) (size : ℕ) (h : List (Entry A)) (k : Taken A) : Type 0 where
    pub top : Entry A
    pub rest : List (Entry A)
    pub is : h ≡ top ∷ rest
    pub fits : size + top.size ≤ t.max_size
    pub taken : k ≡ take_top address t.limit top (top ∷ rest)

  pub try_gave : (t : Terms) (size : ℕ) (noted : List (Gossip A × ℕ)) (h : List (Entry A)) (k : Taken A) → try_heap address t size noted h ≡ some k → Gave t size h k
  unfolding try_heap
  try_gave t size noted [] k e = none-some e
  try_gave t size noted (x ∷ xs) k e =
      (elim (ltb t.max_size (size + x.size)) as (λ u. ltb t.max_size (size + x.size) ≡ u
      → pick (u || was_noted address x.gossip x.sends noted) none (some (take_top address t.limit x (x ∷ xs))) ≡ some k → Gave t size (x ∷ xs) k) [
        | true ↦ λ q h. none-some h
        | false ↦ λ q.
            elim (was_noted address x.gossip x.sends noted) as (λ u. pick u none (some (take_top address t.limit x (x ∷ xs))) ≡ some k → Gave t size (x ∷ xs) k) [
              | true ↦ λ h. none-some h
              | false ↦ λ h. record { top = x; rest = xs; is = refl; fits = ltb-false _ _ q; taken = cc }
            ]
      ]) refl e

  -- what each taking keeps, all the rounds keep
  module _ (t : Terms) (P : Choice A → Type 0)
      (alive : (c : Choice A) (k : Taken A) → P c → Gave t c.size c.alive k → P (after_alive address c (some k)))
      (deceased : (c : Choice A) (k : Taken A) → P c → Gave t c.size c.deceased k → P (after_deceased address c (some k))) where
    pub after-alive : (c : Choice A) (o : Option (Taken A)) → try_alive address t c ≡ o → P c → P (after_alive address c o)
    unfolding try_alive
    after-alive c none e p = p
    after-alive c (some k) e p = alive c k p (try_gave t c.size c.noted c.alive k e)

    pub after-deceased : (c : Choice A) (o : Option (Taken A)) → try_deceased address t c ≡ o → P c → P (after_deceased address c o)
    unfolding try_deceased
    after-deceased c none e p = p
    after-deceased c (some k) e p = deceased c k p (try_gave t c.size c.noted c.deceased k e)

    pub rounds_keep : (f : ℕ) (c : Choice A) → P c → P (rounds address f t c)
    unfolding rounds
    rounds_keep zero c p = p
    rounds_keep (suc f) c p =
        let a = try_alive address t c in
        let c₁ = after_alive address c a in
        let b = try_deceased address t c₁ in
        let p₁ : P c₁ = after-alive c a refl p in
        let p₂ : P (after_deceased address c₁ b) = after-deceased c₁ b refl p₁ in
        elim (over address t c) as (λ u. P (elim u [
          | true ↦ c
          | false ↦ elim (gave address a || gave address b) [ true ↦ rounds address f t (after_deceased address c₁ b) | false ↦ c ]
        ])) [
          | true ↦ p
          | false ↦ elim (gave address a || gave address b) as (λ u. P (elim u [ true ↦ rounds address f t (after_deceased address c₁ b) | false ↦ c ])) [
            | true ↦ rounds_keep f (after_deceased address c₁ b) p₂
            | false ↦ p
          ]
        ]

  -- an entry that was sent once more and stays below the limit is still sound
  sent-sound : (k : Kind) (limit : ℕ) (e : Entry A) → limit ≤ 23 → leb limit (e.sends + 1) ≡ false → sound_entry address k e ≡ true
      → sound_entry address k (record { gossip = e.gossip; sends = e.sends + 1; size = e.size }) ≡ true
  unfolding sound_entry
  sent-sound k limit e h l s =
      let kind : Bool = of_kind k (parts_of address e.gossip.event).kind && eqb e.size (size_of address e.gossip) in
      let p = and_split (kind && leb e.sends 22) (valid_gossip address e.gossip) s in
      let q = and_split kind (leb e.sends 22) p.0 in
      and_join (and_join q.0 (le-leb (e.sends + 1) 22 (omega (arith, leb-false limit (e.sends + 1) l)))) p.1

  pub taken_good : (k : Kind) (t : Terms) (size : ℕ) (h : List (Entry A)) (x : Taken A) → t.limit ≤ 23 → GoodHeap address k h → Gave t size h x → GoodHeap address k x.heap
  unfolding take_top
  taken_good k t size h x lim g v =
      let e = v.top in
      let es = v.rest in
      let g₁ : GoodHeap address k (e ∷ es) = rw v.is at g in
      let p : 0 < length (e ∷ es) = omega arith in
      rw v.taken
      ((elim (leb t.limit (e.sends + 1)) as (λ u. leb t.limit (e.sends + 1) ≡ u → GoodHeap address k
      (pick u (remove_top unused sends_of (e ∷ es)) (sink_top unused sends_of (e ∷ es) (record { gossip = e.gossip; sends = e.sends + 1; size = e.size })))) [
        | true ↦ λ _. record {
          few = omega (arith, remove_top-length unused sends_of (e ∷ es) p, g₁.few);
          entries = remove_top-every unused sends_of (e ∷ es) p (sound_entry address k) g₁.entries;
          order = remove_top-in_order unused sends_of (e ∷ es) g₁.order p;
        }
        | false ↦ λ l.
            let e' : Entry A = record { gossip = e.gossip; sends = e.sends + 1; size = e.size } in
            record {
              few = omega (arith, sink_top-length unused sends_of (e ∷ es) p e', g₁.few);
              entries = sink_top-every unused sends_of (e ∷ es) p e' (sound_entry address k) g₁.entries (sent-sound k t.limit e lim l (and_split (sound_entry address k e) (every (sound_entry address k) es) g₁.entries).0);
              order = sink_top-in_order unused sends_of (e ∷ es) g₁.order p e';
            }
      ]) refl)

  -- both heaps are good
  pub record GoodHeaps (c : Choice A) : Type 0 where
    pub alive : GoodHeap address kind.Alive c.alive
    pub deceased : GoodHeap address kind.Deceased c.deceased

  pub rounds_good : (t : Terms) (f : ℕ) (c : Choice A) → t.limit ≤ 23 → GoodHeaps c → GoodHeaps (rounds address f t c)
  rounds_good t f c lim g =
      rounds_keep t GoodHeaps
      (λ c₁ k p v. record { alive = taken_good kind.Alive t c₁.size c₁.alive k lim p.alive v; deceased = p.deceased })
      (λ c₁ k p v. record { alive = p.alive; deceased = taken_good kind.Deceased t c₁.size c₁.deceased k lim p.deceased v })
      f c g

  pub choose_good : (t : Terms) (alive deceased : List (Entry A)) → t.limit ≤ 23 → GoodHeap address kind.Alive alive → GoodHeap address kind.Deceased deceased → GoodHeaps (choose address t alive deceased)
  unfolding choose
  choose_good t alive deceased lim g h = rounds_good t 64 (begin address alive deceased) lim (record { alive = g; deceased = h })

  -- each held entry has least bytes at least
  abbrev pub at_least : ℕ → Entry A → Bool
  at_least least e = leb least e.size

  pub taken-least : (least : ℕ) (t : Terms) (size : ℕ) (h : List (Entry A)) (x : Taken A) → every (at_least least) h ≡ true → Gave t size h x
      → (every (at_least least) x.heap ≡ true) × (least ≤ x.size) × (size + x.size ≤ t.max_size)
  unfolding take_top
  taken-least least t size h x g v =
      let e = v.top in
      let es = v.rest in
      let g₁ : every (at_least least) (e ∷ es) ≡ true = rw v.is at g in
      let p : 0 < length (e ∷ es) = omega arith in
      let s : leb least e.size ≡ true = (and_split (at_least least e) (every (at_least least) es) g₁).0 in
      let e' : Entry A = record { gossip = e.gossip; sends = e.sends + 1; size = e.size } in
      rw v.taken (
        elim (leb t.limit (e.sends + 1)) as (λ u. every (at_least least) (pick u (remove_top unused sends_of (e ∷ es)) (sink_top unused sends_of (e ∷ es) e')) ≡ true) [
          | true ↦ remove_top-every unused sends_of (e ∷ es) p (at_least least) g₁
          | false ↦ sink_top-every unused sends_of (e ∷ es) p e' (at_least least) g₁ s
        ],
        leb-true least e.size s,
        v.fits,
      )

  -- the chosen so far: least bytes each, and all within the size
  pub record Within (least : ℕ) (t : Terms) (c : Choice A) : Type 0 where
    pub alive : every (at_least least) c.alive ≡ true
    pub deceased : every (at_least least) c.deceased ≡ true
    pub counted : least * length c.chosen ≤ c.size
    pub fits : c.size ≤ t.max_size

  one_more : (least size more : ℕ) (l : List (Gossip A)) (g : Gossip A) → least * length l ≤ size → least ≤ more → least * length (l ++ (g ∷ [])) ≤ size + more
  one_more least size more l g h k =
      let e : least * length (l ++ (g ∷ [])) ≡ least * length l + least = ap (λ (n : ℕ). least * n) (length-append l (g ∷ [])) ∙ mul_more least (length l) in
      omega (arith, e)
    where
      mul_more : (x y : ℕ) → x * (y + 1) ≡ x * y + x
      mul_more x y = native.Mathlib.Nat.mul-add x y 1 ∙ ap (λ (z : ℕ). x * y + z) (native.Mathlib.Nat.mul-one x)

  module _ (least : ℕ) (t : Terms) where
    alive_within : (c : Choice A) (k : Taken A) → Within least t c → Gave t c.size c.alive k → Within least t (after_alive address c (some k))
    alive_within c k p v =
        let r = taken-least least t c.size c.alive k p.alive v in
        record { alive = r.0; deceased = p.deceased; counted = one_more least c.size k.size c.chosen k.gossip p.counted r.1; fits = r.2 }

    deceased_within : (c : Choice A) (k : Taken A) → Within least t c → Gave t c.size c.deceased k → Within least t (after_deceased address c (some k))
    deceased_within c k p v =
        let r = taken-least least t c.size c.deceased k p.deceased v in
        record { alive = p.alive; deceased = r.0; counted = one_more least c.size k.size c.chosen k.gossip p.counted r.1; fits = r.2 }

    pub rounds_within : (f : ℕ) (c : Choice A) → Within least t c → Within least t (rounds address f t c)
    rounds_within = rounds_keep t (Within least t) alive_within deceased_within

    -- a round that goes on takes one at least
    longer : (c : Choice A) (a b : Option (Taken A)) → (gave address a || gave address b) ≡ true → length c.chosen < length (after_deceased address (after_alive address c a) b).chosen
    longer c none none e = let z : ◌≡◌ {A = ℕ} 0 1 = cc in absurd (omega arith)
    longer c none (some k) e = omega (arith, length-append c.chosen (k.gossip ∷ []))
    longer c (some j) none e = omega (arith, length-append c.chosen (j.gossip ∷ []))
    longer c (some j) (some k) e = omega (arith, length-append (c.chosen ++ (j.gossip ∷ [])) (k.gossip ∷ []), length-append c.chosen (j.gossip ∷ []))

    -- a round, by whether it is over and whether a heap gave one
    abbrev turn : Choice A → Choice A → Bool → Bool → Choice A
    turn c next u v = elim u [ true ↦ c | false ↦ elim v [ true ↦ next | false ↦ c ] ]

    -- where nothing within the size has more than k records, k rounds are enough: more of them give the same
    module _ (k : ℕ) (few : (c : Choice A) → Within least t c → length c.chosen ≤ k) where
      -- with k records no heap gives one more
      full : (g : ℕ) (c : Choice A) → Within least t c → k ≤ length c.chosen → rounds address g t c ≡ c
      unfolding rounds
      full zero c w h = refl
      full (suc g) c w h =
          let a = try_alive address t c in
          let c₁ = after_alive address c a in
          let b = try_deceased address t c₁ in
          let c₂ = after_deceased address c₁ b in
          let w₂ : Within least t c₂ = after-deceased t (Within least t) alive_within deceased_within c₁ b refl (after-alive t (Within least t) alive_within deceased_within c a refl w) in
          elim (over address t c) as (λ u. turn c (rounds address g t c₂) u (gave address a || gave address b) ≡ c) [
            | true ↦ refl
            | false ↦
                (elim (gave address a || gave address b) as (λ v. (gave address a || gave address b) ≡ v → turn c (rounds address g t c₂) false v ≡ c) [
                  | true ↦ λ e. absurd (omega (arith, longer c a b e, few c₂ w₂))
                  | false ↦ λ e. refl
                ]) refl
          ]

      pub rounds_enough : (f g : ℕ) (c : Choice A) → Within least t c → k ≤ length c.chosen + f → f ≤ g → rounds address g t c ≡ rounds address f t c
      unfolding rounds
      rounds_enough zero g c w h l = full g c w (omega arith)
      rounds_enough (suc f) zero c w h l = absurd (omega arith)
      rounds_enough (suc f) (suc g) c w h l =
          let a = try_alive address t c in
          let c₁ = after_alive address c a in
          let b = try_deceased address t c₁ in
          let c₂ = after_deceased address c₁ b in
          let w₂ : Within least t c₂ = after-deceased t (Within least t) alive_within deceased_within c₁ b refl (after-alive t (Within least t) alive_within deceased_within c a refl w) in
          elim (over address t c) as (λ u. turn c (rounds address g t c₂) u (gave address a || gave address b) ≡ turn c (rounds address f t c₂) u (gave address a || gave address b)) [
            | true ↦ refl
            | false ↦
                (elim (gave address a || gave address b) as (λ v. (gave address a || gave address b) ≡ v → turn c (rounds address g t c₂) false v ≡ turn c (rounds address f t c₂) false v) [
                  | true ↦ λ e. rounds_enough f g c₂ w₂ (omega (arith, longer c a b e)) (omega arith)
                  | false ↦ λ e. refl
                ]) refl
          ]

  -- count × least size ≤ max_size, whatever the least size is
  pub chosen_fit : (least : ℕ) (t : Terms) (alive deceased : List (Entry A)) → every (at_least least) alive ≡ true → every (at_least least) deceased ≡ true
      → least * length (choose address t alive deceased).chosen ≤ t.max_size
  unfolding choose
  chosen_fit least t alive deceased p q =
      let w = rounds_within least t 64 (begin address alive deceased) (record { alive = p; deceased = q; counted = omega arith; fits = omega arith }) in
      omega (arith, w.counted, w.fits)
