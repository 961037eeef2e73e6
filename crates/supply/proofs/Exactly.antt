-- The number of steps is exact: with one record a message and no deaths held, nothing leaves before each entry but the last send of each was sent. So of 128 that were never sent none leaves
-- for 128 × (limit − 1) steps, and the next one frees a place.
-- Assumes nothing.
use Rattle.std.specs.Prelude.{◌≡◌, Bool, ◌&&◌, ◌||◌, get_or}
use Rattle.std.proofs.Math.Path.{refl, ap, subst}
use Rattle.std.proofs.Common.{sym, ◌∙◌, arith, suc-mul, le_refl, leb-true, le-leb, le-ltb}
use Rattle.std.proofs.Math.Bool.{true, false}
use mathlib.Core.List.{List, [], ◌∷◌}
use Rattle.std.proofs.Math.Option.{Option, none, some}
use Prim.Native.Nat.{ℕ, zero, suc, ◌+◌, ◌-◌, ◌*◌, ◌≤◌, ◌<◌, max}
use Rattle.std.proofs.Math.ListN.{length, take}
use Rattle.std.proofs.Math.Dec.{leb}
use Rattle.std.proofs.lemmas.Bool.{lt-leb}
use Rattle.model.specs.declared.Settings.{Settings}
use Rattle.model.specs.declared.Kind.TheVariants as kind
use Rattle.model.specs.Rows.{pick, every, is_empty}
use Rattle.model.specs.Words.{Address, Lawful, Entry, unused, sends_of}
use Rattle.model.specs.Limit.{limit_of}
use Rattle.model.specs.Heap.{parent, rank, stands_in_order, sink_top, remove_top}
use Rattle.model.specs.Choose.{Terms, terms_of, Choice, Taken, was_noted, take_top, try_heap, try_alive, try_deceased, after_alive, after_deceased, over, rounds, begin, choose}
use Rattle.model.specs.Node.{Node, Disseminator, Stored, loaded, stored, spread}
use Rattle.model.specs.Sound.{sound}
use Rattle.model.specs.Calls.{StepOutcome}
use Rattle.laws.specs.Bools.{and_split, and_join}
use Rattle.laws_heap.specs.HeapSwaps.{by}
use Rattle.laws_heap.specs.HeapOrder.{Ordered}
use Rattle.laws_heap.specs.HeapTests.{in_order}
use Rattle.laws_heap.specs.HeapLaws.{sink_top-length}
use Rattle.laws_choose.specs.ChooseLaws.{Gave}
use Rattle.laws_node.specs.Good.{Good, FullRows, sound_good, stored_loaded}
use Rattle.supply.proofs.Lending.{listed_is}
use Rattle.supply.specs.Owed.{owed, turn}
use Rattle.supply.proofs.Owed.{taking_pays, entries_fit}
use Rattle.supply.specs.Drains.{limit_at}
use Rattle.supply.proofs.Drains.{used-of, least_size_of}
use Rattle.supply.specs.Remedy.{Turn, ReadyAll, after}
use Rattle.supply.proofs.Remedy.{turn-kept}
use Rattle.supply.specs.Exactly.{Slow}

-- the top was sent least often
top_least : (K : ℕ → ℕ) (len : ℕ) → Ordered K len → (n i : ℕ) → i ≤ n → i < len → K 0 ≤ K i
unfolding Ordered
top_least K len o zero i h l = let z : i ≡ 0 = omega arith in omega (arith, ap K z)
top_least K len o (suc n) i h l =
    by i 0 (λ z. omega (arith, ap K z)) (λ z. omega (arith, o i (omega arith) l, top_least K len o n (parent i) (omega arith) (omega arith)))

or_true : (u : Bool) → (u || true) ≡ true
or_true true = refl
or_true false = refl

module _ {A : Type 0} where
  -- each entry is before its last send
  owed-last : (limit : ℕ) (h : List (Entry A)) → ((i : ℕ) → i < length h → limit ≤ sends_of (get_or h i unused) + 1) → owed limit h ≡ length h
  owed-last limit [] f = refl
  owed-last limit (x ∷ h) f = omega (arith, f 0 (omega arith), owed-last limit h (λ i l. f (suc i) (omega arith)))

  -- the top leaves: so all others are before their last send
  leaves_last : (limit : ℕ) (e : Entry A) (es : List (Entry A)) → stands_in_order unused sends_of (e ∷ es) (length (e ∷ es)) ≡ true → limit ≤ e.sends + 1 → owed limit (e ∷ es) ≡ length (e ∷ es)
  leaves_last limit e es o h =
      owed-last limit (e ∷ es)
      (λ i l. omega (arith, h, top_least (rank unused sends_of (e ∷ es)) (length (e ∷ es)) (in_order unused sends_of (e ∷ es) (length (e ∷ es)) o) i i (le_refl i) l))

  -- never sent yet
  pub owed-unsent : (limit : ℕ) (h : List (Entry A)) → every (λ (e : Entry A). leb e.sends 0) h ≡ true → owed limit h ≡ length h * max 1 limit
  owed-unsent limit [] u = omega arith
  owed-unsent limit (e ∷ h) u =
      let p = and_split (leb e.sends 0) (every (λ (x : Entry A). leb x.sends 0) h) u in
      omega (arith, suc-mul (length h) (max 1 limit), owed-unsent limit h p.1, leb-true e.sends 0 p.0)

module _ {A : Type 0} (address : Address A) where
  stops : (t : Terms) (f : ℕ) (c : Choice A) → over address t c ≡ true → rounds address (suc f) t c ≡ c
  unfolding rounds
  stops t f c o = subst (λ (u : Bool). turn address t f c u (try_alive address t c) ≡ c) (sym o) refl

  one_round : (t : Terms) (f : ℕ) (c : Choice A) (k : Taken A) → over address t c ≡ false → try_alive address t c ≡ some k
      → try_deceased address t (after_alive address c (some k)) ≡ none → over address t (after_alive address c (some k)) ≡ true → rounds address (suc (suc f)) t c ≡ after_alive address c (some k)
  unfolding rounds
  one_round t f c k o a b o₂ =
      let c₁ = after_alive address c (some k) in
      subst (λ (u : Bool). turn address t (suc f) c u (try_alive address t c) ≡ c₁) (sym o)
      (subst (λ (x : Option (Taken A)). turn address t (suc f) c false x ≡ c₁) (sym a)
      (ap (λ (y : Option (Taken A)). rounds address (suc f) t (after_deceased address c₁ y)) b ∙ stops t f c₁ o₂))

  -- one share for the alive, none for the dead, and no deaths held: one is taken
  one-taken : (t : Terms) (e : Entry A) (es : List (Entry A)) → e.size ≤ t.max_size → t.alive_share ≡ 1 → t.deceased_share ≡ 0
      → choose address t (e ∷ es) [] ≡ after_alive address (begin address (e ∷ es) []) (some (take_top address t.limit e (e ∷ es)))
  unfolding choose over try_alive try_deceased try_heap was_noted
  one-taken t e es h a d =
      let k = take_top address t.limit e (e ∷ es) in
      one_round t 62 (begin address (e ∷ es) []) k
      (ap (λ (u : Bool). u && leb t.deceased_share 0) (lt-leb t.alive_share 0 (omega arith)))
      (ap (λ (u : Bool). pick (u || false) none (some k)) (le-ltb t.max_size (0 + e.size) (omega arith)))
      refl
      (ap (λ (u : Bool). (is_empty k.heap && true) || u) (and_join (le-leb t.alive_share 1 (omega arith)) (le-leb t.deceased_share 0 (omega arith))) ∙ or_true (is_empty k.heap && true))

  kept-long : (limit : ℕ) (e : Entry A) (es : List (Entry A)) → stands_in_order unused sends_of (e ∷ es) (length (e ∷ es)) ≡ true → length (e ∷ es) < owed limit (e ∷ es)
      → length (take_top address limit e (e ∷ es)).heap ≡ length (e ∷ es)
  unfolding take_top
  kept-long limit e es o l =
      let e' : Entry A = record { gossip = e.gossip; sends = e.sends + 1; size = e.size } in
      (elim (leb limit (e.sends + 1)) as (λ u. leb limit (e.sends + 1) ≡ u
      → length (pick u (remove_top unused sends_of (e ∷ es)) (sink_top unused sends_of (e ∷ es) e')) ≡ length (e ∷ es)) [
        | true ↦ λ q. absurd (omega (arith, leaves_last limit e es o (leb-true limit (e.sends + 1) q)))
        | false ↦ λ q. sink_top-length unused sends_of (e ∷ es) (omega arith) e'
      ]) refl

  slow : (t : Terms) (alive : List (Entry A)) → stands_in_order unused sends_of alive (length alive) ≡ true → every (λ (e : Entry A). leb e.size t.max_size) alive ≡ true
      → t.alive_share ≡ 1 → t.deceased_share ≡ 0 → length alive < owed t.limit alive
      → (Slow address) t.limit alive (choose address t alive []).alive (choose address t alive []).deceased
  slow t [] o h a d l = absurd (omega arith)
  slow t (e ∷ es) o h a d l =
      let fit : e.size ≤ t.max_size = leb-true e.size t.max_size (and_split (leb e.size t.max_size) (every (λ (x : Entry A). leb x.size t.max_size) es) h).0 in
      let k = take_top address t.limit e (e ∷ es) in
      let gave : Gave address t 0 (e ∷ es) k = record { top = e; rest = es; is = refl; fits = omega arith; taken = refl } in
      rw (one-taken t e es fit a d) (record { long = kept-long t.limit e es o l; paid = (taking_pays address t 0 (e ∷ es) k gave).one_paid; none-dead = refl })

  module _ (lawful : Lawful address) (texts : (a : A) → address.valid a ≡ true → address.chars a ≤ 47) where
    slow_spread : (s : Node A) → Good address s → s.settings.max_selected ≡ 1 → s.disseminator.deceased ≡ [] → length s.disseminator.alive < owed (limit_at address s) s.disseminator.alive
        → (Slow address) (limit_at address s) s.disseminator.alive (spread address s).node.disseminator.alive (spread address s).node.disseminator.deceased
    unfolding spread terms_of
    slow_spread s g m d l =
        let t : Terms = terms_of s.settings.max_selected s.settings.max_size (limit_at address s) in
        subst (λ (h : List (Entry A)). (Slow address) (limit_at address s) s.disseminator.alive (choose address t s.disseminator.alive h).alive (choose address t s.disseminator.alive h).deceased) (sym d)
        (slow t s.disseminator.alive (g.heaps kind.Alive).order
        (entries_fit address texts kind.Alive s.settings.max_size s.disseminator.alive (least_size_of s.settings g.settings) (g.heaps kind.Alive).entries)
        (omega arith) (omega arith) l)

    stays-full : (ts : List Turn) (x : Node A) → Good address x → ReadyAll x.settings (length x.members.table) ts → x.settings.max_selected ≡ 1 → x.disseminator.deceased ≡ []
        → length x.disseminator.alive + length ts ≤ owed (limit_at address x) x.disseminator.alive → (after address ts (stored address x)).alive.used ≡ length x.disseminator.alive
    stays-full [] x g r m d b = used-of address x
    stays-full (t ∷ ts) x g r m d b =
        let k = turn-kept address lawful texts x t g r.0 in
        let y = k.gave.effect.node in
        let same-limit : limit_at address y ≡ limit_at address x =
        ap (λ (n : ℕ). limit_of n y.settings.send_constant) k.drained.listed ∙ ap (λ (c : Settings). limit_of (length x.members.table) c.send_constant) k.keeps.settings in
        let ready : ReadyAll y.settings (length y.members.table) ts =
        subst (λ (c : Settings). ReadyAll c (length y.members.table) ts) (sym k.keeps.settings) (subst (λ (n : ℕ). ReadyAll x.settings n ts) (sym k.drained.listed) r.1) in
        let z : (Slow address) (limit_at address x) x.disseminator.alive y.disseminator.alive y.disseminator.deceased =
        subst (λ (h : Disseminator A). (Slow address) (limit_at address x) x.disseminator.alive h.alive h.deceased) (sym k.drained.spreads) (slow_spread x g m d (omega arith)) in
        let left : length y.disseminator.alive + length ts ≤ owed (limit_at address y) y.disseminator.alive =
        subst (λ (n : ℕ). length y.disseminator.alive + length ts ≤ owed n y.disseminator.alive) (sym same-limit) (omega (arith, z.paid, z.long)) in
        subst (λ (o : StepOutcome A). (after address ts o.outcome.node).alive.used ≡ length x.disseminator.alive) (sym k.is)
        (stays-full ts y k.keeps.good ready (ap (λ (c : Settings). c.max_selected) k.keeps.settings ∙ m) z.none-dead left ∙ z.long)

    -- of a sound node: 128 that were never sent, one record a message, no deaths held
    pub full_until : (s : Stored A) (ts : List Turn) → FullRows s → sound address s ≡ true → ReadyAll s.settings s.listed ts → s.settings.max_selected ≡ 1 → s.deceased.used ≡ 0
        → length (loaded s).disseminator.alive ≡ 128 → every (λ (e : Entry A). leb e.sends 0) (loaded s).disseminator.alive ≡ true
        → length ts ≤ 128 * (max 1 (limit_of s.listed s.settings.send_constant) - 1) → (after address ts s).alive.used ≡ 128
    unfolding loaded
    full_until s ts f p r m d l u b =
        let x = loaded s in
        let n : length x.members.table ≡ s.listed = listed_is address lawful s f p in
        let limit : limit_at address x ≡ limit_of s.listed s.settings.send_constant = ap (λ (k : ℕ). limit_of k s.settings.send_constant) n in
        let e : stored address x ≡ s = stored_loaded address lawful s f p in
        let dead : x.disseminator.deceased ≡ [] = ap (λ (k : ℕ). take k s.deceased.places) d in
        let sum : owed (limit_at address x) x.disseminator.alive ≡ 128 * max 1 (limit_at address x) =
        owed-unsent (limit_at address x) x.disseminator.alive u ∙ ap (λ (k : ℕ). k * max 1 (limit_at address x)) l in
        subst (λ (y : Stored A). (after address ts y).alive.used ≡ 128) e
        (stays-full ts x (sound_good address lawful s f p) (subst (λ (k : ℕ). ReadyAll s.settings k ts) (sym n) r) m dead (omega (arith, sum, limit, l)) ∙ l)
