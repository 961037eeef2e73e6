-- A SOUND NODE, in plain words: numbers and comparisons instead of the test's own clauses. Of every node whose rows are as long as their arrays, both ways.
-- Assumes nothing.
use Rattle.std.specs.Prelude.{◌≡◌, refl, ◌↔◌, Bool, true, false, List, [], ◌∷◌, ℕ, zero, suc, ◌-◌, ◌/◌, ◌<◌, ltb, leb, length, get_or}
use Rattle.std.proofs.Common.{ap, sym, ◌∙◌, subst, arith, ltb-true, ltb-false, lt-ltb, leb-true, le-leb, eqb-true, eq-eqb}
use Rattle.std.proofs.lemmas.Bool.{false≢true}
use Rattle.model.specs.declared.Settings.{Settings}
use Rattle.model.specs.declared.Kind.{Kind}
use Rattle.model.specs.declared.Kind.TheVariants as kind
use Rattle.model.specs.Rows.{every}
use Rattle.model.specs.Words as W
use Rattle.model.specs.Size.{size_of}
use Rattle.model.specs.Heap.{all_below}
use Rattle.model.specs.Members.{addrs}
use Rattle.model.specs.Node as M
use Rattle.model.specs.Sound.{in_range, of_kind, valid_gossip, sound_entry, sound}
use Rattle.laws.specs.Bools.{and_split, and_join}
use Rattle.laws_choose.specs.GoodHeap.{GoodHeap}
use Rattle.laws_node.specs.Good.{Good, FullRows, good_sound, sound_good, stored_loaded}
use Rattle.address.specs.Here.{Addr, here, here_lawful}
use Rattle.history.specs.Tells.{At}
use Rattle.plain_promises.specs.SoundNode.{SettingsFit, HeldIn, EntryFits, HeapFits, NodeFits, RowsFit, joined, recovered, suspected, deceased}

-- ---- a test of every element, place by place
every-at : {B : Type 0} (f : B → Bool) (l : List B) → every f l ≡ true → (i : ℕ) (x : B) → At l i x → f x ≡ true
every-at f [] e i x p = elim p [ ]
every-at f (y ∷ l) e zero x p = ap f (sym p) ∙ (and_split (f y) (every f l) e).0
every-at f (y ∷ l) e (suc i) x p = every-at f l (and_split (f y) (every f l) e).1 i x p

at_every : {B : Type 0} (f : B → Bool) (l : List B) → ((i : ℕ) (x : B) → At l i x → f x ≡ true) → every f l ≡ true
at_every f [] h = refl
at_every f (y ∷ l) h = and_join (h zero y refl) (at_every f l (λ i x p. h (suc i) x p))

below_at : (f : ℕ → Bool) (n : ℕ) → all_below f n ≡ true → (i : ℕ) → i < n → f i ≡ true
unfolding all_below
below_at f zero e i h = absurd (omega (arith, h))
below_at f (suc n) e i h =
    let q = and_split (all_below f n) (f n) e in
    (elim (ltb i n) as (λ u. ltb i n ≡ u → f i ≡ true) [
      | true ↦ λ t. below_at f n q.0 i (ltb-true i n t)
      | false ↦ λ t. let l = ltb-false i n t in let same : i ≡ n = omega (arith, h, l) in ap f same ∙ q.1
    ]) refl

at_below : (f : ℕ → Bool) (n : ℕ) → ((i : ℕ) → i < n → f i ≡ true) → all_below f n ≡ true
unfolding all_below
at_below f zero h = refl
at_below f (suc n) h = and_join (at_below f n (λ i b. h i (omega (arith, b)))) (h n (omega arith))

-- ---- the settings
settings_fit : (c : Settings) → in_range c ≡ true → SettingsFit c
unfolding in_range
settings_fit c e =
    let p₁ = and_split _ _ e in
    let p₂ = and_split _ _ p₁.0 in
    let p₃ = and_split _ _ p₂.0 in
    let p₄ = and_split _ _ p₃.0 in
    let p₅ = and_split _ _ p₄.0 in
    let p₆ = and_split _ _ p₅.0 in
    let p₇ = and_split _ _ p₆.0 in
    let p₈ = and_split _ _ p₇.0 in
    let p₉ = and_split _ _ p₈.0 in
    record {
      interval = ltb-true _ _ p₉.0;
      ack = ltb-true _ _ p₉.1;
      request = ltb-true _ _ p₈.1;
      suspect = ltb-true _ _ p₇.1;
      group = leb-true _ _ p₆.1;
      constant = leb-true _ _ p₅.1;
      some = leb-true _ _ p₄.1;
      selected = leb-true _ _ p₃.1;
      least = leb-true _ _ p₂.1;
      most = leb-true _ _ p₁.1;
    }

in-range : (c : Settings) → SettingsFit c → in_range c ≡ true
unfolding in_range
in-range c f =
    and_join
    (and_join
    (and_join
    (and_join
    (and_join
    (and_join
    (and_join
    (and_join
    (and_join (lt-ltb _ _ f.interval) (lt-ltb _ _ f.ack))
    (lt-ltb _ _ f.request))
    (lt-ltb _ _ f.suspect))
    (le-leb _ _ f.group))
    (le-leb _ _ f.constant))
    (le-leb _ _ f.some))
    (le-leb _ _ f.selected))
    (le-leb _ _ f.least))
    (le-leb _ _ f.most)

-- ---- the heaps
held_in : (k : Kind) (e : W.Event Addr) → of_kind k (W.parts_of here e).kind ≡ true → valid_gossip here (record { event = e }) ≡ true → HeldIn k e
unfolding W.parts_of valid_gossip
held_in kind.Alive W.Nothing p q = absurd (false≢true p)
held_in kind.Alive (W.Joined f a n) p q = let v = and_split (here.valid f) (here.valid a) q in joined f a n v.0 v.1
held_in kind.Alive (W.Recovered f a n) p q = let v = and_split (here.valid f) (here.valid a) q in recovered f a n v.0 v.1
held_in kind.Alive (W.Suspected f a n) p q = let v = and_split (here.valid f) (here.valid a) q in suspected f a n v.0 v.1
held_in kind.Alive (W.Deceased f a n) p q = absurd (false≢true p)
held_in kind.Deceased W.Nothing p q = absurd (false≢true p)
held_in kind.Deceased (W.Joined f a n) p q = absurd (false≢true p)
held_in kind.Deceased (W.Recovered f a n) p q = absurd (false≢true p)
held_in kind.Deceased (W.Suspected f a n) p q = absurd (false≢true p)
held_in kind.Deceased (W.Deceased f a n) p q = let v = and_split (here.valid f) (here.valid a) q in deceased f a n v.0 v.1

is_held : (k : Kind) (e : W.Event Addr) → HeldIn k e → (of_kind k (W.parts_of here e).kind ≡ true) × (valid_gossip here (record { event = e }) ≡ true)
unfolding W.parts_of valid_gossip
is_held _ _ (joined f a n p q) = (refl, and_join p q)
is_held _ _ (recovered f a n p q) = (refl, and_join p q)
is_held _ _ (suspected f a n p q) = (refl, and_join p q)
is_held _ _ (deceased f a n p q) = (refl, and_join p q)

entry_fits : (k : Kind) (e : W.Entry Addr) → sound_entry here k e ≡ true → EntryFits k e
unfolding sound_entry
entry_fits k e t =
    let p₁ = and_split _ _ t in
    let p₂ = and_split _ _ p₁.0 in
    let p₃ = and_split _ _ p₂.0 in
    record { event = held_in k e.gossip.event p₃.0 p₁.1; size = eqb-true _ _ p₃.1; sends = leb-true _ _ p₂.1 }

fits_entry : (k : Kind) (e : W.Entry Addr) → EntryFits k e → sound_entry here k e ≡ true
unfolding sound_entry
fits_entry k e f =
    let h = is_held k e.gossip.event f.event in
    and_join (and_join (and_join h.0 (eq-eqb e.size (size_of here e.gossip) f.size)) (le-leb e.sends 22 f.sends)) h.1

abbrev in_place : List (W.Entry Addr) → ℕ → Bool
in_place h i = leb (get_or h ((i - 1) / 2) W.unused).sends (get_or h i W.unused).sends

heap_fits : (k : Kind) (h : List (W.Entry Addr)) → GoodHeap here k h → HeapFits k h
heap_fits k h g =
    record {
      few = g.few;
      entries = λ i e p. entry_fits k e (every-at (sound_entry here k) h g.entries i e p);
      order = λ i l. leb-true _ _ (below_at (in_place h) (length h) g.order i l);
    }

fits_heap : (k : Kind) (h : List (W.Entry Addr)) → HeapFits k h → GoodHeap here k h
fits_heap k h f =
    record {
      few = f.few;
      entries = at_every (sound_entry here k) h (λ i e p. fits_entry k e (f.entries i e p));
      order = at_below (in_place h) (length h) (λ i l. le-leb _ _ (f.order i l));
    }

-- ---- the node
node_fits : (s : M.Node Addr) → Good here s → NodeFits s
node_fits s g =
    record {
      settings = settings_fit s.settings g.settings;
      own = g.own;
      whole = g.whole;
      valid = every-at here.valid (addrs s.members.table) g.valid;
      alive = heap_fits kind.Alive s.disseminator.alive (g.heaps kind.Alive);
      deceased = heap_fits kind.Deceased s.disseminator.deceased (g.heaps kind.Deceased);
      few = g.few;
      timers = every-at (λ (t : W.Timer Addr). here.valid t.addr) s.timers g.timers;
      departed = g.departed;
    }

fits_node : (s : M.Node Addr) → NodeFits s → Good here s
fits_node s f =
    record {
      settings = in-range s.settings f.settings;
      own = f.own;
      whole = f.whole;
      valid = at_every here.valid (addrs s.members.table) f.valid;
      heaps = λ k.
          elim k as (λ j. GoodHeap here j (M.heap_of j s.disseminator)) [
            | kind.Alive ↦ fits_heap kind.Alive s.disseminator.alive f.alive
            | kind.Deceased ↦ fits_heap kind.Deceased s.disseminator.deceased f.deceased
          ];
      few = f.few;
      timers = at_every (λ (t : W.Timer Addr). here.valid t.addr) s.timers f.timers;
      departed = f.departed;
    }

-- THE TEST, exactly
pub sound_plainly : (s : M.Stored Addr) → FullRows s → (sound here s ≡ true) ↔ RowsFit s
sound_plainly s full = (
  (λ e. record { node = node_fits (M.loaded s) (sound_good here here_lawful s full e); rows = stored_loaded here here_lawful s full e }),
  (λ f. subst (λ (x : M.Stored Addr). sound here x ≡ true) f.rows (good_sound here here_lawful (M.loaded s) (fits_node (M.loaded s) f.node))),
)

-- refusal 2 is given where it fails
pub unsound_plainly : (s : M.Stored Addr) → FullRows s → (sound here s ≡ false) ↔ (RowsFit s → ⊥)
unsound_plainly s full = ((λ e f. absurd (false≢true (sym e ∙ (sound_plainly s full).1 f))), (λ h. by (sound here s) refl h))
  where
    by : (u : Bool) → sound here s ≡ u → (RowsFit s → ⊥) → u ≡ false
    by true e h = absurd (h ((sound_plainly s full).0 e))
    by false e h = refl
