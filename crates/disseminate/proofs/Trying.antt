-- One try at a heap, and one round: what each way out says, and what every try keeps.
-- Assumes nothing.
use mathlib.Core.Path.{◌≡◌, refl, sym, ◌∙◌, ap}
use mathlib.Core.Bool.{Bool, true, false, ◌&&◌, ◌||◌}
use mathlib.Core.List.{List, [], ◌∷◌, ◌++◌}
use mathlib.Core.Option.{Option, none, some}
use Prim.Native.Nat.{ℕ, suc, ◌+◌, ◌≤◌}
use native.Mathlib.Omega.{arith}
use lib.Dec.{eqb, leb, ltb}
use lib.ListN.{length, length-append}
use borrow.Author.Tests.{ne_eqb, leb-true, eqb-true}
use Rattle.model.specs.Rows.{pick, one, is_empty, every}
use Rattle.address.specs.Here.{Addr, here}
use Rattle.model.specs.Words as W
use Rattle.model.specs.Words.{parts_of}
use Rattle.model.specs.Size.{size_of}
use Rattle.laws.specs.Bools.{and_split}
use Rattle.model.specs.Choose.{Terms, Choice, Taken, was_noted, take_top, try_heap, try_alive, try_deceased, after_alive, after_deceased, gave, over, rounds}
use Rattle.laws_choose.specs.ChooseLaws.{Gave, after-alive, after-deceased, taken_good, taken-least}
use Rattle.model.specs.Sound.{of_kind, valid_gossip, sound_entry}
use Rattle.model.specs.declared.Kind.{Kind}
use Rattle.model.specs.declared.Kind.TheVariants as kind
use Rattle.types.specs.SizeLaws.{size_over-here}
use Rattle.disseminate.specs.Views.{Kept}

-- the ways out of a try at a heap
module _ (t : Terms) (size : ℕ) (noted : List (W.Gossip Addr × ℕ)) where
  pub try_empty : (h : List (W.Entry Addr)) → length h ≡ 0 → try_heap here t size noted h ≡ none
  unfolding try_heap
  try_empty [] e = refl
  try_empty (x ∷ h) e = absurd (omega arith)

  module _ (h : List (W.Entry Addr)) (e : W.Entry Addr) (es : List (W.Entry Addr)) (is : h ≡ e ∷ es) where
    abbrev pub bar : Bool
    bar = ltb t.max_size (size + e.size) || was_noted here e.gossip e.sends noted

    pub try_barred : bar ≡ true → try_heap here t size noted h ≡ none
    unfolding try_heap
    try_barred b = ap (try_heap here t size noted) is ∙ ap (λ (u : Bool). pick u none (some (take_top here t.limit e (e ∷ es)))) b

    pub try_takes : bar ≡ false → try_heap here t size noted h ≡ some (take_top here t.limit e h)
    unfolding try_heap
    try_takes b =
        ap (try_heap here t size noted) is
        ∙ ap (λ (u : Bool). pick u none (some (take_top here t.limit e (e ∷ es)))) b
        ∙ ap (λ (l : List (W.Entry Addr)). some (take_top here t.limit e l)) (sym is)

-- every try keeps what holds of a choosing
module _ (t : Terms) (limited : t.limit ≤ 23) where
  living-more : (c : Choice Addr) (k : Taken Addr) → Kept t c → Gave here t c.size c.alive k → Kept t (after_alive here c (some k))
  living-more c k p v =
      let r = taken-least here 18 t c.size c.alive k p.within.alive v in
      let l = length-append c.chosen (k.gossip ∷ []) in
      record {
        heaps = record { alive = taken_good here kind.Alive t c.size c.alive k limited p.heaps.alive v; deceased = p.heaps.deceased };
        within = record {
          alive = r.0;
          deceased = p.within.deceased;
          counted = omega (arith, l, p.within.counted, r.1);
          fits = r.2;
        };
        living = omega (arith, l, p.living);
        dead = omega (arith, l, p.dead);
      }

  dead-more : (c : Choice Addr) (k : Taken Addr) → Kept t c → Gave here t c.size c.deceased k → Kept t (after_deceased here c (some k))
  dead-more c k p v =
      let r = taken-least here 18 t c.size c.deceased k p.within.deceased v in
      let l = length-append c.chosen (k.gossip ∷ []) in
      record {
        heaps = record { alive = p.heaps.alive; deceased = taken_good here kind.Deceased t c.size c.deceased k limited p.heaps.deceased v };
        within = record {
          alive = p.within.alive;
          deceased = r.0;
          counted = omega (arith, l, p.within.counted, r.1);
          fits = r.2;
        };
        living = omega (arith, l, p.living);
        dead = omega (arith, l, p.dead);
      }

  pub kept-alive : (c : Choice Addr) (o : Option (Taken Addr)) → try_alive here t c ≡ o → Kept t c → Kept t (after_alive here c o)
  kept-alive = after-alive here t (Kept t) living-more dead-more

  pub kept-deceased : (c : Choice Addr) (o : Option (Taken Addr)) → try_deceased here t c ≡ o → Kept t c → Kept t (after_deceased here c o)
  kept-deceased = after-deceased here t (Kept t) living-more dead-more

-- no entry is held where both heaps are empty
pub held_none : (l m : List (W.Entry Addr)) → (is_empty l && is_empty m) ≡ eqb (length l + length m) 0
held_none [] [] = refl
held_none [] (y ∷ m) = sym (ne_eqb (0 + length (y ∷ m)) 0 (λ e. omega arith))
held_none (x ∷ l) m = sym (ne_eqb (length (x ∷ l) + length m) 0 (λ e. omega arith))

-- one round
module _ (t : Terms) (m : Choice Addr) where
  abbrev pub first : Option (Taken Addr)
  first = try_alive here t m

  abbrev pub between : Choice Addr
  between = after_alive here m first

  abbrev pub second : Option (Taken Addr)
  second = try_deceased here t between

  abbrev pub turned : Choice Addr
  turned = after_deceased here between second

  taken-by : (a b : Option (Taken Addr)) → length (after_deceased here (after_alive here m a) b).chosen ≡ length m.chosen + one (gave here a) + one (gave here b)
  taken-by none none = omega arith
  taken-by none (some k) = omega (arith, length-append m.chosen (k.gossip ∷ []))
  taken-by (some j) none = omega (arith, length-append m.chosen (j.gossip ∷ []))
  taken-by (some j) (some k) =
      omega (arith, length-append (m.chosen ++ (j.gossip ∷ [])) (k.gossip ∷ []), length-append m.chosen (j.gossip ∷ []))

  neither : (u v : Bool) → one u ≡ 0 → one v ≡ 0 → (u || v) ≡ false
  neither false false p q = refl
  neither false true p q = absurd (omega arith)
  neither true v p q = absurd (omega arith)

  either : (u v : Bool) → (one u + one v ≡ 0 → ⊥) → (u || v) ≡ true
  either false false p = absurd (p refl)
  either false true p = refl
  either true v p = refl

  abbrev step : ℕ → Bool → Bool → Choice Addr
  step f u v = elim u [ true ↦ m | false ↦ elim v [ true ↦ rounds here f t turned | false ↦ m ] ]

  stepped : (f : ℕ) (u v : Bool) → over here t m ≡ u → (gave here first || gave here second) ≡ v → rounds here (suc f) t m ≡ step f u v
  unfolding rounds
  stepped f u v p q = ap (λ (x : Bool). step f x (gave here first || gave here second)) p ∙ ap (step f u) q

  pub rounds-over : (f : ℕ) → over here t m ≡ true → rounds here (suc f) t m ≡ m
  rounds-over f p = stepped f true (gave here first || gave here second) p refl

  -- where as many are chosen as before, neither heap gave one
  unturned : (a b : Option (Taken Addr)) → length (after_deceased here (after_alive here m a) b).chosen ≡ length m.chosen → m ≡ after_deceased here (after_alive here m a) b
  unturned none none e = refl
  unturned none (some k) e = absurd (omega (arith, taken-by none (some k)))
  unturned (some j) none e = absurd (omega (arith, taken-by (some j) none))
  unturned (some j) (some k) e = absurd (omega (arith, taken-by (some j) (some k)))

  pub rounds_stop : (f : ℕ) → over here t m ≡ false → length turned.chosen ≡ length m.chosen → rounds here (suc f) t m ≡ turned
  rounds_stop f p e =
      let a : one (gave here first) ≡ 0 = omega (arith, taken-by first second) in
      let b : one (gave here second) ≡ 0 = omega (arith, taken-by first second) in
      stepped f false false p (neither (gave here first) (gave here second) a b) ∙ unturned first second e

  pub rounds-more : (f : ℕ) → over here t m ≡ false → (length turned.chosen ≡ length m.chosen → ⊥) → rounds here (suc f) t m ≡ rounds here f t turned
  rounds-more f p n =
      stepped f false true p (either (gave here first) (gave here second) (λ z. n (omega (arith, taken-by first second))))

-- what a sound entry is
sized : (k : Kind) (e : W.Event Addr) → size_of here (record { event = e }) ≤ 111
unfolding size_of
sized k W.Nothing = omega arith
sized k (W.Joined f s n) = (size_over-here f s n).1
sized k (W.Recovered f s n) = (size_over-here f s n).1
sized k (W.Suspected f s n) = (size_over-here f s n).1
sized k (W.Deceased f s n) = (size_over-here f s n).1

pub sound-most : (k : Kind) (e : W.Entry Addr) → sound_entry here k e ≡ true → (e.size ≤ 111) × (e.sends ≤ 22)
unfolding sound_entry
sound-most k e s =
    let kind : Bool = of_kind k (parts_of here e.gossip.event).kind in
    let size : Bool = eqb e.size (size_of here e.gossip) in
    let p = and_split (kind && size && leb e.sends 22) (valid_gossip here e.gossip) s in
    let q = and_split (kind && size) (leb e.sends 22) p.0 in
    let r = and_split kind size q.0 in
    (omega (arith, sized k e.gossip.event, eqb-true e.size (size_of here e.gossip) r.1), leb-true e.sends 22 q.1)
