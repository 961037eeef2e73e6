-- The rounds of a choosing: what is left of them leads to the model's choice.
-- Assumes nothing.
use mathlib.Core.Path.{◌≡◌, refl, sym, ◌∙◌, ap, subst}
use mathlib.Core.Bool.{Bool, true, false, ◌&&◌, ◌||◌}
use Prim.Native.Nat.{ℕ, suc, ◌+◌, ◌-◌, ◌≤◌, ◌<◌}
use native.Mathlib.Omega.{arith}
use lib.Dec.{eqb, leb}
use lib.ListN.{length}
use Rattle.model.specs.Bounds.{greatest_size}
use Rattle.model.specs.Rows.{one, pick}
use Rattle.address.specs.Here.{Addr, here}
use Rattle.model.specs.Words as W
use Rattle.model.specs.Choose as M
use Rattle.model.specs.Choose.{try_alive, try_deceased, after_alive, after_deceased, gave, over, rounds, choose}
use Rattle.disseminate.specs.Fit.{heap_least}
use Rattle.model.specs.declared.Kind.{Kind}
use Rattle.model.specs.declared.Kind.TheVariants as kind
use Rattle.laws_choose.specs.GoodHeap.{GoodHeap}
use Rattle.heap.specs.declared.Heap.{Heap}
use Rattle.heap.specs.Views.{heap_view, pack_heap, Packed, view_length}
use Rattle.disseminate.specs.declared.Terms.{Terms}
use Rattle.disseminate.specs.declared.Chosen.{Chosen}
use Rattle.disseminate.specs.declared.Choice.{Choice}
use Rattle.disseminate.specs.Views.{noted, to_terms, chosen_none, choice_view, pack_choice, NotedIf, top_of, Open, Ready}
use Rattle.disseminate.proofs.Noting.{chosen-length, pack-choice}
use Rattle.disseminate.proofs.Stepping.{tried, without_top, with_alive, with_deceased, open_alive, open_deceased, alive-turn, deceased-turn}
use Rattle.disseminate.proofs.Trying.{held_none, turned, rounds-over, rounds_stop, rounds-more}

module _ (t : Terms) where
  -- what is left of the rounds leads to the goal
  pub record Going (goal : M.Choice Addr) (c : Choice) (left : ℕ) : Type 0 where
    pub ready : Ready t c
    pub same : rounds here left (to_terms t) (choice_view c) ≡ goal

  abbrev pub fresh : Heap → Heap → Chosen → Choice
  fresh a d n = record { alive = a; deceased = d; chosen = n; from_alive = 0; from_deceased = 0 }

  pub begins :
      (a d : Heap) (n : Chosen) →
      Packed a →
      Packed d →
      GoodHeap here kind.Alive (heap_view a) →
      GoodHeap here kind.Deceased (heap_view d) →
      t.max_size ≤ greatest_size →
      t.limit ≤ 23 →
      n ≡ chosen_none →
      Going (choose here (to_terms t) (heap_view a) (heap_view d)) (fresh a d n) 64
  unfolding choose noted
  begins a d n p q g h s l e =
      subst (λ (x : Chosen). Going (choose here (to_terms t) (heap_view a) (heap_view d)) (fresh a d x) 64) (sym e)
      (record {
        ready = record {
          alive = p;
          deceased = q;
          chosen = record { few = omega arith; rows = refl; sent = refl };
          size = s;
          limit = l;
          kept = record {
            heaps = record { alive = g; deceased = h };
            within = record {
              alive = heap_least kind.Alive (heap_view a) g;
              deceased = heap_least kind.Deceased (heap_view d) h;
              counted = omega arith;
              fits = omega arith;
            };
            living = omega arith;
            dead = omega arith;
          };
        };
        same = refl;
      })

  -- the code's test and the model's
  pub over_is :
      (c : Choice) (u : Bool) →
      Ready t c →
      u ≡ (eqb (c.alive.len + c.deceased.len) 0 || (leb t.alive_share c.from_alive && leb t.deceased_share c.from_deceased)) →
      u ≡ over here (to_terms t) (choice_view c)
  unfolding over
  over_is c u r e =
      let k : c.alive.len + c.deceased.len ≡ length (heap_view c.alive) + length (heap_view c.deceased) =
      omega (arith, view_length c.alive r.alive, view_length c.deceased r.deceased) in
      e
      ∙ ap (λ (b : Bool). b || (leb t.alive_share c.from_alive && leb t.deceased_share c.from_deceased))
      (ap (λ (n : ℕ). eqb n 0) k ∙ sym (held_none (heap_view c.alive) (heap_view c.deceased)))

  module _ (goal : M.Choice Addr) (c : Choice) (left : ℕ) (g : Going goal c left) where
    reached : choice_view c ≡ goal → c ≡ pack_choice goal
    reached e = pack-choice t c g.ready ∙ ap pack_choice e

    pub ends-out : left ≤ 0 → c ≡ pack_choice goal
    unfolding rounds
    ends-out h =
        let z : left ≡ 0 = omega arith in
        reached (ap (λ (f : ℕ). rounds here f (to_terms t) (choice_view c)) (sym z) ∙ g.same)

    module _ (some : 0 < left) where
      this : rounds here (suc (left - 1)) (to_terms t) (choice_view c) ≡ goal
      this =
          let z : suc (left - 1) ≡ left = omega arith in
          ap (λ (f : ℕ). rounds here f (to_terms t) (choice_view c)) z ∙ g.same

      pub ends-over : over here (to_terms t) (choice_view c) ≡ true → c ≡ pack_choice goal
      ends-over o = reached (sym (rounds-over (to_terms t) (choice_view c) (left - 1) o) ∙ this)

      module _
          (o : over here (to_terms t) (choice_view c) ≡ false)
          (a b : Choice)
          (ea : choice_view a ≡ after_alive here (choice_view c) (try_alive here (to_terms t) (choice_view c)))
          (eb : choice_view b ≡ after_deceased here (choice_view a) (try_deceased here (to_terms t) (choice_view a)))
          (ready : Ready t b)
        where
          round : choice_view b ≡ turned (to_terms t) (choice_view c)
          round = eb ∙ ap (λ (m : M.Choice Addr). after_deceased here m (try_deceased here (to_terms t) m)) ea

          many : length (turned (to_terms t) (choice_view c)).chosen ≡ b.chosen.count
          many = ap (λ (m : M.Choice Addr). length m.chosen) (sym round) ∙ chosen-length b.chosen ready.chosen

          before : length (choice_view c).chosen ≡ c.chosen.count
          before = chosen-length c.chosen g.ready.chosen

          ends_stop : b.chosen.count ≡ c.chosen.count → b ≡ pack_choice goal
          ends_stop e = pack-choice t b ready ∙ ap pack_choice (round ∙ sym (rounds_stop (to_terms t) (choice_view c) (left - 1) o (many ∙ e ∙ sym before)) ∙ this)

          goes_on : (b.chosen.count ≡ c.chosen.count → ⊥) → Going goal b (left - 1)
          goes_on n =
              record {
                ready = ready;
                same =
                    ap (rounds here (left - 1) (to_terms t)) round
                    ∙ sym (rounds-more (to_terms t) (choice_view c) (left - 1) o (λ e. n (sym many ∙ e ∙ before)))
                    ∙ this;
              }

      -- a round of the code: a try at each heap, and one more from it where it gave one
      module _
          (o : over here (to_terms t) (choice_view c) ≡ false)
          (u : Bool)
          (n : Chosen)
          (a : Heap)
          (living : ℕ)
          (gu : u ≡ gave here (tried t c.alive c.chosen (open_alive t c g.ready)))
          (nu : NotedIf u c.chosen (top_of c.alive) n)
          (au : a ≡ pick u (pack_heap (without_top t c.alive c.chosen (open_alive t c g.ready)).heap) c.alive)
          (lu : living ≡ c.from_alive + one u)
        where
          abbrev between : Choice
          between = with_alive c (record { heap = a; chosen = n; gave = u })

          first : (choice_view between ≡ after_alive here (choice_view c) (try_alive here (to_terms t) (choice_view c))) × Ready t between
          first = alive-turn t c g.ready u n a gu nu au

          pub opens : Open t c.deceased n
          opens = open_deceased t between first.1

          module _
              (v : Bool)
              (m : Chosen)
              (d : Heap)
              (dead : ℕ)
              (gv : v ≡ gave here (tried t c.deceased n opens))
              (mv : NotedIf v n (top_of c.deceased) m)
              (dv : d ≡ pick v (pack_heap (without_top t c.deceased n opens).heap) c.deceased)
              (lv : dead ≡ c.from_deceased + one v)
            where
              abbrev next : Choice
              next = with_deceased between (record { heap = d; chosen = m; gave = v })

              second : (choice_view next ≡ after_deceased here (choice_view between) (try_deceased here (to_terms t) (choice_view between))) × Ready t next
              second = deceased-turn t between first.1 v m d gv mv dv

              abbrev reads : Choice
              reads = record { alive = a; deceased = d; chosen = m; from_alive = living; from_deceased = dead }

              counted : next ≡ reads
              counted = λ i. record { alive = a; deceased = d; chosen = m; from_alive = sym lu i; from_deceased = sym lv i }

              pub round_stops : m.count ≡ c.chosen.count → reads ≡ pack_choice goal
              round_stops e = sym counted ∙ ends_stop o between next first.0 second.0 second.1 e

              pub round_goes_on : (m.count ≡ c.chosen.count → ⊥) → Going goal reads (left - 1)
              round_goes_on e = subst (λ (x : Choice). Going goal x (left - 1)) counted (goes_on o between next first.0 second.0 second.1 e)
