-- Each controller's part of a cabinet's history is a history of its own, in demand 3's sense, so that whatever holds of every history of one node holds of it.
-- Assumes nothing.
use Rattle.std.specs.Prelude.{◌≡◌, refl, true, false, List, [], ◌∷◌, ◌++◌, ℕ, ◌+◌, eqb}
use Rattle.std.proofs.Common.{ap, sym, ◌∙◌, subst}
use Rattle.model.specs.Rows.{pick, one}
use Rattle.model.specs.Words.{Address, Lawful, SendingPing}
use Rattle.model.specs.Node.{Stored, loaded, lists}
use Rattle.model.specs.Detector.{enters}
use Rattle.history.specs.Histories.{World, Call, outcome, world_of, run}
use Rattle.history.proofs.Worlds.{first_is}
use Rattle.history.specs.Demand3 as demand3
use Rattle.history.proofs.Demand3 as demand3_proved
use Rattle.history.specs.Started.{Within, started}
use Rattle.history.proofs.Started.{in_starting_order}
use Rattle.cabinet.specs.Cabinets.{Turn, Fresh, fresh, worlds}
use Rattle.cabinet.specs.Alone.{calls_of, History}

module _ {A : Type 0} (address : Address A) where
  run-last : (cs : List (Call A)) (c : Call A) (w : World A) → run address (cs ++ (c ∷ [])) w ≡ world_of address (outcome address c (run address cs w))
  run-last [] c w = refl
  run-last (d ∷ cs) c w = run-last cs c (world_of address (outcome address d w))

  -- its node and its wait record are those of its own calls
  pub alone : (begins : ℕ → World A) (h : List (Turn A)) (j : ℕ) → worlds address begins h j ≡ run address ((calls_of address) j h) (begins j)
  alone begins [] j = refl
  alone begins (t ∷ h) j =
      let k = alone begins h j in
      elim (eqb t.who j) as (λ u. pick u (world_of address (outcome address t.call (worlds address begins h j))) (worlds address begins h j) ≡ run address (pick u ((calls_of address) j h ++ (t.call ∷ [])) ((calls_of address) j h)) (begins j)) [
        | true ↦ ap (λ (w : World A). world_of address (outcome address t.call w)) k ∙ sym (run-last ((calls_of address) j h) t.call (begins j))
        | false ↦ k
      ]

  module _ (lawful : Lawful address) where
    -- a fresh world is the start of its beginning
    first : (w : World A) → Fresh address w → (cs : List (Call A)) → (History address) cs (run address cs w)
    first _ (fresh b node tick gave) cs =
        record {
          beginning = b;
          node = node;
          gave = gave;
          tick = tick;
          is = ap (λ (s : Stored A). run address cs (record { node = s; wait = enters SendingPing tick })) (first_is address lawful gave);
        }

    -- each controller's part of it is a history in demand 3's sense
    pub each-alone : (begins : ℕ → World A) → ((j : ℕ) → Fresh address (begins j)) → (h : List (Turn A)) (j : ℕ) → (History address) ((calls_of address) j h) (worlds address begins h j)
    each-alone begins f h j = subst ((History address) ((calls_of address) j h)) (sym (alone begins h j)) (first (begins j) (f j) ((calls_of address) j h))

    module _ {cs : List (Call A)} {w : World A} (k : (History address) cs w) (a : A) where
      -- so all of demand 3 holds of it: its first sentence, in the words of a cabinet
      pub counted : let t = demand3.ledger address lawful k.beginning k.tick k.node k.gave cs a in t.entries ≡ t.departures + one (lists address a (loaded w.node))
      counted =
          demand3_proved.counted address lawful k.beginning k.tick k.node k.gave cs a
          ∙ ap (λ (x : World A). (demand3.ledger address lawful k.beginning k.tick k.node k.gave cs a).departures + one (lists address a (loaded x.node))) (sym k.is)

    -- the running timers of each stand, in their order, within those that its own steps started: no two are of one declaration
    pub in_order : (begins : ℕ → World A) → ((j : ℕ) → Fresh address (begins j)) → (h : List (Turn A)) (j : ℕ)
        → Within (loaded (worlds address begins h j).node).timers (started address ((calls_of address) j h) (begins j))
    in_order begins f h j =
        subst (λ (x : World A). Within (loaded x.node).timers (started address ((calls_of address) j h) (begins j))) (sym (alone begins h j)) (from (begins j) (f j) ((calls_of address) j h))
      where
        from : (w : World A) → Fresh address w → (cs : List (Call A)) → Within (loaded (run address cs w).node).timers (started address cs w)
        from _ (fresh b node tick gave) cs =
            subst (λ (s : Stored A). let w : World A = record { node = s; wait = enters SendingPing tick } in Within (loaded (run address cs w).node).timers (started address cs w)) (sym (first_is address lawful gave))
            (in_starting_order address lawful tick b node gave cs)
