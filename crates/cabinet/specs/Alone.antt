-- Each controller's part of a cabinet's history is a history of its own, in demand 3's sense, so that whatever holds of every history of one node holds of it.
-- Assumes nothing.
use Rattle.std.specs.Prelude.{◌≡◌, List, [], ◌∷◌, ◌++◌, ℕ, eqb}
use Rattle.std.proofs.Common.{sym, subst}
use Rattle.model.specs.Rows.{pick}
use Rattle.model.specs.Words.{Address, Lawful}
use Rattle.model.specs.Node.{Stored, loaded}
use Rattle.laws_list.specs.Whole.{Whole}
use Rattle.laws_node.specs.Good.{loaded-stored}
use Rattle.history.specs.Beginnings.{Beginning, own_of, Gave}
use Rattle.history.specs.Histories.{World, Call, run, start}
use Rattle.history.specs.Ledger.{Tally}
use Rattle.history.specs.Worlds.{Stands, stands}
use Rattle.history.specs.Demand3 as demand3
use Rattle.history.proofs.Demand3 as demand3_proved
use Rattle.cabinet.specs.Cabinets.{Turn}

module _ {A : Type 0} (address : Address A) where
  -- the calls of controller j, the first one first
  abbrev pub calls_of : ℕ → List (Turn A) → List (Call A)
  calls_of j [] = []
  calls_of j (t ∷ h) = pick (eqb t.who j) (calls_of j h ++ (t.call ∷ [])) (calls_of j h)

  -- what demand 3 is stated of: a node that creation or a restart gave, a fresh wait record, and the calls since
  pub record History (cs : List (Call A)) (w : World A) : Type 0 where
    pub beginning : Beginning A
    pub node : Stored A
    pub gave : Gave address beginning node
    pub tick : ℕ
    pub is : w ≡ run address cs (start address beginning tick)

  module _ (lawful : Lawful address) where
    module _ {cs : List (Call A)} {w : World A} (k : History cs w) (a : A) where
      -- and what the proofs of demand 3 carry along
      pub stood : Stands address lawful a (own_of k.beginning) (demand3.ledger address lawful k.beginning k.tick k.node k.gave cs a) w
      stood = subst (Stands address lawful a (own_of k.beginning) _) (sym k.is) (demand3_proved.stood address lawful k.beginning k.tick k.node k.gave cs a)

    whole-of : {a own : A} {t : Tally} {w : World A} → Stands address lawful a own t w → Whole address.same (loaded w.node).members
    whole-of (stands s w g k) = rw (loaded-stored address lawful s g.whole) g.whole

    pub whole : {cs : List (Call A)} {w : World A} → History cs w → Whole address.same (loaded w.node).members
    whole k = whole-of (stood k (own_of k.beginning))
