-- "Off: nothing differs": with the setting off no rule reads the row. Two nodes that differ in the row alone do the same, refuse alike and draw alike, and differ in the row alone afterwards.
-- Detector steps and timers read it with neither setting. For any type of address, any node and any two rows.
-- Assumes nothing.
use Rattle.std.specs.Prelude.{◌≡◌}
use Rattle.std.proofs.Math.Bool.{false}
use mathlib.Core.List.{List, []}
use Prim.Native.Nat.{ℕ}
use Rattle.model.specs.declared.Settings.{Settings}
use Rattle.model.specs.declared.Refusal.{Refusal}
use Rattle.model.specs.Answers.{Answer, done, refused}
use Rattle.model.specs.Words.{Address, Gossip, Message, Wait, Departed}
use Rattle.model.specs.Node.{Node, Out, Effect}
use Rattle.model.specs.Detector as D

module _ {A : Type 0} where
  -- the node with this row, all else as it is
  abbrev pub given : List (Departed A) → Node A → Node A
  given r s = record { settings = s.settings; own = s.own; members = s.members; disseminator = s.disseminator; timers = s.timers; departed = r }

-- two answers: the same refusal, or the same draws left and what is alike
pub data Both {B : Type 0} (R : B → B → Type 0) : Answer B → Answer B → Type 0 where
  stop : {r : Refusal} → Both R (refused r) (refused r)
  give : {b c : B} {ds : List ℕ} → R b c → Both R (done b ds) (done c ds)

-- alike in all but the row, under settings of this kind
module _ {A : Type 0} (Fine : Settings → Type 0) where
  pub data Alike : Out A → Out A → Type 0 where
    alike : (s : Node A) {r r' : List (Departed A)} {said : List (Gossip A)} {n : ℕ} → Fine s.settings
        → Alike (record { node = given r s; said = said; collected = n }) (record { node = given r' s; said = said; collected = n })

  pub data AlikeEffect : Effect A → Effect A → Type 0 where
    effects : (s : Node A) {r r' : List (Departed A)} {sent : List (Message A)} {said : List (Gossip A)} {n : ℕ} → Fine s.settings
        → AlikeEffect (record { node = given r s; messages = sent; events = said; collected = n }) (record { node = given r' s; messages = sent; events = said; collected = n })

  pub data AlikeStep : D.Stepped A → D.Stepped A → Type 0 where
    steps : {e f : Effect A} {w : Wait A} → AlikeEffect e f → AlikeStep (record { effect = e; wait = w }) (record { effect = f; wait = w })

-- ---- messages, with the setting off
module _ {A : Type 0} (address : Address A) where
  abbrev pub Off : Settings → Type 0
  Off t = t.remember ≡ false
