-- WHAT A CALL COLLECTS. The number that each call of `swim` tells is the count of held events that met the condition, at each push, by the alive heap before it; 0 with the setting off.
-- Assumes nothing.
use Rattle.std.specs.Prelude.{◌≡◌, false, List, map, ℕ}
use Rattle.std.proofs.Math.Path.{sym, ap}
use Rattle.std.proofs.Common.{◌∙◌}
use Rattle.std.proofs.Math.ListN.{length}
use Rattle.address.specs.Here.{Addr, here}
use Rattle.types.specs.declared.Gossip.{Gossip}
use Rattle.types.specs.declared.Action.{Action}
use Rattle.types.specs.Views.{to_gossip, to_action}
use Rattle.node.specs.declared.Node.{Node}
use Rattle.node.specs.declared.Answer.{Answer}
use Rattle.node.specs.Views.{stored_view, answer_of}
use Rattle.wait.specs.declared.Wait.{Wait}
use Rattle.history.specs.Histories.{Call, Add, Receive, Step, Timer, moments}
use Rattle.history.specs.Taken.{Pushed}
use Rattle.history.proofs.Taken.{collected_is, heaps_are}
use Rattle.history.proofs.Uncollected.{off-collects-none}
use Rattle.swim.specs.declared.Outcome.{Outcome}
use Rattle.swim.specs.Promises.{outcome_of, room, Adds, Receives, Steps, EndsTimer}
use Rattle.promises.specs.Collects.{handed, counted}

module _ (node : Node) (wait : Wait) where
  pub add-collects : (a : Addr) (number : ℕ) (draws : List ℕ) (r : Answer) → Adds node a number draws r → r.collected ≡ (counted node wait) (Add a number draws)
  unfolding answer_of
  add-collects a number draws r met = ap (λ (x : Answer). x.collected) met.answer ∙ collected_is here (Add a number draws) (handed node wait)

  pub receive_collects : (action : Action) (rows : List Gossip) (draws : List ℕ) (gossip events : List Gossip) (r : Outcome) (gossip' events' : List Gossip)
      → Receives node action rows draws gossip events r gossip' events' → r.answer.collected ≡ (counted node wait) (Receive (to_action action) (map to_gossip rows) draws (room gossip events))
  unfolding outcome_of answer_of
  receive_collects action rows draws gossip events r gossip' events' met =
      ap (λ (x : Outcome). x.answer.collected) met.ends.answer ∙ collected_is here (Receive (to_action action) (map to_gossip rows) draws (room gossip events)) (handed node wait)

  pub step-collects : (tick : ℕ) (draws : List ℕ) (gossip events : List Gossip) (r : Outcome) (wait' : Wait) (gossip' events' : List Gossip)
      → Steps node wait tick draws gossip events r wait' gossip' events' → r.answer.collected ≡ (counted node wait) (Step tick draws (room gossip events))
  unfolding outcome_of answer_of
  step-collects tick draws gossip events r wait' gossip' events' met =
      ap (λ (x : Outcome). x.answer.collected) met.ends.answer ∙ collected_is here (Step tick draws (room gossip events)) (handed node wait)

  pub timer_collects : (tick : ℕ) (events : List Gossip) (r : Outcome) (events' : List Gossip)
      → EndsTimer node tick events r events' → r.answer.collected ≡ (counted node wait) (Timer tick (record { gossip = 0; events = length events }))
  unfolding outcome_of answer_of
  timer_collects tick events r events' met =
      ap (λ (x : Outcome). x.answer.collected) met.answer ∙ collected_is here (Timer tick (record { gossip = 0; events = length events })) (handed node wait)

  -- and the heaps that each of those rules leaves are what it pushed to those before it
  pub pushes-at-each : (c : Call Addr) → Pushed here (moments here c (handed node wait))
  pushes-at-each c = heaps_are here c (handed node wait)

  -- "Off, nothing is taken, and the number collected is 0."
  pub off-counts-none : node.settings.collect ≡ false → (c : Call Addr) → (counted node wait) c ≡ 0
  unfolding stored_view
  off-counts-none off c = sym (collected_is here c (handed node wait)) ∙ off-collects-none here c (handed node wait) off
