-- UNIQUENESS. Any two results that meet a call's contract on the same inputs are equal: answer, node, wait record, and every place of every lent row.
-- Assumes nothing.
use Rattle.std.specs.Prelude.{◌≡◌, List, ℕ}
use Rattle.std.proofs.Common.{sym, ◌∙◌}
use Rattle.address.specs.Here.{Addr}
use Rattle.model.specs.declared.Settings.{Settings}
use Rattle.model.specs.Calls as calls
use Rattle.types.specs.declared.Gossip.{Gossip}
use Rattle.types.specs.declared.Action.{Action}
use Rattle.node.specs.declared.Node.{Node}
use Rattle.node.specs.declared.Answer.{Answer}
use Rattle.wait.specs.declared.Wait.{Wait}
use Rattle.swim.specs.declared.Outcome.{Outcome}
use Rattle.swim.specs.Promises.{Ends, Creates, Adds, Receives, Steps, EndsTimer}

pub create_unique : (settings : Settings) (own : Addr) (number : ℕ) (r r' : Answer) → Creates settings own number r → Creates settings own number r' → r ≡ r'
create_unique settings own number r r' c c' = c.answer ∙ sym c'.answer

pub add_unique : (node : Node) (a : Addr) (number : ℕ) (draws : List ℕ) (r r' : Answer) → Adds node a number draws r → Adds node a number draws r' → r ≡ r'
add_unique node a number draws r r' c c' = c.answer ∙ sym c'.answer

ends_unique : (o : calls.Outcome Addr) (gossip events : List Gossip) (r r' : Outcome) (g g' e e' : List Gossip) → Ends o gossip events r g e → Ends o gossip events r' g' e' → (r ≡ r') × (g ≡ g') × (e ≡ e')
ends_unique o gossip events r r' g g' e e' c c' = (c.answer ∙ sym c'.answer, c.spoken ∙ sym c'.spoken, c.told ∙ sym c'.told)

module _ (node : Node) (draws : List ℕ) (gossip events : List Gossip) (r r' : Outcome) (g g' e e' : List Gossip) where
  pub receive_unique : (action : Action) (rows : List Gossip) → Receives node action rows draws gossip events r g e → Receives node action rows draws gossip events r' g' e' → (r ≡ r') × (g ≡ g') × (e ≡ e')
  receive_unique action rows c c' = ends_unique _ gossip events r r' g g' e e' c.ends c'.ends

  pub step_unique : (wait w w' : Wait) (tick : ℕ) → Steps node wait tick draws gossip events r w g e → Steps node wait tick draws gossip events r' w' g' e' → (r ≡ r') × (w ≡ w') × (g ≡ g') × (e ≡ e')
  step_unique wait w w' tick c c' =
      let u = ends_unique _ gossip events r r' g g' e e' c.ends c'.ends in
      (u.0, c.waits ∙ sym c'.waits, u.1, u.2)

pub end_timer_unique : (node : Node) (tick : ℕ) (events : List Gossip) (r r' : Outcome) (e e' : List Gossip) → EndsTimer node tick events r e → EndsTimer node tick events r' e' → (r ≡ r') × (e ≡ e')
end_timer_unique node tick events r r' e e' c c' = (c.answer ∙ sym c'.answer, c.told ∙ sym c'.told)
