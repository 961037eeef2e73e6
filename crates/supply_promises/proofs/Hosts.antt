-- WHAT A HOST HAS TO LEND, OF THE PROGRAM. Of any result that meets the contract of a call of `swim`: lent so many draws it is not refused 8, and a step from a fresh wait record is refused by no
-- full heap.
-- Assumes nothing.
use Rattle.std.specs.Prelude.{◌≡◌, List, map, ℕ, ◌≤◌, length}
use Rattle.std.proofs.Math.Path.{ap}
use Rattle.std.proofs.Common.{sym, ◌∙◌}
use Rattle.std.proofs.lemmas.List.{length-map}
use Rattle.model.specs.Calls.{reply_number}
use Rattle.address.specs.Here.{Addr, here, here_lawful}
use Rattle.laws_node.specs.Good.{FullRows}
use Rattle.types.specs.declared.Gossip.{Gossip}
use Rattle.types.specs.declared.Action.{Action}
use Rattle.types.specs.Views.{to_gossip, to_action}
use Rattle.node.specs.declared.Node.{Node}
use Rattle.node.specs.declared.Answer.{Answer}
use Rattle.node.specs.Views.{stored_view, answer_of}
use Rattle.wait.specs.declared.Wait.{Wait}
use Rattle.wait.specs.Views.{to_wait, fresh_wait}
use Rattle.swim.specs.declared.Outcome.{Outcome}
use Rattle.swim.specs.Promises.{room, outcome_of, message_of, step_of, Adds, Receives, Steps, EndsTimer}
use Rattle.supply.specs.Entries.{comers, entry_draws}
use Rattle.supply.specs.Lending.{step_draws}
use Rattle.supply.proofs.Lending.{add-lent, message-lent, message-each, message-most, step-lent, step-most, timer_lent}
use Rattle.supply.proofs.Built.{never_full-here}

-- 1 draw for an add
pub add_enough : (node : Node) (a : Addr) (number : ℕ) (draws : List ℕ) (r : Answer) → Adds node a number draws r → 1 ≤ length draws → reply_number r.reply ≡ 8 → ⊥
unfolding answer_of
add_enough node a number draws r met h e = add-lent here here_lawful (stored_view node) a number draws h (sym (ap (λ (x : Answer). reply_number x.reply) met.answer) ∙ e)

module _ (node : Node) (action : Action) (rows : List Gossip) (draws : List ℕ) (gossip events : List Gossip) (r : Outcome) (gossip' events' : List Gossip)
    (met : Receives node action rows draws gossip events r gossip' events') where
  received : reply_number r.answer.reply ≡ reply_number (message_of node action rows draws gossip events).reply
  unfolding outcome_of answer_of
  received = ap (λ (x : Outcome). reply_number x.answer.reply) met.ends.answer

  -- 64 for any message; one for each that may come in; or, with so many listed, fewer
  pub receive_most : 64 ≤ length draws → reply_number r.answer.reply ≡ 8 → ⊥
  receive_most h e = message-most here here_lawful (stored_view node) (to_action action) (map to_gossip rows) draws (room gossip events) h (sym received ∙ e)

  pub receive_each : comers (to_action action) (length rows) ≤ length draws → reply_number r.answer.reply ≡ 8 → ⊥
  receive_each h e =
      message-each here here_lawful (stored_view node) (to_action action) (map to_gossip rows) draws (room gossip events) (rw (length-map rows to_gossip) h) (sym received ∙ e)

  pub receive_enough : FullRows (stored_view node) → entry_draws (comers (to_action action) (length rows)) (stored_view node).listed ≤ length draws → reply_number r.answer.reply ≡ 8 → ⊥
  receive_enough f h e =
      message-lent here here_lawful (stored_view node) (to_action action) (map to_gossip rows) draws (room gossip events) f (rw (length-map rows to_gossip) h) (sym received ∙ e)

module _ (node : Node) (wait : Wait) (tick : ℕ) (draws : List ℕ) (gossip events : List Gossip) (r : Outcome) (wait' : Wait) (gossip' events' : List Gossip)
    (met : Steps node wait tick draws gossip events r wait' gossip' events') (full : FullRows (stored_view node)) where
  stepped : reply_number r.answer.reply ≡ reply_number (step_of node wait tick draws gossip events).outcome.reply
  unfolding outcome_of answer_of
  stepped = ap (λ (x : Outcome). reply_number x.answer.reply) met.ends.answer

  -- 63 for any step; or, in its state with so many listed, fewer
  pub step_all : 63 ≤ length draws → reply_number r.answer.reply ≡ 8 → ⊥
  step_all h e = step-most here here_lawful (stored_view node) (to_wait wait) tick draws (room gossip events) full h (sym stepped ∙ e)

  pub step_enough : step_draws node.settings (to_wait wait).state (stored_view node).listed ≤ length draws → reply_number r.answer.reply ≡ 8 → ⊥
  unfolding stored_view
  step_enough h e = step-lent here here_lawful (stored_view node) (to_wait wait) tick draws (room gossip events) full h (sym stepped ∙ e)

-- a step from a fresh wait record: never 9, 13 or 10
module _ (node : Node) (since tick : ℕ) (draws : List ℕ) (gossip events : List Gossip) (r : Outcome) (wait' : Wait) (gossip' events' : List Gossip)
    (met : Steps node (fresh_wait since) tick draws gossip events r wait' gossip' events') (full : FullRows (stored_view node)) where
  pub step_never_full : (reply_number r.answer.reply ≡ 9 → ⊥) × (reply_number r.answer.reply ≡ 13 → ⊥) × (reply_number r.answer.reply ≡ 10 → ⊥)
  step_never_full =
      let p = never_full-here (stored_view node) since tick draws (room gossip events) full in
      let q = stepped node (fresh_wait since) tick draws gossip events r wait' gossip' events' met full in
      (λ e. p.0 (sym q ∙ e), λ e. p.1 (sym q ∙ e), λ e. p.2 (sym q ∙ e))

-- the timer call takes no draw
pub timer_enough : (node : Node) (tick : ℕ) (events : List Gossip) (r : Outcome) (events' : List Gossip) → EndsTimer node tick events r events' → reply_number r.answer.reply ≡ 8 → ⊥
unfolding outcome_of answer_of
timer_enough node tick events r events' met e =
    timer_lent here here_lawful (stored_view node) tick (record { gossip = 0; events = length events }) (sym (ap (λ (x : Outcome). reply_number x.answer.reply) met.answer) ∙ e)
