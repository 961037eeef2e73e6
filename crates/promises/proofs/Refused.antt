-- A CALL THAT IS NOT KEPT hands back the node as it came, touches no lent row and no wait record, sends and reports nothing and uses no draw: whatever the call,
-- whichever refusal it is, and so if it answers "already" or "not due".
-- Assumes nothing.
use Rattle.std.specs.Prelude.{◌≡◌, refl, List, [], map, ℕ}
use Rattle.std.proofs.Common.{sym, ◌∙◌}
use Rattle.std.proofs.Math.Path.{ap}
use Rattle.std.proofs.Math.Option.{some}
use Rattle.std.proofs.Math.ListN.{length}
use Rattle.model.specs.declared.Refusal.{Refusal}
use Rattle.model.specs.declared.Reply.{Reply}
use Rattle.model.specs.declared.Reply.TheVariants.{Done, Already, NotDue, Refuted, Gone, Refused, RefusedAt}
use Rattle.model.specs.declared.Settings.{Settings}
use Rattle.address.specs.Here.{Addr, here}
use Rattle.model.specs.Calls as calls
use Rattle.history.specs.Histories.{Call}
use Rattle.types.specs.declared.Gossip.{Gossip}
use Rattle.types.specs.declared.Action.{Action}
use Rattle.types.specs.Views.{to_gossip, to_action, from_to_gossips}
use Rattle.node.specs.declared.Node.{Node}
use Rattle.node.specs.declared.Answer.{Answer}
use Rattle.node.specs.Views.{stored_view, answer_of, created_of, plain_answer, pack_node, nobody}
use Rattle.node.specs.Rows.{unstored-stored}
use Rattle.wait.specs.declared.Wait.{Wait}
use Rattle.wait.specs.Views.{to_wait, from_wait, from-to_wait}
use Rattle.swim.specs.declared.Outcome.{Outcome}
use Rattle.swim.specs.Promises.{room, outcome_of, row_after, Ends, Creates, Adds, Receives, Steps, EndsTimer}
use Rattle.promises.specs.Replies.{NotDone}
use Rattle.promises.proofs.Replies.{refusal_unkept, done_apart}
use Rattle.promises.proofs.Given.{add-table, message-table, step-table, timer_table}
use Rattle.promises.specs.Made.{letters_of, Held, Said, Made, adds, receives, steps, ends_timer, lends}
use Rattle.promises.specs.Refused.{idle_outcome, Untouched}

pub nothing_written : (lent : List Gossip) → row_after [] lent ≡ lent
unfolding row_after
nothing_written lent = from_to_gossips lent

-- what changes nothing by the rules changes nothing in rows
module _ (n : Node) (z : Reply) (o : calls.Outcome Addr) (same : o ≡ calls.unchanged z (stored_view n)) where
  answer_back : answer_of o ≡ plain_answer z n
  unfolding answer_of
  answer_back = ap answer_of same ∙ ap (plain_answer z) (unstored-stored n)

  outcome-back : outcome_of o ≡ idle_outcome z n
  unfolding outcome_of
  outcome-back = λ i. record { answer = answer_back i; reported = length (same i).events }

  ends-back : (gossip events : List Gossip) (r : Outcome) (g e : List Gossip) → Ends o gossip events r g e → (r ≡ idle_outcome z n) × (g ≡ gossip) × (e ≡ events)
  ends-back gossip events r g e met = (
    met.answer ∙ outcome-back,
    met.spoken ∙ (λ i. row_after (calls.packed (same i).messages) gossip) ∙ nothing_written gossip,
    met.told ∙ (λ i. row_after (same i).events events) ∙ nothing_written events,
  )

-- ---- the calls
pub add_unkept : (node : Node) (a : Addr) (number : ℕ) (draws : List ℕ) (r : Answer) → Adds node a number draws r → NotDone r.reply → r ≡ plain_answer r.reply node
unfolding answer_of
add_unkept node a number draws r met unkept =
    met.answer ∙ answer_back node r.reply _ ((add-table here (stored_view node) a number draws).keeps r.reply unkept (sym (λ i. (met.answer i).reply)))

module _ (node : Node) (draws : List ℕ) (gossip events : List Gossip) (r : Outcome) (g e : List Gossip) (unkept : NotDone r.answer.reply) where
  pub receive_unkept : (action : Action) (rows : List Gossip) → Receives node action rows draws gossip events r g e → (r ≡ idle_outcome r.answer.reply node) × (g ≡ gossip) × (e ≡ events)
  unfolding outcome_of answer_of
  receive_unkept action rows met =
      ends-back node r.answer.reply _
      ((message-table here (stored_view node) (to_action action) (map to_gossip rows) draws (room gossip events)).keeps r.answer.reply unkept (sym (λ i. (met.ends.answer i).answer.reply)))
      gossip events r g e met.ends

  pub step_unkept : (wait w : Wait) (tick : ℕ) → Steps node wait tick draws gossip events r w g e → (r ≡ idle_outcome r.answer.reply node) × (w ≡ wait) × (g ≡ gossip) × (e ≡ events)
  unfolding outcome_of answer_of
  step_unkept wait w tick met =
      let same = (step-table here (stored_view node) (to_wait wait) tick draws (room gossip events)).keeps r.answer.reply unkept (sym (λ i. (met.ends.answer i).answer.reply)) in
      let back = ends-back node r.answer.reply _ (λ i. (same i).outcome) gossip events r g e met.ends in
      (back.0, met.waits ∙ (λ i. from_wait (same i).wait) ∙ from-to_wait wait, back.1, back.2)

pub end_timer_unkept : (node : Node) (tick : ℕ) (events : List Gossip) (r : Outcome) (e : List Gossip) → EndsTimer node tick events r e → NotDone r.answer.reply → (r ≡ idle_outcome r.answer.reply node) × (e ≡ events)
unfolding outcome_of answer_of
end_timer_unkept node tick events r e met unkept =
    let same = (timer_table here (stored_view node) tick (record { gossip = 0; events = length events })).keeps r.answer.reply unkept (sym (λ i. (met.answer i).answer.reply)) in
    (met.answer ∙ outcome-back node r.answer.reply _ same, met.told ∙ (λ i. row_after (same i).events events) ∙ nothing_written events)

-- ---- all of them at once
keeps : (h : Held) (c : Call Addr) (s : Said) (h' : Held) → Made h c s h' → NotDone s.reply → h' ≡ h
keeps h _ _ _ (adds a number draws r met) unkept =
    let same = add_unkept h.node a number draws r met unkept in
    λ i. record { node = (same i).node; wait = h.wait; gossip = h.gossip; events = h.events }
keeps h _ _ _ (receives action rows draws r gossip events met) unkept =
    let b = receive_unkept h.node draws h.gossip h.events r gossip events unkept action rows met in
    λ i. record { node = (b.0 i).answer.node; wait = h.wait; gossip = b.1 i; events = b.2 i }
keeps h _ _ _ (steps tick draws r wait gossip events met) unkept =
    let b = step_unkept h.node draws h.gossip h.events r gossip events unkept h.wait wait tick met in
    λ i. record { node = (b.0 i).answer.node; wait = b.1 i; gossip = b.2 i; events = b.3 i }
keeps h _ _ _ (ends_timer tick r events met) unkept =
    let b = end_timer_unkept h.node tick h.events r events met unkept in
    λ i. record { node = (b.0 i).answer.node; wait = h.wait; gossip = h.gossip; events = b.1 i }
keeps h _ _ _ (lends wait) unkept = absurd unkept

unkept_draws : (z : Reply) → NotDone z → calls.draws_used z ≡ 0
unkept_draws (Done used) unkept = absurd unkept
unkept_draws Already unkept = refl
unkept_draws NotDue unkept = refl
unkept_draws Refuted unkept = absurd unkept
unkept_draws Gone unkept = absurd unkept
unkept_draws (Refused r) unkept = refl
unkept_draws (RefusedAt r at) unkept = refl

-- and says to have written nothing
silent : (h : Held) (c : Call Addr) (s : Said) (h' : Held) → Made h c s h' → NotDone s.reply → s.reported ≡ 0
silent h _ _ _ (adds a number draws r met) unkept = refl
silent h _ _ _ (receives action rows draws r gossip events met) unkept = λ i. ((receive_unkept h.node draws h.gossip h.events r gossip events unkept action rows met).0 i).reported
silent h _ _ _ (steps tick draws r wait gossip events met) unkept = λ i. ((step_unkept h.node draws h.gossip h.events r gossip events unkept h.wait wait tick met).0 i).reported
silent h _ _ _ (ends_timer tick r events met) unkept = λ i. ((end_timer_unkept h.node tick h.events r events met unkept).0 i).reported
silent h _ _ _ (lends wait) unkept = absurd unkept

-- and sends none
sends_none : (h : Held) (c : Call Addr) (s : Said) (h' : Held) → Made h c s h' → NotDone s.reply → s.letters ≡ []
sends_none h _ _ _ (adds a number draws r met) unkept = λ i. letters_of (add_unkept h.node a number draws r met unkept i)
sends_none h _ _ _ (receives action rows draws r gossip events met) unkept = λ i. letters_of ((receive_unkept h.node draws h.gossip h.events r gossip events unkept action rows met).0 i).answer
sends_none h _ _ _ (steps tick draws r wait gossip events met) unkept = λ i. letters_of ((step_unkept h.node draws h.gossip h.events r gossip events unkept h.wait wait tick met).0 i).answer
sends_none h _ _ _ (ends_timer tick r events met) unkept = λ i. letters_of ((end_timer_unkept h.node tick h.events r events met unkept).0 i).answer
sends_none h _ _ _ (lends wait) unkept = absurd unkept

pub unkept_keeps : (h h' : Held) (c : Call Addr) (s : Said) → Made h c s h' → NotDone s.reply → Untouched h h' s
unkept_keeps h h' c s m unkept = record { held = keeps h c s h' m unkept; letters = sends_none h c s h' m unkept; reported = silent h c s h' m unkept; draws = unkept_draws s.reply unkept }

-- the theorem
pub refused-keeps : (h h' : Held) (c : Call Addr) (s : Said) (x : Refusal) → Made h c s h' → calls.refusal_of s.reply ≡ some x → Untouched h h' s
refused-keeps h h' c s x m said = unkept_keeps h h' c s m (refusal_unkept s.reply x said)

-- "refused, it returns no node": in its place stand zeros, and nothing is sent
pub refused_creates_nothing : (settings : Settings) (own : Addr) (number : ℕ) (r : Answer) (x : Refusal) → Creates settings own number r → r.reply ≡ Refused x → r ≡ plain_answer (Refused x) (pack_node nobody)
unfolding created_of
refused_creates_nothing settings own number r x met said = bare (calls.create here settings own number) met.answer
  where
    bare : (c : calls.Created Addr) → r ≡ created_of c → r ≡ plain_answer (Refused x) (pack_node nobody)
    bare (calls.created s) e = done_apart (sym (λ i. (e i).reply) ∙ said)
    bare (calls.not_created y) e = e ∙ (λ i. plain_answer ((sym (λ j. (e j).reply) ∙ said) i) (pack_node nobody))
