-- THE TABLE, 6 TO 10 AND 13, "ALREADY", "NOT DUE", "REFUTED" AND "GONE": when a call of `swim` gives each, of any result that meets its contract.
-- Assumes nothing.
use Rattle.std.specs.Prelude.{◌≡◌, ◌↔◌, Bool, true, false}
use Rattle.std.proofs.Math.Path.{refl, ap}
use Rattle.std.proofs.Common.{◌∙◌, arith}
use mathlib.Core.List.{List, [], ◌∷◌, map}
use Rattle.std.proofs.Math.Option.{none}
use Prim.Native.Nat.{ℕ, ◌≤◌, ◌<◌}
use Rattle.std.proofs.Math.ListN.{length}
use Rattle.std.proofs.Math.Dec.{eqb}
use Rattle.model.specs.declared.Refusal.{Refusal}
use Rattle.model.specs.declared.Refusal.TheVariants.{ListFull, DrawsShort, AliveFull, TimersFull, DeceasedFull}
use Rattle.model.specs.declared.Cause.TheVariants.{Record, Sender}
use Rattle.model.specs.declared.Reply.TheVariants.{Already, NotDue, Refuted, Gone, RefusedAt}
use Rattle.model.specs.Rows.{has}
use Rattle.model.specs.Bounds.{list_places, heap_places}
use Rattle.model.specs.Answers.{number_of}
use Rattle.address.specs.Here.{Addr, here}
use Rattle.model.specs.Words as W
use Rattle.model.specs.Node as M
use Rattle.model.specs.Node.{lists}
use Rattle.model.specs.Detector.{due, fate_at}
use Rattle.model.specs.Calls as calls
use Rattle.model.specs.Calls.{reply_number, cause_of}
use Rattle.types.specs.declared.Gossip.{Gossip}
use Rattle.types.specs.declared.Action.{Action}
use Rattle.types.specs.Views.{to_gossip, to_action}
use Rattle.node.specs.declared.Node.{Node}
use Rattle.node.specs.declared.Answer.{Answer}
use Rattle.node.specs.Views.{stored_view, answer_of}
use Rattle.wait.specs.declared.Wait.{Wait}
use Rattle.wait.specs.Views.{to_wait}
use Rattle.swim.specs.declared.Outcome.{Outcome}
use Rattle.swim.specs.Promises.{room, outcome_of, Adds, Receives, Steps, EndsTimer}
use Rattle.swim.specs.Lookups.{handed}
use Rattle.promises.specs.Firsts.{FirstFails, Passed}
use Rattle.promises.proofs.Firsts.{first-among}
use Rattle.promises.specs.Stops.{step_stops, StopsAt, AdmissionStops, MessageStops, StepTimersFull, StepHeapFull, StepDrawsShort, Removes, Refutes, IsGone, Over, over_none}
use Rattle.promises.proofs.Stopping.{end_among, step-among}
use Rattle.promises.proofs.Records.{message-among, tells_record, tells_sender}
use Rattle.promises.specs.Given.{OneOf}
use Rattle.promises.proofs.Given.{numbers, add-table, message-table, message_cause, step-table, timer_table, timer_refutes, timer_finds_gone, add_no_cause, step_no_cause, timer_no_cause}
use Rattle.promises.proofs.Plainly.{add-full, add-short, end_full, end_refuted, end_gone, step-timers_full, step-heap_full, step_draws-short}
use Rattle.promises.proofs.Exactly.{as_told}

-- tests, a condition and a list of tests, which is said in plain words
plainly : {G T P F W : Type 0} → G ↔ (T × (P × F)) → F ↔ W → G ↔ (T × P × W)
plainly h w = ((λ g. let p = h.0 g in (p.0, p.1.0, w.0 p.1.1)), (λ p. h.1 (p.0, (p.1, w.1 p.2))))

also : {G T P Q : Type 0} → G ↔ (T × P) → P ↔ Q → G ↔ (T × Q)
also h w = ((λ g. let p = h.0 g in (p.0, w.0 p.1)), (λ p. h.1 (p.0, w.1 p.1)))

-- what is said of the timer that is over, in other words
of_over : (wait now : ℕ) (s : M.Node Addr) {P Q : W.Timer Addr → Type 0} → ((t : W.Timer Addr) → P t ↔ Q t) → Over here wait now s P ↔ Over here wait now s Q
of_over wait now s h = ((λ p. (p.0, p.1, (h _).0 p.2)), (λ q. (q.0, q.1, (h _).1 q.2)))

-- ---- adding a peer
module _ (node : Node) (a : Addr) (number : ℕ) (draws : List ℕ) (r : Answer) (met : Adds node a number draws r) where
  abbrev AddPassed : Type 0
  AddPassed = Passed (calls.add_tests here (stored_view node) a)

  -- it is listed
  pub add_already : (r.reply ≡ Already) ↔ (AddPassed × (lists here a (handed node) ≡ true))
  unfolding answer_of
  add_already = as_told (λ i. (met.answer i).reply) (add-table here (stored_view node) a number draws).idles

  -- it isn't listed, and 64 are
  pub add_7 : (reply_number r.reply ≡ 7) ↔ (AddPassed × (lists here a (handed node) ≡ false) × (list_places ≤ length (handed node).members.table))
  unfolding answer_of
  add_7 = as_told (λ i. reply_number (met.answer i).reply) (plainly ((add-table here (stored_view node) a number draws).stops ListFull (omega arith)) (add-full (handed node) draws))

  -- it isn't listed, fewer than 64 are, and there is no draw
  pub add_8 : (reply_number r.reply ≡ 8) ↔ (AddPassed × (lists here a (handed node) ≡ false) × ((length (handed node).members.table < list_places) × (draws ≡ [])))
  unfolding answer_of
  add_8 = as_told (λ i. reply_number (met.answer i).reply) (plainly ((add-table here (stored_view node) a number draws).stops DrawsShort (omega arith)) (add-short (handed node) draws))

  -- and never 6, 9 or 10
  pub add-numbers : OneOf (0 ∷ 2 ∷ 5 ∷ 7 ∷ 8 ∷ []) (reply_number r.reply)
  unfolding answer_of
  add-numbers =
      let ns : List ℕ = 0 ∷ 2 ∷ 5 ∷ 7 ∷ 8 ∷ [] in
      ap (λ (n : Answer). has eqb (reply_number n.reply) ns) met.answer ∙ numbers (add-table here (stored_view node) a number draws) ns refl (refl, (refl, tt)) (λ x h. first-among (λ y. OneOf ns (number_of y)) h.1 (refl, (refl, tt)))

  -- "A detector, timer or add refusal has no record number."
  pub add_no_record : cause_of r.reply ≡ none
  unfolding answer_of
  add_no_record = (λ i. cause_of (met.answer i).reply) ∙ add_no_cause here (stored_view node) a number draws

-- ---- the detector step
module _ (node : Node) (wait : Wait) (tick : ℕ) (draws : List ℕ) (gossip events : List Gossip) (r : Outcome) (w : Wait) (g e : List Gossip) (met : Steps node wait tick draws gossip events r w g e) where
  abbrev StepPassed : Type 0
  StepPassed = Passed (calls.step_tests here (stored_view node) (to_wait wait) (room gossip events))

  -- the wait isn't over
  pub step_not_due : (r.answer.reply ≡ NotDue) ↔ (StepPassed × (due node.settings (to_wait wait) tick ≡ false))
  unfolding outcome_of answer_of stored_view
  step_not_due = as_told (λ i. (met.ends.answer i).answer.reply) (step-table here (stored_view node) (to_wait wait) tick draws (room gossip events)).idles

  -- it is over, and the rules are stopped
  step-stops : (x : Refusal) → 6 ≤ number_of x
      → (reply_number r.answer.reply ≡ number_of x) ↔ (StepPassed × ((due node.settings (to_wait wait) tick ≡ true) × FirstFails x (step_stops here (to_wait wait).state (handed node) draws)))
  unfolding outcome_of answer_of stored_view
  step-stops x late = as_told (λ i. reply_number (met.ends.answer i).answer.reply) ((step-table here (stored_view node) (to_wait wait) tick draws (room gossip events)).stops x late)

  -- the pick of one, or that of the group, reads more draws than are lent
  pub step_8 : (reply_number r.answer.reply ≡ 8) ↔ (StepPassed × (due node.settings (to_wait wait) tick ≡ true) × StepDrawsShort here (to_wait wait).state (handed node) draws)
  step_8 = plainly (step-stops DrawsShort (omega arith)) (step_draws-short here (handed node) draws (to_wait wait).state)

  -- the suspicion's event finds the alive heap full
  pub step_9 : (reply_number r.answer.reply ≡ 9) ↔ (StepPassed × (due node.settings (to_wait wait) tick ≡ true) × StepHeapFull here (to_wait wait).state (handed node))
  step_9 = plainly (step-stops AliveFull (omega arith)) (step-heap_full here (handed node) draws (to_wait wait).state)

  -- the declaration finds 16 timers running
  pub step_10 : (reply_number r.answer.reply ≡ 10) ↔ (StepPassed × (due node.settings (to_wait wait) tick ≡ true) × StepTimersFull (to_wait wait).state (handed node))
  step_10 = plainly (step-stops TimersFull (omega arith)) (step-timers_full here (handed node) draws (to_wait wait).state)

  -- and never 6 or 7
  pub step-numbers : OneOf (0 ∷ 2 ∷ 3 ∷ 5 ∷ 8 ∷ 9 ∷ 10 ∷ []) (reply_number r.answer.reply)
  unfolding outcome_of answer_of
  step-numbers =
      let ns : List ℕ = 0 ∷ 2 ∷ 3 ∷ 5 ∷ 8 ∷ 9 ∷ 10 ∷ [] in
      ap (λ (o : Outcome). has eqb (reply_number o.answer.reply) ns) met.ends.answer
      ∙ numbers (step-table here (stored_view node) (to_wait wait) tick draws (room gossip events)) ns refl (refl, (refl, (refl, tt)))
      (λ x h. first-among (λ y. OneOf ns (number_of y)) h.1 (step-among here (λ y. OneOf ns (number_of y)) refl refl refl (to_wait wait).state (handed node) draws))

  pub step_no_record : cause_of r.answer.reply ≡ none
  unfolding outcome_of answer_of
  step_no_record = (λ i. cause_of (met.ends.answer i).answer.reply) ∙ step_no_cause here (stored_view node) (to_wait wait) tick draws (room gossip events)

-- ---- the timer call
module _ (node : Node) (tick : ℕ) (events : List Gossip) (r : Outcome) (e : List Gossip) (met : EndsTimer node tick events r e) where
  abbrev TimerPassed : Type 0
  TimerPassed = Passed (calls.timer_tests here (stored_view node) (record { gossip = 0; events = length events }))

  -- whether no running timer is over
  abbrev none_over : Bool
  none_over = over_none node.settings.suspect_timeout tick (handed node).timers

  -- no timer is over
  pub timer_not_due : (r.answer.reply ≡ NotDue) ↔ (TimerPassed × (none_over ≡ true))
  unfolding outcome_of answer_of stored_view
  timer_not_due = as_told (λ i. (met.answer i).answer.reply) (timer_table here (stored_view node) tick (record { gossip = 0; events = length events })).idles

  -- of the earliest started timer that is over something holds
  abbrev over : (W.Timer Addr → Type 0) → Type 0
  over P = Over here node.settings.suspect_timeout tick (handed node) P

  -- one is over, it would remove its address, and its event finds the deceased heap full
  pub timer_13 : (reply_number r.answer.reply ≡ 13) ↔ (TimerPassed × over (λ t. Removes here t (handed node) × (heap_places ≤ length (handed node).disseminator.deceased)))
  unfolding outcome_of answer_of stored_view
  timer_13 =
      as_told (λ i. reply_number (met.answer i).answer.reply)
      (also ((timer_table here (stored_view node) tick (record { gossip = 0; events = length events })).stops DeceasedFull (omega arith)) (of_over node.settings.suspect_timeout tick (handed node) (λ t. end_full here t (handed node))))

  -- one is over, and its address is listed, but Alive or at a greater number
  pub timer_refuted : (r.answer.reply ≡ Refuted) ↔ (TimerPassed × over (λ t. Refutes here t (handed node)))
  unfolding outcome_of answer_of stored_view
  timer_refuted =
      as_told (λ i. (met.answer i).answer.reply)
      (also (timer_refutes here (stored_view node) tick (record { gossip = 0; events = length events })) (of_over node.settings.suspect_timeout tick (handed node) (λ t. end_refuted here t (handed node))))

  -- one is over, and its address is not listed
  pub timer_gone : (r.answer.reply ≡ Gone) ↔ (TimerPassed × over (λ t. IsGone here t (handed node)))
  unfolding outcome_of answer_of stored_view
  timer_gone =
      as_told (λ i. (met.answer i).answer.reply)
      (also (timer_finds_gone here (stored_view node) tick (record { gossip = 0; events = length events })) (of_over node.settings.suspect_timeout tick (handed node) (λ t. end_gone here t (handed node))))

  -- and never 6 to 10
  pub timer_numbers : OneOf (0 ∷ 2 ∷ 3 ∷ 13 ∷ []) (reply_number r.answer.reply)
  unfolding outcome_of answer_of
  timer_numbers =
      let ns : List ℕ = 0 ∷ 2 ∷ 3 ∷ 13 ∷ [] in
      ap (λ (o : Outcome). has eqb (reply_number o.answer.reply) ns) met.answer
      ∙ numbers (timer_table here (stored_view node) tick (record { gossip = 0; events = length events })) ns refl (refl, (refl, tt)) (λ x h. first-among (λ y. OneOf ns (number_of y)) h.2 (end_among here (λ y. OneOf ns (number_of y)) refl (fate_at here h.0 (handed node)) (handed node)))

  pub timer_no_record : cause_of r.answer.reply ≡ none
  unfolding outcome_of answer_of
  timer_no_record = (λ i. cause_of (met.answer i).answer.reply) ∙ timer_no_cause here (stored_view node) tick (record { gossip = 0; events = length events })

-- ---- the message
module _ (node : Node) (action : Action) (rows : List Gossip) (draws : List ℕ) (gossip events : List Gossip) (r : Outcome) (g e : List Gossip) (met : Receives node action rows draws gossip events r g e) where
  abbrev ReceivePassed : Type 0
  ReceivePassed = Passed (calls.message_tests here (stored_view node) (to_action action) (map to_gossip rows) (room gossip events))

  -- 6 to 9 and 13: a record stops, or the admission of a Ping's sender
  pub receive_stops : (x : Refusal) → 6 ≤ number_of x → (reply_number r.answer.reply ≡ number_of x) ↔ (ReceivePassed × MessageStops here (map to_gossip rows) (handed node) draws x (to_action action))
  unfolding outcome_of answer_of
  receive_stops x late = as_told (λ i. reply_number (met.ends.answer i).answer.reply) ((message-table here (stored_view node) (to_action action) (map to_gossip rows) draws (room gossip events)).stops x late)

  -- "the number of the gossip record that caused it, counted from 0": record k is told exactly if the rules get through those before it, and it stops
  pub receive_record : (x : Refusal) (k : ℕ) → (r.answer.reply ≡ RefusedAt x (Record k)) ↔ (ReceivePassed × StopsAt here (map to_gossip rows) (handed node) draws x k)
  unfolding outcome_of answer_of
  receive_record x k =
      as_told (λ i. (met.ends.answer i).answer.reply)
      (also (message_cause here (stored_view node) (to_action action) (map to_gossip rows) draws (room gossip events) x (Record k)) (tells_record here x (to_action action) (map to_gossip rows) (handed node) draws k))

  -- "or .. that it was the sender's own admission": they get through all of them
  pub receive_sender : (x : Refusal) → (r.answer.reply ≡ RefusedAt x Sender) ↔ (ReceivePassed × AdmissionStops here (map to_gossip rows) (handed node) draws x (to_action action))
  unfolding outcome_of answer_of
  receive_sender x =
      as_told (λ i. (met.ends.answer i).answer.reply)
      (also (message_cause here (stored_view node) (to_action action) (map to_gossip rows) draws (room gossip events) x Sender) (tells_sender here x (to_action action) (map to_gossip rows) (handed node) draws))

  -- and never 10
  pub receive_numbers : OneOf (0 ∷ 2 ∷ 3 ∷ 4 ∷ 5 ∷ 6 ∷ 7 ∷ 8 ∷ 9 ∷ 13 ∷ []) (reply_number r.answer.reply)
  unfolding outcome_of answer_of
  receive_numbers =
      let ns : List ℕ = 0 ∷ 2 ∷ 3 ∷ 4 ∷ 5 ∷ 6 ∷ 7 ∷ 8 ∷ 9 ∷ 13 ∷ [] in
      ap (λ (o : Outcome). has eqb (reply_number o.answer.reply) ns) met.ends.answer
      ∙ numbers (message-table here (stored_view node) (to_action action) (map to_gossip rows) draws (room gossip events)) ns refl (refl, (refl, (refl, (refl, tt)))) (λ x h. message-among (λ y. OneOf ns (number_of y)) refl refl refl refl refl h)
