-- How many draws to lend: with so many no call is refused for want of them. For any type of address, any sound node or unsound, any input.
-- Assumes nothing.
use Rattle.std.specs.Prelude.{◌≡◌, Bool, not, List, [], ◌∷◌, ℕ, ◌≤◌, eqb}
use Rattle.std.proofs.Math.Path.{refl, ap}
use Rattle.std.proofs.Common.{sym, ◌∙◌, arith, ltb-false}
use Rattle.std.proofs.Math.Bool.{true, false}
use Rattle.std.proofs.Math.Option.{Option, none, some}
use Rattle.std.proofs.Math.ListN.{length}
use Rattle.std.proofs.lemmas.Bool.{eqb-false, not-true, not-false}
use Rattle.model.specs.declared.Settings.{Settings}
use Rattle.model.specs.declared.Refusal.{Refusal}
use Rattle.model.specs.declared.Refusal.TheVariants.{TimersFull}
use Rattle.model.specs.declared.Cause.{Cause}
use Rattle.model.specs.declared.Fate.{Fate}
use Rattle.model.specs.declared.Fate.TheVariants.{Leaves, Stays, Absent}
use Rattle.model.specs.declared.Kind.TheVariants as kind
use Rattle.model.specs.declared.State.TheVariants as state
use Rattle.model.specs.Rows.{every}
use Rattle.model.specs.Bounds.{Room}
use Rattle.model.specs.Answers.{Answer, number_of}
use Rattle.model.specs.Words.{Address, Lawful, Member, Suspected, Deceased, Gossip, Action, Ping, PingReq, Ack, Timer, Wait, WaitState, SendingPing, WaitingForPingAck, SendingPingReq, WaitingForPingReqAck, Declaring}
use Rattle.model.specs.Members.{Members, update}
use Rattle.model.specs.Node.{Node, Out, Effect, Stored, loaded, stored, fresh, quiet, with_members, lists, change, leave}
use Rattle.model.specs.Handler.{handle, stops_at}
use Rattle.model.specs.Detector.{due, step, Stepped, send_ping, waited, suspect, pick_group, send_ping_req, declare, first_over, fate_at, timer_at, freed, by_fate, end_at}
use Rattle.model.specs.Sound.{sound}
use Rattle.model.specs.Calls.{create_tests, add_tests, message_tests, step_tests, timer_tests, created, not_created, Outcome, StepOutcome, reply_number, first_of, refuses, kept, kept_message, step_of_kept, kept_end, when_due, or_already, joins, create, add_peer, message, detect, ends_at, end_timer}
use Rattle.laws.specs.Bools.{and_split}
use Rattle.laws.specs.Ranges.{ranges}
use Rattle.laws_node.specs.Good.{FullRows, sound_good, stored_loaded}
use Rattle.laws_list.specs.Whole.{Whole, update-whole}
use Rattle.history.specs.Worlds.{Passed}
use Rattle.supply.specs.Supplied.{Supplied, stops, goes}
use Rattle.supply.proofs.Supplied.{supplied_map, supplied_then, supplied_when}
use Rattle.supply.proofs.Shuffles.{pick_supplied, pick_draws-most}
use Rattle.supply.specs.Entries.{comers, entry_draws}
use Rattle.supply.proofs.Entries.{entry_draws-most, entry_draws-each, add_supplied, emit_supplied, handle_supplied, update-length}
use Rattle.supply.specs.Lending.{step_draws, created_number, NotShort}

-- none of a call's tests is for refusal 8
abbrev others : List (Bool × Refusal) → Bool
others ts = every (λ (t : Bool × Refusal). not (eqb (number_of t.1) 8)) ts

-- a call's tests, and what follows them
tested : {B : Type 0} (number : B → ℕ) (ts : List (Bool × Refusal)) (refuse : Refusal → B) (go : B) → ((r : Refusal) → number (refuse r) ≡ number_of r) → others ts ≡ true
    → (Passed ts → number go ≡ 8 → ⊥) → number (first_of ts refuse go) ≡ 8 → ⊥
tested number [] refuse go h o p = p tt
tested number (t ∷ ts) refuse go h o p =
    let q = and_split (not (eqb (number_of t.1) 8)) (others ts) o in
    (elim t.0 as (λ u. t.0 ≡ u → number (elim u [ true ↦ refuse t.1 | false ↦ first_of ts refuse go ]) ≡ 8 → ⊥) [
      | true ↦ λ _ e. eqb-false (number_of t.1) 8 (not-true (eqb (number_of t.1) 8) q.0) (sym (h t.1) ∙ e)
      | false ↦ λ z e. tested number ts refuse go h q.1 (λ all. p (z, all)) e
    ]) refl

module _ {A : Type 0} (address : Address A) (lawful : Lawful address) where
  -- the members after a suspicion: as many, and whole
  suspect_supplied : (a : A) (n : ℕ) (s : Node A) (ds : List ℕ) → Whole address.same s.members
      → Supplied (λ o rest. Whole address.same o.node.members × (length o.node.members.table ≡ length s.members.table) × (o.node.settings ≡ s.settings) × (rest ≡ ds)) (suspect address a n s ds)
  unfolding suspect change
  suspect_supplied a n s ds w =
      let u : Member A = record { addr = a; state = state.Suspected; number = n } in
      supplied_map
      (λ o rest p. (
        rw p.0 (update-whole address.same lawful.test u s.members w),
        ap (λ (m : Members A). length m.table) p.0 ∙ update-length address.same u s.members,
        p.1,
        p.2,
      ))
      (emit_supplied address kind.Alive (record { event = Suspected s.own a n }) (with_members s (update address.same u s.members)) ds)

  pub step_supplied : (st : WaitState A) (now : ℕ) (s : Node A) (ds : List ℕ) → Whole address.same s.members → step_draws s.settings st (length s.members.table) ≤ length ds
      → Supplied (λ (_ : Stepped A) _. Unit {0}) (step address st now s ds)
  unfolding send_ping waited send_ping_req pick_group declare
  step_supplied SendingPing now s ds w h =
      supplied_then (pick_supplied address.same address.blank s.own none 1 s.members ds w (rw w.long h)) (λ p rest _. goes tt)
  step_supplied (WaitingForPingAck a n) now s ds w h = goes tt
  step_supplied (SendingPingReq a n) now s ds w h =
      supplied_then (suspect_supplied a n s ds w)
      (λ o rest q.
      supplied_then
      (pick_supplied address.same address.blank o.node.own (some a) o.node.settings.ping_req_group_size o.node.members rest q.0
      (rw (q.0.long, q.1, q.2, q.3) h))
      (λ p rest₂ _. goes tt))
  step_supplied (WaitingForPingReqAck a n) now s ds w h = goes tt
  step_supplied (Declaring a n) now s ds w h = supplied_when (λ _. stops {r = TimersFull} (λ e. omega (arith, e))) (λ _. goes tt)

  -- ---- calls
  kept-lent : {P : Effect A → List ℕ → Type 0} {x : Answer (Effect A)} (s : Stored A) (ds : List ℕ) → Supplied P x → NotShort (kept address s ds x).reply
  kept-lent s ds (stops n) = n
  kept-lent s ds (goes p) = λ e. omega (arith, e)

  message-kept : {P : Effect A → List ℕ → Type 0} {x : Answer (Effect A)} (s : Stored A) (at : Cause) (ds : List ℕ) → Supplied P x → NotShort (kept_message address s at ds x).reply
  message-kept s at ds (stops n) = n
  message-kept s at ds (goes p) = λ e. omega (arith, e)

  step_kept : {P : Stepped A → List ℕ → Type 0} {x : Answer (Stepped A)} (s : Stored A) (w : Wait A) (ds : List ℕ) → Supplied P x → NotShort (step_of_kept address s w ds x).outcome.reply
  step_kept s w ds (stops n) = n
  step_kept s w ds (goes p) = λ e. omega (arith, e)

  end_kept : {P : Effect A → List ℕ → Type 0} {x : Answer (Effect A)} (s : Stored A) (v : Fate) → Supplied P x → NotShort (kept_end address s v x).reply
  end_kept s v (stops n) = n
  end_kept s Leaves (goes p) = λ e. omega (arith, e)
  end_kept s Stays (goes p) = λ e. omega (arith, e)
  end_kept s Absent (goes p) = λ e. omega (arith, e)

  -- as many are listed as the count says
  pub listed_is : (s : Stored A) → FullRows s → sound address s ≡ true → length (loaded s).members.table ≡ s.listed
  unfolding stored
  listed_is s f p = ap (λ (x : Stored A). x.listed) (stored_loaded address lawful s f p)

  -- creation is never refused 8: it takes no draw
  pub create-lent : (settings : Settings) (own : A) (n : ℕ) → created_number (create address settings own n) ≡ 8 → ⊥
  unfolding create
  create-lent settings own n =
      tested created_number (create_tests address settings own) not_created (created (stored address (fresh settings own n))) (λ r. refl) refl (λ _ e. omega (arith, e))

  -- one draw is enough to add a peer
  pub add-lent : (s : Stored A) (a : A) (n : ℕ) (ds : List ℕ) → 1 ≤ length ds → NotShort (add_peer address s a n ds).reply
  unfolding add_peer
  add-lent s a n ds h =
      tested (λ (o : Outcome A). reply_number o.reply) (add_tests address s a) (refuses s)
      (or_already (lists address a (loaded s)) s (kept address s ds (joins address a n (loaded s) ds))) (λ r. refl) refl (λ _. or-already (lists address a (loaded s)))
    where
      or-already : (u : Bool) → NotShort (or_already u s (kept address s ds (joins address a n (loaded s) ds))).reply
      or-already true = λ e. omega (arith, e)
      or-already false =
          kept-lent {P = λ _ _. Unit {0}} s ds
          (supplied_then (add_supplied address 0 a n (loaded s).members ds (omega (arith, entry_draws-each 1 (length (loaded s).members.table)))) (λ m rest p. goes tt))

  -- a message, by what its rules ask
  message-by : (s : Stored A) (action : Action A) (gs : List (Gossip A)) (ds : List ℕ) (lent : Room)
      → (sound address s ≡ true → length gs ≤ 64 → entry_draws (comers action (length gs)) (length (loaded s).members.table) ≤ length ds)
      → NotShort (message address s action gs ds lent).reply
  unfolding message
  message-by s action gs ds lent h =
      tested (λ (o : Outcome A). reply_number o.reply) (message_tests address s action gs lent) (refuses s)
      (kept_message address s (stops_at address gs (loaded s) ds) ds (handle address action gs (loaded s) ds)) (λ r. refl) refl
      (λ p.
      message-kept s (stops_at address gs (loaded s) ds) ds
      (handle_supplied address action gs (loaded s) ds (h (not-false (sound address s) p.0) (ltb-false 64 (length gs) p.1.1.0))))

  -- a message of so many comers at so many listed
  pub message-lent : (s : Stored A) (action : Action A) (gs : List (Gossip A)) (ds : List ℕ) (lent : Room) → FullRows s → entry_draws (comers action (length gs)) s.listed ≤ length ds
      → NotShort (message address s action gs ds lent).reply
  message-lent s action gs ds lent f h = message-by s action gs ds lent (λ p _. rw (listed_is s f p) h)

  -- one draw a record, and one more for a Ping, is enough for any node
  pub message-each : (s : Stored A) (action : Action A) (gs : List (Gossip A)) (ds : List ℕ) (lent : Room) → comers action (length gs) ≤ length ds
      → NotShort (message address s action gs ds lent).reply
  message-each s action gs ds lent h =
      message-by s action gs ds lent (λ _ _. omega (arith, entry_draws-each (comers action (length gs)) (length (loaded s).members.table)))

  -- 64 are enough for any message to any node
  pub message-most : (s : Stored A) (action : Action A) (gs : List (Gossip A)) (ds : List ℕ) (lent : Room) → 64 ≤ length ds → NotShort (message address s action gs ds lent).reply
  message-most s action gs ds lent h =
      message-by s action gs ds lent (λ _ l. omega (arith, entry_draws-most (comers action (length gs)) (length (loaded s).members.table) (comers-most action (length gs) l)))
    where
      comers-most : (x : Action A) (k : ℕ) → k ≤ 64 → comers x k ≤ 65
      comers-most (Ping from by) k l = omega arith
      comers-most (PingReq from suspect) k l = omega arith
      comers-most (Ack from to) k l = omega arith

  -- a step, by what its rules ask
  step_by : (s : Stored A) (w : Wait A) (now : ℕ) (ds : List ℕ) (lent : Room) → FullRows s
      → (sound address s ≡ true → step_draws (loaded s).settings w.state (length (loaded s).members.table) ≤ length ds) → NotShort (detect address s w now ds lent).outcome.reply
  unfolding detect
  step_by s w now ds lent f h =
      tested (λ (o : StepOutcome A). reply_number o.outcome.reply) (step_tests address s w lent) (λ r. record { outcome = refuses s r; wait = w })
      (when_due (due s.settings w now) s w (step_of_kept address s w ds (step address w.state now (loaded s) ds))) (λ r. refl) refl
      (λ p. when-due (due s.settings w now) (not-false (sound address s) p.0))
    where
      when-due : (u : Bool) → sound address s ≡ true → NotShort (when_due u s w (step_of_kept address s w ds (step address w.state now (loaded s) ds))).outcome.reply
      when-due true p = step_kept s w ds (step_supplied w.state now (loaded s) ds (sound_good address lawful s f p).whole (h p))
      when-due false p = λ e. omega (arith, e)

  -- a step in its state at so many listed
  pub step-lent : (s : Stored A) (w : Wait A) (now : ℕ) (ds : List ℕ) (lent : Room) → FullRows s → step_draws s.settings w.state s.listed ≤ length ds
      → NotShort (detect address s w now ds lent).outcome.reply
  unfolding loaded
  step-lent s w now ds lent f h = step_by s w now ds lent f (λ p. rw (listed_is s f p) h)

  -- 63 are enough for any step of any node
  pub step-most : (s : Stored A) (w : Wait A) (now : ℕ) (ds : List ℕ) (lent : Room) → FullRows s → 63 ≤ length ds → NotShort (detect address s w now ds lent).outcome.reply
  step-most s w now ds lent f h =
      step_by s w now ds lent f
      (λ p.
      let g = sound_good address lawful s f p in
      omega (arith, most (loaded s).settings w.state (length (loaded s).members.table) (ranges (loaded s).settings g.settings).group g.whole.few))
    where
      most : (c : Settings) (st : WaitState A) (n : ℕ) → c.ping_req_group_size ≤ 4 → n ≤ 64 → step_draws c st n ≤ 63
      most c SendingPing n k l = pick_draws-most 1 1 n (omega arith) (omega arith) l
      most c (WaitingForPingAck a i) n k l = omega arith
      most c (SendingPingReq a i) n k l = pick_draws-most 2 c.ping_req_group_size n (omega arith) k l
      most c (WaitingForPingReqAck a i) n k l = omega arith
      most c (Declaring a i) n k l = omega arith

  -- a timer's end is never refused 8: it takes no draw
  pub timer_lent : (s : Stored A) (now : ℕ) (lent : Room) → NotShort (end_timer address s now lent).reply
  unfolding end_timer end_at by_fate quiet
  timer_lent s now lent =
      tested (λ (o : Outcome A). reply_number o.reply) (timer_tests address s lent) (refuses s)
      (ends_at address s (first_over address s.settings.suspect_timeout now (loaded s).timers)) (λ r. refl) refl
      (λ _. ends (first_over address s.settings.suspect_timeout now (loaded s).timers))
    where
      fated : (v : Fate) (t : Timer A) (x : Node A) → Supplied (λ (_ : Out A) _. Unit {0}) (by_fate address v t x [])
      fated Leaves t x = supplied_map (λ _ _ _. tt) (emit_supplied address kind.Deceased (record { event = Deceased x.own t.addr t.number }) (leave address t.addr t.number x) [])
      fated Stays t x = goes tt
      fated Absent t x = goes tt

      ends : (o : Option ℕ) → NotShort (ends_at address s o).reply
      ends none = λ e. omega (arith, e)
      ends (some i) =
          end_kept {P = λ _ _. Unit {0}} s (fate_at address i (loaded s))
          (supplied_then (fated (fate_at address i (loaded s)) (timer_at address i (loaded s)) (freed address i (loaded s))) (λ o rest p. goes tt))
