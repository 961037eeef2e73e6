-- Nothing but a push reads the setting: where a rule of a node that collects took nothing, the same node with the setting off does the same. For any type of address and any node.
-- Assumes nothing.
use Rattle.std.specs.Prelude.{◌≡◌, Bool, ℕ, ◌+◌, eqb, length}
use Rattle.std.proofs.Math.Path.{refl, ap}
use Rattle.std.proofs.Common.{sym, ◌∙◌, subst, arith}
use Rattle.std.proofs.Math.Bool.{true, false}
use mathlib.Core.List.{List, [], ◌∷◌, ◌++◌}
use Rattle.std.proofs.Math.Option.{Option, none, some}
use Rattle.std.proofs.Math.Dec.{leb}
use Rattle.model.specs.declared.Kind.{Kind}
use Rattle.model.specs.declared.Kind.TheVariants as kind
use Rattle.model.specs.declared.State.TheVariants as state
use Rattle.model.specs.declared.Settings.{Settings}
use Rattle.model.specs.declared.Fate.{Fate}
use Rattle.model.specs.declared.Fate.TheVariants.{Leaves, Stays, Absent}
use Rattle.model.specs.declared.Refusal.{Refusal}
use Rattle.model.specs.declared.Refusal.TheVariants.{TimersFull}
use Rattle.model.specs.declared.Cause.{Cause}
use Rattle.model.specs.declared.Reply.{Reply}
use Rattle.model.specs.declared.Reply.TheVariants.{Done, Already, NotDue, Refuted, Gone, Refused, RefusedAt}
use Rattle.model.specs.Rows.{pick}
use Rattle.model.specs.Bounds.{heap_places, timer_places}
use Rattle.model.specs.Answers.{Answer, done, refused, and_then, when, full_of}
use Rattle.model.specs.Words.{Address, Event, Gossip, Entry, unused, sends_of, Action, Ping, PingReq, Ack, Message, WaitState, SendingPing, WaitingForPingAck, SendingPingReq, WaitingForPingReqAck, Declaring, Wait, Departed}
use Rattle.model.specs.Heap.{push}
use Rattle.model.specs.Choose.{entry_of}
use Rattle.model.specs.Members as list
use Rattle.model.specs.Collect.{collects, rebuilt, cleared}
use Rattle.model.specs.Node.{Disseminator, Node, Out, Effect, Stored, loaded, stored, with_heap, heap_of, with_members, with_lists, with_disseminator, with_timers, quiet, and_more, pushed, emit, lists, numbered, change, leave, spread}
use Rattle.model.specs.Handler as handler
use Rattle.model.specs.Detector as D
use Rattle.model.specs.Sound.{in_range, sound}
use Rattle.model.specs.Calls as calls
use Rattle.history.specs.Histories.{World, Call, Add, Receive, Step, Timer, Lends, outcome}
use Rattle.history.specs.Unread.{settings_off, off, Same, SameEffect, SameStep, stored_off, Unless, outcome_off, SameCall, world_off}

module _ {A : Type 0} (address : Address A) where
  -- a push by the alive heap that it finds and the number that it tells
  abbrev pushing : Kind → Gossip A → List (Entry A) → ℕ → Node A → List ℕ → Answer (Out A)
  pushing k g h n s ds =
      let c : Disseminator A = record { alive = h; deceased = s.disseminator.deceased } in
      and_then (when (leb heap_places (length (heap_of k c))) (refused (full_of k)) (done (with_heap k (push unused sends_of (heap_of k c) (entry_of address g)) c) ds)) λ d rest.
      done (record { node = with_disseminator s d; said = g ∷ []; collected = n }) rest

  pushing-same : (k : Kind) (g : Gossip A) (h : List (Entry A)) (n : ℕ) (s : Node A) (ds : List ℕ) → (n ≡ 0 → h ≡ s.disseminator.alive)
      → Same (pushing k g h n s ds) (pushing k g s.disseminator.alive 0 (off s) ds)
  unfolding when
  pushing-same k g h n s ds f =
      let c : Disseminator A = record { alive = h; deceased = s.disseminator.deceased } in
      (elim (leb heap_places (length (heap_of k c))) as (λ u. leb heap_places (length (heap_of k c)) ≡ u
      → Same (and_then (when u (refused (full_of k)) (done (with_heap k (push unused sends_of (heap_of k c) (entry_of address g)) c) ds)) λ d rest.
      done (record { node = with_disseminator s d; said = g ∷ []; collected = n }) rest) (pushing k g s.disseminator.alive 0 (off s) ds)) [
        | true ↦ λ e. tt
        | false ↦ λ e z. ap (λ (x : List (Entry A)). pushing k g x 0 (off s) ds) (sym (f z)) ∙ ap (λ (u : Bool). and_then (when u (refused (full_of k)) (done (with_heap k (push unused sends_of (heap_of k c) (entry_of address g)) c) ds)) λ d rest.
            done (record { node = with_disseminator (off s) d; said = g ∷ []; collected = 0 }) rest) e
      ]) refl

  emit-same : (k : Kind) (g : Gossip A) (s : Node A) (ds : List ℕ) → Same (emit address k g s ds) (emit address k g (off s) ds)
  unfolding emit pushed cleared collects
  emit-same k g s ds =
      let on = s.settings.collect in
      pushing-same k g (cleared address on k g s.disseminator.alive) (collects address on k g s.disseminator.alive) s ds
      (λ e. ap (λ (n : ℕ). pick (eqb n 0) s.disseminator.alive (rebuilt address k g s.disseminator.alive)) e)

  tell-same : (w : handler.News A) (s : Node A) (ds : List ℕ) → Same (handler.tell address w s ds) (handler.tell address w (off s) ds)
  unfolding quiet
  tell-same handler.Silent s ds = λ _. refl
  tell-same (handler.Emits k e) s ds = emit-same k (record { event = e }) s ds

  act-same : (v : handler.Verdict A) (s : Node A) (ds : List ℕ) → Same (handler.act address v s ds) (handler.act address v (off s) ds)
  unfolding handler.act
  act-same v s ds = by (handler.list_after address v s.members ds)
    where
      gone : List (Departed A)
      gone = handler.row_after address v s.members.table s.departed

      by : (x : Answer (list.Members A)) → Same (and_then x λ m rest. handler.tell address (handler.news_of address v s.own) (with_lists s m gone) rest)
          (and_then x λ m rest. handler.tell address (handler.news_of address v s.own) (with_lists (off s) m gone) rest)
      by (refused r) = tt
      by (done m rest) = tell-same (handler.news_of address v s.own) (with_lists s m gone) rest

  pub item-same : (e : Event A) (s : Node A) (ds : List ℕ) → Same (handler.item address e s ds) (handler.item address e (off s) ds)
  unfolding handler.item
  item-same e s ds = act-same _ s ds

  pub admit-same : (a : A) (s : Node A) (ds : List ℕ) → Same (handler.admit address a s ds) (handler.admit address a (off s) ds)
  unfolding handler.admit
  admit-same a s ds = act-same _ s ds

  more_same : (x y : Answer (Out A)) (k : Node A → List ℕ → Answer (Out A)) → Same x y → ((s : Node A) (ds : List ℕ) → Same (k s ds) (k (off s) ds)) → Same (and_more x k) (and_more y k)
  unfolding and_more
  more_same (refused r) y k p f = tt
  more_same (done o rest) y k p f = by (k o.node rest) (f o.node rest)
    where
      by : (z : Answer (Out A)) → Same z (k (off o.node) rest)
          → Same (and_then z λ q rest₂. done (record { node = q.node; said = o.said ++ q.said; collected = o.collected + q.collected }) rest₂) (and_more y k)
      by (refused r) q = tt
      by (done u rest₂) q = λ e.
          ap (λ (v : Answer (Out A)). and_more v k) (p (omega (arith, e)))
          ∙ ap (λ (v : Answer (Out A)). and_then v λ w rest₃. done (record { node = w.node; said = o.said ++ w.said; collected = 0 + w.collected }) rest₃) (q (omega (arith, e)))

  pub gossip-same : (gs : List (Gossip A)) (s : Node A) (ds : List ℕ) → Same (handler.gossip address gs s ds) (handler.gossip address gs (off s) ds)
  unfolding quiet
  gossip-same [] s ds = λ _. refl
  gossip-same (g ∷ gs) s ds =
      more_same (handler.item address g.event s ds) (handler.item address g.event (off s) ds) (handler.gossip address gs) (item-same g.event s ds) (gossip-same gs)

  -- what a message does with what its gossip left
  then_same : (x y : Answer (Out A)) (k : Out A → Effect A) → Same x y
      → ((o : Out A) → let e = k o in k (record { node = off o.node; said = o.said; collected = 0 }) ≡ record { node = off e.node; messages = e.messages; events = e.events; collected = 0 })
      → ((o : Out A) → (k o).collected ≡ o.collected)
      → SameEffect (and_then x λ o rest. done (k o) rest) (and_then y λ o rest. done (k o) rest)
  then_same (refused r) y k p f g = tt
  then_same (done o rest) y k p f g = λ e.
      ap (λ (v : Answer (Out A)). and_then v λ u rest₂. done (k u) rest₂) (p (sym (g o) ∙ e)) ∙ ap (λ (v : Effect A). done v rest) (f o)

  acked-same : (from : A) (s : Node A) → handler.acked address from (off s) ≡ off (handler.acked address from s)
  unfolding handler.acked change
  acked-same from s =
      let n = numbered address from s in
      elim (lists address from s) as (λ u. pick u (change address from state.Alive n (off s)) (off s) ≡ off (pick u (change address from state.Alive n s) s)) [
        | true ↦ refl
        | false ↦ refl
      ]

  pub handle-same : (action : Action A) (gs : List (Gossip A)) (s : Node A) (ds : List ℕ) → SameEffect (handler.handle address action gs s ds) (handler.handle address action gs (off s) ds)
  unfolding handler.handle handler.answer_to handler.forwarded spread
  handle-same (Ping from by) gs s ds =
      then_same (and_more (handler.gossip address gs s ds) (handler.admit address from)) (and_more (handler.gossip address gs (off s) ds) (handler.admit address from))
      (handler.answer_to address (handler.ack_target address from by) (Ack s.own by))
      (more_same (handler.gossip address gs s ds) (handler.gossip address gs (off s) ds) (handler.admit address from) (gossip-same gs s ds) (admit-same from)) (λ o. refl) (λ o. refl)
  handle-same (PingReq from suspect) gs s ds =
      then_same (handler.gossip address gs s ds) (handler.gossip address gs (off s) ds) (handler.answer_to address suspect (Ping s.own (some from))) (gossip-same gs s ds) (λ o. refl) (λ o. refl)
  handle-same (Ack from none) gs s ds =
      then_same (handler.gossip address gs s ds) (handler.gossip address gs (off s) ds) (handler.forwarded address from none gs) (gossip-same gs s ds)
      (λ o. ap (λ (t : Node A). record { node = t; messages = []; events = o.said; collected = 0 }) (acked-same from o.node)) (λ o. refl)
  handle-same (Ack from (some to)) gs s ds =
      then_same (handler.gossip address gs s ds) (handler.gossip address gs (off s) ds) (handler.forwarded address from (some to) gs) (gossip-same gs s ds) (λ o. refl) (λ o. refl)

  pub end_same : (i : ℕ) (s : Node A) (ds : List ℕ) → Same (D.end_at address i s ds) (D.end_at address i (off s) ds)
  unfolding D.end_at D.by_fate leave quiet
  end_same i s ds = by (D.fate_at address i s)
    where
      by : (v : Fate) → Same (D.by_fate address v (D.timer_at address i s) (D.freed address i s) ds) (D.by_fate address v (D.timer_at address i s) (D.freed address i (off s)) ds)
      by Leaves = emit-same kind.Deceased _ _ ds
      by Stays = λ _. refl
      by Absent = λ _. refl

  suspect-same : (a : A) (n : ℕ) (s : Node A) (ds : List ℕ) → Same (D.suspect address a n s ds) (D.suspect address a n (off s) ds)
  unfolding D.suspect change
  suspect-same a n s ds = emit-same kind.Alive _ _ ds

  each_same : (a : A) (picks : List A) (s : Node A) (sent : List (Message A))
      → let e = D.ask_each address a picks s sent in D.ask_each address a picks (off s) sent ≡ record { node = off e.node; messages = e.messages; events = e.events; collected = e.collected }
  unfolding spread
  each_same a [] s sent = refl
  each_same a (b ∷ picks) s sent = each_same a picks (spread address s).node _

  asked-same : (a : A) (n now : ℕ) (o : Out A) (p : list.Picked A)
      → let t = D.asked address a n now o p in
      let e = t.effect in
      D.asked address a n now (record { node = off o.node; said = o.said; collected = 0 }) p ≡ record { effect = record { node = off e.node; messages = e.messages; events = e.events; collected = 0 }; wait = t.wait }
  unfolding D.asked
  asked-same a n now o p =
      ap (λ (e : Effect A). record { effect = record { node = e.node; messages = e.messages; events = o.said; collected = 0 }; wait = D.enters (WaitingForPingReqAck a n) now })
      (each_same a p.picks (with_members o.node p.members) [])

  group_same : (a : A) (n now : ℕ) (o : Out A) (z : Answer (list.Picked A)) (y : Answer (D.Stepped A))
      → (o.collected ≡ 0 → y ≡ and_then z λ p rest. done (D.asked address a n now (record { node = off o.node; said = o.said; collected = 0 }) p) rest)
      → SameStep (and_then z λ p rest. done (D.asked address a n now o p) rest) y
  unfolding D.asked
  group_same a n now o (refused r) y h = tt
  group_same a n now o (done p rest) y h = λ e. h e ∙ ap (λ (t : D.Stepped A). done t rest) (asked-same a n now o p)

  request_same : (a : A) (n now : ℕ) (x y : Answer (Out A)) → Same x y
      → SameStep (and_then x λ o rest. and_then (D.pick_group address a o.node rest) λ p rest₂. done (D.asked address a n now o p) rest₂)
      (and_then y λ o rest. and_then (D.pick_group address a o.node rest) λ p rest₂. done (D.asked address a n now o p) rest₂)
  unfolding D.pick_group
  request_same a n now (refused r) y q = tt
  request_same a n now (done o rest) y q =
      group_same a n now o (D.pick_group address a o.node rest) _
      (λ e. ap (λ (v : Answer (Out A)). and_then v λ u rest₂. and_then (D.pick_group address a u.node rest₂) λ p rest₃. done (D.asked address a n now u p) rest₃) (q e))

  ping_same : (now : ℕ) (s : Node A) (z : Answer (list.Picked A)) → let c = spread address s in
      SameStep (and_then z λ p rest. done (D.pinged address now c.gossip (with_members c.node p.members) p.picks) rest)
      (and_then z λ p rest. done (D.pinged address now c.gossip (with_members (off c.node) p.members) p.picks) rest)
  unfolding D.pinged change
  ping_same now s (refused r) = tt
  ping_same now s (done p rest) = by p.picks
    where
      by : (picks : List A) → let c = spread address s in
          SameStep (done (D.pinged address now c.gossip (with_members c.node p.members) picks) rest) (done (D.pinged address now c.gossip (with_members (off c.node) p.members) picks) rest)
      by [] = λ _. refl
      by (a ∷ picks) = λ _. refl

  declare-same : (a : A) (n now : ℕ) (s : Node A) (ds : List ℕ) → SameStep (D.declare address a n now s ds) (D.declare address a n now (off s) ds)
  unfolding D.declare when
  declare-same a n now s ds =
      elim (leb timer_places (length s.timers)) as (λ u. SameStep (when u (refused TimersFull) (done (D.moves address SendingPing now (starts s)) ds)) (when u (refused TimersFull) (done (D.moves address SendingPing now (starts (off s))) ds))) [
        | true ↦ tt
        | false ↦ λ _. refl
      ]
    where
      starts : Node A → Node A
      starts t = with_timers t (t.timers ++ (record { addr = a; number = n; since = now } ∷ []))

  pub step_same : (st : WaitState A) (now : ℕ) (s : Node A) (ds : List ℕ) → SameStep (D.step address st now s ds) (D.step address st now (off s) ds)
  unfolding D.send_ping D.waited D.heard D.send_ping_req spread
  step_same SendingPing now s ds = ping_same now s (list.pick_from address.same address.blank s.own none 1 s.members ds)
  step_same (WaitingForPingAck a n) now s ds = λ _. refl
  step_same (SendingPingReq a n) now s ds = request_same a n now (D.suspect address a n s ds) (D.suspect address a n (off s) ds) (suspect-same a n s ds)
  step_same (WaitingForPingReqAck a n) now s ds = λ _. refl
  step_same (Declaring a n) now s ds = declare-same a n now s ds

  abbrev SameOutcome : calls.Outcome A → calls.Outcome A → Type 0
  SameOutcome o o' = (Unless address) o.reply (o.collected ≡ 0 → o' ≡ (outcome_off address) o)

  first-both : {B : Type 0} (P : B → B → Type 0) (ts : List (Bool × Refusal)) (f f' : Refusal → B) (go go' : B) → ((r : Refusal) → P (f r) (f' r)) → P go go'
      → P (calls.first_of ts f go) (calls.first_of ts f' go')
  first-both P [] f f' go go' p q = q
  first-both P (t ∷ ts) f f' go go' p q =
      elim t.0 as (λ u. P (elim u [ true ↦ f t.1 | false ↦ calls.first_of ts f go ]) (elim u [ true ↦ f' t.1 | false ↦ calls.first_of ts f' go' ])) [
        | true ↦ p t.1
        | false ↦ first-both P ts f f' go go' p q
      ]

  module _ (s : Stored A) where
    message-kept : (at at' : Cause) (ds : List ℕ) (x y : Answer (Effect A)) → SameEffect x y → SameOutcome (calls.kept_message address s at ds x) (calls.kept_message address ((stored_off address) s) at' ds y)
    unfolding stored
    message-kept at at' ds (refused r) y q = tt
    message-kept at at' ds (done e rest) y q = λ z. ap (λ (v : Answer (Effect A)). calls.kept_message address ((stored_off address) s) at' ds v) (q z)

    step_kept : (w : Wait A) (ds : List ℕ) (x y : Answer (D.Stepped A)) → SameStep x y → (SameCall address) (calls.step_of_kept address s w ds x) (calls.step_of_kept address ((stored_off address) s) w ds y)
    unfolding stored
    step_kept w ds (refused r) y q = tt
    step_kept w ds (done e rest) y q = λ z. ap (λ (v : Answer (D.Stepped A)). calls.step_of_kept address ((stored_off address) s) w ds v) (q z)

    end_kept : (v : Fate) (x y : Answer (Out A)) → Same x y → SameOutcome (calls.kept_end address s v (calls.reports address x)) (calls.kept_end address ((stored_off address) s) v (calls.reports address y))
    unfolding stored
    end_kept v (refused r) y q = tt
    end_kept Leaves (done o rest) y q = λ z. ap (λ (u : Answer (Out A)). calls.kept_end address ((stored_off address) s) Leaves (calls.reports address u)) (q z)
    end_kept Stays (done o rest) y q = λ z. ap (λ (u : Answer (Out A)). calls.kept_end address ((stored_off address) s) Stays (calls.reports address u)) (q z)
    end_kept Absent (done o rest) y q = λ z. ap (λ (u : Answer (Out A)). calls.kept_end address ((stored_off address) s) Absent (calls.reports address u)) (q z)

    timer_kept : (o : Option ℕ) → SameOutcome (calls.ends_at address s o) (calls.ends_at address ((stored_off address) s) o)
    unfolding loaded
    timer_kept none = λ _. refl
    timer_kept (some i) = end_kept (D.fate_at address i (loaded s)) (D.end_at address i (loaded s) []) (D.end_at address i (off (loaded s)) []) (end_same i (loaded s) [])

    add_kept : (ds : List ℕ) (x : Answer (list.Members A))
        → SameOutcome (calls.kept address s ds (and_then x λ m rest. done (record { node = with_members (loaded s) m; messages = []; events = []; collected = 0 }) rest))
        (calls.kept address ((stored_off address) s) ds (and_then x λ m rest. done (record { node = with_members (off (loaded s)) m; messages = []; events = []; collected = 0 }) rest))
    unfolding stored
    add_kept ds (refused r) = tt
    add_kept ds (done m rest) = λ _. refl

  with_wait : (w : Wait A) (o o' : calls.Outcome A) → SameOutcome o o' → (SameCall address) (record { outcome = o; wait = w }) (record { outcome = o'; wait = w })
  with_wait w o o' q = by o.reply q
    where
      lends : calls.Outcome A → calls.StepOutcome A
      lends u = record { outcome = u; wait = w }

      by : (r : Reply) → (Unless address) r (o.collected ≡ 0 → o' ≡ (outcome_off address) o) → (Unless address) r (o.collected ≡ 0 → lends o' ≡ lends ((outcome_off address) o))
      by (Done used) p = λ z. ap lends (p z)
      by Already p = λ z. ap lends (p z)
      by NotDue p = λ z. ap lends (p z)
      by Refuted p = λ z. ap lends (p z)
      by Gone p = λ z. ap lends (p z)
      by (Refused r) p = tt
      by (RefusedAt r at) p = tt

  due-same : (t : Settings) (w : Wait A) (now : ℕ) → D.due t w now ≡ D.due (settings_off t) w now
  unfolding D.due
  due-same t w now = ap (λ (n : ℕ). D.is_over n now w.since) (by w.state)
    where
      by : (st : WaitState A) → D.wait_of t st ≡ D.wait_of (settings_off t) st
      by SendingPing = refl
      by (WaitingForPingAck a n) = refl
      by (SendingPingReq a n) = refl
      by (WaitingForPingReqAck a n) = refl
      by (Declaring a n) = refl

  pub call_same : (c : Call A) (w : World A) → (SameCall address) (outcome address c w) (outcome address c ((world_off address) w))
  unfolding calls.add_peer calls.message calls.detect calls.end_timer loaded sound in_range
  call_same (Add b n ds) w =
      let s = w.node in
      let go = calls.kept address s ds (calls.joins address b n (loaded s) ds) in
      let go' = calls.kept address ((stored_off address) s) ds (calls.joins address b n (off (loaded s)) ds) in
      let listed = lists address b (loaded s) in
      with_wait w.wait (calls.add_peer address s b n ds) (calls.add_peer address ((stored_off address) s) b n ds)
      (first-both SameOutcome (calls.add_tests address s b) (calls.refuses s) (calls.refuses ((stored_off address) s)) (calls.or_already listed s go) (calls.or_already listed ((stored_off address) s) go') (λ r. tt)
      (elim listed as (λ u. SameOutcome (calls.or_already u s go) (calls.or_already u ((stored_off address) s) go')) [
        | true ↦ λ _. refl
        | false ↦ add_kept s ds (list.add address.same b n (loaded s).members ds)
      ]))
  call_same (Receive action gs ds lent) w =
      let s = w.node in
      let x = handler.handle address action gs (loaded s) ds in
      let y = handler.handle address action gs (off (loaded s)) ds in
      let at = handler.stops_at address gs (loaded s) ds in
      let at' = handler.stops_at address gs (off (loaded s)) ds in
      with_wait w.wait (calls.message address s action gs ds lent) (calls.message address ((stored_off address) s) action gs ds lent)
      (first-both SameOutcome (calls.message_tests address s action gs lent) (calls.refuses s) (calls.refuses ((stored_off address) s)) (calls.kept_message address s at ds x) (calls.kept_message address ((stored_off address) s) at' ds y)
      (λ r. tt) (message-kept s at at' ds x y (handle-same action gs (loaded s) ds)))
  call_same (Step now ds lent) w =
      let s = w.node in
      let x = D.step address w.wait.state now (loaded s) ds in
      let y = D.step address w.wait.state now (off (loaded s)) ds in
      let go = calls.step_of_kept address s w.wait ds x in
      let go' = calls.step_of_kept address ((stored_off address) s) w.wait ds y in
      let due = D.due s.settings w.wait now in
      first-both (SameCall address) (calls.step_tests address s w.wait lent) (λ r. record { outcome = calls.refuses s r; wait = w.wait }) (λ r. record { outcome = calls.refuses ((stored_off address) s) r; wait = w.wait })
      (calls.when_due due s w.wait go) (calls.when_due (D.due (settings_off s.settings) w.wait now) ((stored_off address) s) w.wait go') (λ r. tt)
      (subst (λ (u : Bool). (SameCall address) (calls.when_due due s w.wait go) (calls.when_due u ((stored_off address) s) w.wait go')) (due-same s.settings w.wait now)
      (elim due as (λ u. (SameCall address) (calls.when_due u s w.wait go) (calls.when_due u ((stored_off address) s) w.wait go')) [
        | true ↦ step_kept s w.wait ds x y (step_same w.wait.state now (loaded s) ds)
        | false ↦ λ _. refl
      ]))
  call_same (Timer now lent) w =
      let s = w.node in
      let over = D.first_over address s.settings.suspect_timeout now (loaded s).timers in
      with_wait w.wait (calls.end_timer address s now lent) (calls.end_timer address ((stored_off address) s) now lent)
      (first-both SameOutcome (calls.timer_tests address s lent) (calls.refuses s) (calls.refuses ((stored_off address) s)) (calls.ends_at address s over) (calls.ends_at address ((stored_off address) s) over) (λ r. tt) (timer_kept s over))
  call_same (Lends wait) w = λ _. refl
