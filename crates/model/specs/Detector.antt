-- "Detector": what a step and an ended timer do.
-- Assumes nothing.
use Rattle.std.specs.Prelude.{Bool, true, false, not, ◌&&◌, List, [], ◌∷◌, ◌++◌, ℕ, suc, ◌+◌, ◌-◌, ◌%◌, length, get_or, leb}
use Rattle.std.proofs.Math.Option.{Option, none, some}
use Rattle.model.specs.declared.Settings.{Settings}
use Rattle.model.specs.declared.Kind.TheVariants as kind
use Rattle.model.specs.declared.State.TheVariants as state
use Rattle.model.specs.declared.Refusal.TheVariants.{TimersFull}
use Rattle.model.specs.declared.Fate.{Fate}
use Rattle.model.specs.declared.Fate.TheVariants.{Leaves, Stays, Absent}
use Rattle.model.specs.Rows.{pick, remove_at}
use Rattle.model.specs.Bounds.{ticks, timer_places}
use Rattle.model.specs.Answers.{Answer, done, refused, and_then, when}
use Rattle.model.specs.Words.{Address, is_alive, Suspected, Deceased, Gossip, Ping, PingReq, Message, Member, Timer, Wait, WaitState, SendingPing, WaitingForPingAck, SendingPingReq, WaitingForPingReqAck, Declaring, no_timer}
use Rattle.model.specs.Members as list
use Rattle.model.specs.Node.{Node, Out, Effect, with_members, with_timers, quiet, emit, lists, numbered, state_of, change, leave, spread}

-- "A wait is over when now less start, modulo 2^32, is at least the wait."
unfoldable pub is_over : ℕ → ℕ → ℕ → Bool
is_over wait now since = leb wait ((now + ticks - since) % ticks)

-- a place of the rest of a row is one further in the row
abbrev pub later : Option ℕ → Option ℕ
later none = none
later (some i) = some (suc i)

module _ {A : Type 0} where
  -- how long each state waits; "SendingPingReq at once", "Declaring at once"
  abbrev pub wait_of : Settings → WaitState A → ℕ
  wait_of c SendingPing = c.ping_interval
  wait_of c (WaitingForPingAck a n) = c.ping_timeout
  wait_of c (SendingPingReq a n) = 0
  wait_of c (WaitingForPingReqAck a n) = c.ping_req_timeout
  wait_of c (Declaring a n) = 0

  unfoldable pub due : Settings → Wait A → ℕ → Bool
  due c w now = is_over (wait_of c w.state) now w.since

  -- "each new state is entered at now"
  abbrev pub enters : WaitState A → ℕ → Wait A
  enters st now = record { state = st; since = now }

-- what a step does: its effect, and the wait record after it
pub record Stepped (A : Type 0) : Type 0 where
  pub effect : Effect A
  pub wait : Wait A

module _ {A : Type 0} (address : Address A) where
  -- nothing but the wait record changes
  abbrev pub moves : WaitState A → ℕ → Node A → Stepped A
  moves st now s = record { effect = record { node = s; messages = []; events = []; collected = 0 }; wait = enters st now }

  -- "if one: Ping, set Pending, wait for PingAck; if none: the gossip is spent but not written, state kept, tick renewed"
  unfoldable pub pinged : ℕ → List (Gossip A) → Node A → List A → Stepped A
  pinged now gs s [] = moves SendingPing now s
  pinged now gs s (a ∷ rest) =
      record {
        effect =
            record {
              node = change address a state.Pending (numbered address a s) s;
              messages = record { target = a; action = Ping s.own none; gossip = gs } ∷ [];
              events = [];
              collected = 0;
            };
        wait = enters (WaitingForPingAck a (numbered address a s)) now;
      }

  -- "SendingPing after ping_interval: choose gossip, then pick 1"
  unfoldable pub send_ping : ℕ → Node A → List ℕ → Answer (Stepped A)
  send_ping now s ds =
      let c = spread address s in
      and_then (list.pick_from address.same address.blank s.own none 1 s.members ds) λ p rest.
      done (pinged now c.gossip (with_members c.node p.members) p.picks) rest

  -- "Alive or absent gives SendingPing, else SendingPingReq for the first and Declaring for the second"
  unfoldable pub heard : A → Node A → Bool
  heard a s = pick (lists address a s) (is_alive (state_of address a s)) true

  unfoldable pub waited : A → WaitState A → ℕ → Node A → List ℕ → Answer (Stepped A)
  waited a next now s ds = done (moves (pick (heard a s) SendingPing next) now s) ds

  -- "choose gossip for each": a PingReq goes to each peer of the group, in the order picked
  abbrev pub ask_each : A → List A → Node A → List (Message A) → Effect A
  ask_each suspect [] s sent = record { node = s; messages = sent; events = []; collected = 0 }
  ask_each suspect (a ∷ rest) s sent =
      let c = spread address s in
      ask_each suspect rest c.node (sent ++ (record { target = a; action = PingReq s.own suspect; gossip = c.gossip } ∷ []))

  -- "update to Suspected at the remembered number, emit even if absent"
  unfoldable pub suspect : A → ℕ → Node A → List ℕ → Answer (Out A)
  suspect a n s ds = emit address kind.Alive (record { event = Suspected s.own a n }) (change address a state.Suspected n s) ds

  -- "choose gossip for each, wait for PingReqAck": after the suspicion o, with the group p
  unfoldable pub asked : A → ℕ → ℕ → Out A → list.Picked A → Stepped A
  asked a n now o p =
      let e = ask_each a p.picks (with_members o.node p.members) [] in
      record {
        effect = record { node = e.node; messages = e.messages; events = o.said; collected = o.collected };
        wait = enters (WaitingForPingReqAck a n) now;
      }

  -- "pick the group without the suspect"
  unfoldable pub pick_group : A → Node A → List ℕ → Answer (list.Picked A)
  pick_group a s ds =
      list.pick_from address.same address.blank s.own (some a) s.settings.ping_req_group_size s.members ds

  unfoldable pub send_ping_req : A → ℕ → ℕ → Node A → List ℕ → Answer (Stepped A)
  send_ping_req a n now s ds =
      and_then (suspect a n s ds) λ o rest. and_then (pick_group a o.node rest) λ p rest₂. done (asked a n now o p) rest₂

  -- "Declaring at once: start a timer, SendingPing." Refusal 10
  unfoldable pub declare : A → ℕ → ℕ → Node A → List ℕ → Answer (Stepped A)
  declare a n now s ds =
      when (leb timer_places (length s.timers))
      (refused TimersFull)
      (done (moves SendingPing now (with_timers s (s.timers ++ (record { addr = a; number = n; since = now } ∷ [])))) ds)

  -- a step that is due, by the state
  abbrev pub step : WaitState A → ℕ → Node A → List ℕ → Answer (Stepped A)
  step SendingPing now s ds = send_ping now s ds
  step (WaitingForPingAck a n) now s ds = waited a (SendingPingReq a n) now s ds
  step (SendingPingReq a n) now s ds = send_ping_req a n now s ds
  step (WaitingForPingReqAck a n) now s ds = waited a (Declaring a n) now s ds
  step (Declaring a n) now s ds = declare a n now s ds

  -- "the earliest started that is over": its place in the row
  unfoldable pub first_over : ℕ → ℕ → List (Timer A) → Option ℕ
  first_over wait now [] = none
  first_over wait now (t ∷ ts) = elim (is_over wait now t.since) [ true ↦ some 0 | false ↦ later (first_over wait now ts) ]

  -- "an ended timer removes its address only if it is listed, not Alive, and its number is no greater than the timer's": judged by the list and the timer.
  -- The own address is no exception
  unfoldable pub fate_of : Timer A → List (Member A) → Fate
  fate_of t m =
      pick (list.listed address.same t.addr m)
      (pick (not (is_alive (list.held_state address.same t.addr m)) && leb (list.held address.same t.addr m) t.number) Leaves Stays)
      Absent

  -- "Deceased emitted at its number"; "otherwise the timer ends .. and emits nothing"
  unfoldable pub by_fate : Fate → Timer A → Node A → List ℕ → Answer (Out A)
  by_fate Leaves t s ds = emit address kind.Deceased (record { event = Deceased s.own t.addr t.number }) (leave address t.addr t.number s) ds
  by_fate Stays t s ds = quiet s ds
  by_fate Absent t s ds = quiet s ds

  -- the timer at a place of the row, and what becomes of its address
  abbrev pub timer_at : ℕ → Node A → Timer A
  timer_at i s = get_or s.timers i (no_timer address)

  abbrev pub fate_at : ℕ → Node A → Fate
  fate_at i s = fate_of (timer_at i s) s.members.table

  -- "its place reused"
  abbrev pub freed : ℕ → Node A → Node A
  freed i s = with_timers s (remove_at s.timers i)

  -- the timer at a place ends: its place is freed whatever its fate
  unfoldable pub end_at : ℕ → Node A → List ℕ → Answer (Out A)
  end_at i s ds = by_fate (fate_at i s) (timer_at i s) (freed i s) ds
