-- What is written is read back.
-- Assumes nothing.
use Rattle.std.specs.Prelude.{◌≡◌, refl, Bool, true, false, List, [], map, ℕ, ◌+◌, ◌*◌, ◌/◌, ◌%◌, ◌<◌, eqb, ltb, get_or}
use Rattle.std.proofs.Common.{ap, ◌∙◌, arith, lt-ltb, ne_eqb}
use Rattle.model.specs.declared.State.{State}
use Rattle.model.specs.declared.State.TheVariants as state
use Rattle.model.specs.declared.Settings.{Settings}
use Rattle.model.specs.Rows.{pick}
use Rattle.model.specs.Words.{parts_of}
use Rattle.address.specs.Here.{Addr, here}
use Rattle.address.specs.Families.{same_address}
use Rattle.types.specs.declared.Event.{Event}
use Rattle.types.specs.declared.Event.TheVariants.{Nothing, Joined, Recovered, Suspected, Deceased}
use Rattle.types.specs.declared.Gossip.{Gossip}
use Rattle.types.specs.declared.Optional.{Optional}
use Rattle.types.specs.declared.Optional.TheVariants.{Absent, Given}
use Rattle.types.specs.declared.Action.{Action}
use Rattle.types.specs.declared.Action.TheVariants.{Ping, PingReq, Ack}
use Rattle.types.specs.Views.{to_event}
use Rattle.heap.specs.declared.Entry.{Entry}
use Rattle.member.specs.declared.Member.{Member}
use Rattle.timers.specs.declared.Timer.{Timer}
use Rattle.departed.specs.declared.Departed.{Departed}
use Rattle.node.specs.declared.Node.{Node}
use Rattle.wait.specs.declared.WaitState.{WaitState}
use Rattle.wait.specs.declared.WaitState.TheVariants.{SendingPing, WaitingForPingAck, SendingPingReq, WaitingForPingReqAck, Declaring}
use Rattle.wait.specs.declared.Wait.{Wait}
use Rattle.cwords.specs.Reading.{nowhere, address_of, address_in, event_of, gossip_of, entry_of, member_as, member_of, timer_as, timer_of, departed_of, state_of, wait_of, optional_of, optional_in, action_as, action_of, capped_to, first_wait, settings_of, members_of, disseminator_of, Rows, rows, node_of}
use Rattle.cwords.specs.Writing.{Narrow, first_word, address_words, gossip_words, entry_words, state_word, member_words, timer_words, departed_words, wait_state_words, wait_words, then_optional, optional_words, action_then, action_words, switch_word, head_words, rows_of}

pub address_back : (a : Addr) → Narrow a → address_of (first_word a) a.high a.low ≡ a
unfolding address_of first_word
address_back a h =
    let t : a.family * 65536 + a.port < 16777216 = omega (arith, h.0, h.1) in
    let f : (a.family * 65536 + a.port) / 65536 ≡ a.family = omega (arith, h.0, h.1) in
    let p : (a.family * 65536 + a.port) % 65536 ≡ a.port = omega (arith, h.0, h.1) in
    rw (lt-ltb _ _ t) (λ i. record { family = f i; port = p i; high = a.high; low = a.low })

pub address_in-back : (a : Addr) → Narrow a → address_in (address_words a) ≡ a
unfolding address_in address_words
address_in-back a h = address_back a h

-- the addresses of an event are narrow
abbrev pub NarrowEvent : Event → Type 0
NarrowEvent e = Narrow (parts_of here (to_event e)).from × Narrow (parts_of here (to_event e)).subject

parts_back : (e : Event) → event_of (parts_of here (to_event e)).kind (parts_of here (to_event e)).from (parts_of here (to_event e)).subject (parts_of here (to_event e)).number ≡ e
unfolding parts_of event_of same_address
parts_back Nothing = refl
parts_back (Joined f s n) = refl
parts_back (Recovered f s n) = refl
parts_back (Suspected f s n) = refl
parts_back (Deceased f s n) = refl

pub gossip-back : (g : Gossip) → NarrowEvent g.event → gossip_of (gossip_words g) ≡ g
unfolding gossip_of gossip_words
gossip-back g h =
    let p = parts_of here (to_event g.event) in
    (λ i. record { event = event_of p.kind (address_back p.from h.0 i) (address_back p.subject h.1 i) p.number })
    ∙ (λ i. record { event = parts_back g.event i })

pub entry-back : (e : Entry) → NarrowEvent e.gossip.event → entry_of (entry_words e) ≡ e
unfolding entry_of entry_words
entry-back e h =
    let p = parts_of here (to_event e.gossip.event) in
    (λ i. record { gossip = record { event = event_of p.kind (address_back p.from h.0 i) (address_back p.subject h.1 i) p.number }; sends = e.sends; size = e.size })
    ∙ (λ i. record { gossip = record { event = parts_back e.gossip.event i }; sends = e.sends; size = e.size })

state_back : (a : Addr) (n : ℕ) (s : State) → member_as a (state_word s) n ≡ record { addr = a; state = s; number = n }
unfolding member_as
state_back a n state.Alive = refl
state_back a n state.Pending = refl
state_back a n state.Suspected = refl

pub member_back : (m : Member) → Narrow m.addr → member_of (member_words m) ≡ m
unfolding member_of member_words
member_back m h =
    ap (λ (a : Addr). member_as a (state_word m.state) m.number) (address_back m.addr h) ∙ state_back m.addr m.number m.state

pub timer_back : (t : Timer) → Narrow t.addr → t.since < 4294967296 → timer_of (timer_words t) ≡ t
unfolding timer_of timer_words timer_as
timer_back t h k =
    rw (lt-ltb _ _ k) (λ i. record { addr = address_back t.addr h i; number = t.number; since = t.since })

pub departed_back : (d : Departed) → Narrow d.addr → departed_of (departed_words d) ≡ d
unfolding departed_of departed_words
departed_back d h = λ i. record { addr = address_back d.addr h i; number = d.number }

-- a state of the detector, in words that stand before its tick
abbrev state_in : List ℕ → WaitState
state_in w = state_of (get_or w 0 0) (address_of (get_or w 1 0) (get_or w 2 0) (get_or w 3 0)) (get_or w 4 0)

abbrev pub NarrowState : WaitState → Type 0
NarrowState SendingPing = Unit {0}
NarrowState (WaitingForPingAck a n) = Narrow a
NarrowState (SendingPingReq a n) = Narrow a
NarrowState (WaitingForPingReqAck a n) = Narrow a
NarrowState (Declaring a n) = Narrow a

detector_back : (s : WaitState) (t : ℕ) → NarrowState s → state_in (wait_state_words s t) ≡ s
unfolding state_of address_of same_address
detector_back SendingPing t h = refl
detector_back (WaitingForPingAck a n) t h = ap (λ (x : Addr). WaitingForPingAck x n) (address_back a h)
detector_back (SendingPingReq a n) t h = ap (λ (x : Addr). SendingPingReq x n) (address_back a h)
detector_back (WaitingForPingReqAck a n) t h = ap (λ (x : Addr). WaitingForPingReqAck x n) (address_back a h)
detector_back (Declaring a n) t h = ap (λ (x : Addr). Declaring x n) (address_back a h)

since-word : (s : WaitState) (t : ℕ) → get_or (wait_state_words s t) 5 0 ≡ t
since-word SendingPing t = refl
since-word (WaitingForPingAck a n) t = refl
since-word (SendingPingReq a n) t = refl
since-word (WaitingForPingReqAck a n) t = refl
since-word (Declaring a n) t = refl

pub wait-back : (w : Wait) → NarrowState w.state → w.since < 4294967296 → wait_of (wait_words w) ≡ w
unfolding wait_of wait_words
wait-back w h k =
    let l = wait_state_words w.state w.since in
    let t : ltb (get_or l 5 0) 4294967296 ≡ true = ap (λ (x : ℕ). ltb x 4294967296) (since-word w.state w.since) ∙ lt-ltb w.since 4294967296 k in
    ap (λ (b : Bool). pick {B = Wait} b (record { state = state_in l; since = get_or l 5 0 }) (record { state = WaitingForPingAck nowhere (get_or l 4 0); since = 0 })) t
    ∙ (λ i. record { state = detector_back w.state w.since h i; since = since-word w.state w.since i })

abbrev pub NarrowOption : Optional → Type 0
NarrowOption Absent = Unit {0}
NarrowOption (Given a) = Narrow a

pub optional_back : (o : Optional) → NarrowOption o → optional_in (optional_words o) ≡ o
unfolding optional_in optional_words optional_of first_word
optional_back Absent h = refl
optional_back (Given a) h =
    let t : (a.family * 65536 + a.port ≡ 18446744073709551615) → ⊥ = λ e. omega (arith, h.0, h.1, e) in
    rw (ne_eqb _ _ t) (ap Given (address_back a h))

optional_then : (o : Optional) (l : List ℕ) → NarrowOption o → optional_of (get_or (then_optional o l) 0 0) (get_or (then_optional o l) 1 0) (get_or (then_optional o l) 2 0) ≡ o
unfolding optional_in optional_words
optional_then Absent l h = optional_back Absent h
optional_then (Given a) l h = optional_back (Given a) h

abbrev pub NarrowAction : Action → Type 0
NarrowAction (Ping f o) = Narrow f × NarrowOption o
NarrowAction (PingReq f s) = Narrow f × Narrow s
NarrowAction (Ack f o) = Narrow f × NarrowOption o

abbrev action_at : List ℕ → Action
action_at w = action_as (get_or w 0 0) (address_of (get_or w 1 0) (get_or w 2 0) (get_or w 3 0)) (get_or w 4 0) (get_or w 5 0) (get_or w 6 0)

action-then : (a : Action) (l : List ℕ) → NarrowAction a → action_at (action_then a l) ≡ a
unfolding action_as
action-then (Ping f o) l h = λ i. Ping (address_back f h.0 i) (optional_then o l h.1 i)
action-then (PingReq f s) l h = λ i. PingReq (address_back f h.0 i) (address_back s h.1 i)
action-then (Ack f o) l h = λ i. Ack (address_back f h.0 i) (optional_then o l h.1 i)

pub action_back : (a : Action) → NarrowAction a → action_of (action_words a) ≡ a
unfolding action_of action_words
action_back a h = action-then a [] h

capped_back : (w : ℕ) → w < 4294967296 → capped_to w ≡ w
capped_back w h = ap (λ (b : Bool). pick b w 4294967295) (lt-ltb w 4294967296 h)

wait-first : (w : ℕ) (c r : Bool) → w < 4294967296 → first_wait w (switch_word c) (switch_word r) ≡ w
wait-first w true true h = capped_back w h
wait-first w true false h = capped_back w h
wait-first w false true h = capped_back w h
wait-first w false false h = capped_back w h

switch_back : (b : Bool) → eqb (switch_word b) 1 ≡ b
switch_back true = refl
switch_back false = refl

-- the waits of a node's settings are of 32 bits, and its own address is narrow
abbrev pub NarrowWaits : Settings → Type 0
NarrowWaits s = (s.ping_interval < 4294967296) × (s.ping_timeout < 4294967296) × (s.ping_req_timeout < 4294967296) × (s.suspect_timeout < 4294967296)

abbrev pub NarrowHead : Node → Type 0
NarrowHead n = NarrowWaits n.settings × Narrow n.own

settings-back : (n : Node) → NarrowHead n → settings_of (head_words n) ≡ n.settings
unfolding settings_of head_words
settings-back n h =
    let s = n.settings in
    λ i. record {
      ping_interval = wait-first s.ping_interval s.collect s.remember h.0.0 i;
      ping_timeout = capped_back s.ping_timeout h.0.1 i;
      ping_req_timeout = capped_back s.ping_req_timeout h.0.2 i;
      suspect_timeout = capped_back s.suspect_timeout h.0.3 i;
      ping_req_group_size = s.ping_req_group_size;
      send_constant = s.send_constant;
      max_selected = s.max_selected;
      max_size = s.max_size;
      collect = switch_back s.collect i;
      remember = switch_back s.remember i;
    }

-- the rows of a node are read back
pub record Backs (n : Node) (r : Rows) : Type 0 where
  pub head : r.head ≡ head_words n
  pub narrow : NarrowHead n
  pub order : map address_in r.order ≡ n.members.order.row
  pub members : map member_of r.members ≡ n.members.table
  pub alive : map entry_of r.alive ≡ n.disseminator.alive.entries
  pub deceased : map entry_of r.deceased ≡ n.disseminator.deceased.entries
  pub timers : map timer_of r.timers ≡ n.timers.entries
  pub departed : map departed_of r.departed ≡ n.departed.entries

-- the head's words before any other rows
with_head : (n : Node) (r : Rows) → Backs n r
    → node_of (rows (head_words n) r.order r.members r.alive r.deceased r.timers r.departed) ≡ n
unfolding node_of members_of disseminator_of head_words
with_head n r b =
    λ i. record {
      settings = settings-back n b.narrow i;
      own = address_back n.own b.narrow.1 i;
      members =
          record {
            table = b.members i;
            len = n.members.len;
            order = record { row = b.order i; position = n.members.order.position };
            lamps = n.members.lamps;
          };
      disseminator =
          record {
            alive = record { entries = b.alive i; len = n.disseminator.alive.len };
            deceased = record { entries = b.deceased i; len = n.disseminator.deceased.len };
          };
      timers = record { entries = b.timers i; len = n.timers.len };
      departed = record { entries = b.departed i; len = n.departed.len };
    }

-- and so is the node
pub node-back : (n : Node) (r : Rows) → Backs n r → node_of r ≡ n
node-back n r b =
    ap (λ (w : List ℕ). node_of (rows w r.order r.members r.alive r.deceased r.timers r.departed)) b.head
    ∙ with_head n r b

-- a node was put into rows of words: they are its words, and they are read as that node again
pub record Puts (n : Node) (r : Rows) : Type 0 where
  pub words : r ≡ rows_of n
  pub back : node_of r ≡ n

-- a row that is written and read back
abbrev Row : {A : Type 0} → (A → List ℕ) → (List ℕ → A) → List (List ℕ) → List A → Type 0
Row f g l vs = (l ≡ map f vs) × (map g l ≡ vs)

-- each row was
pub puts : (n : Node) (r : Rows) → (r.head ≡ head_words n) × NarrowHead n → Row address_words address_in r.order n.members.order.row
    → Row member_words member_of r.members n.members.table → Row entry_words entry_of r.alive n.disseminator.alive.entries
    → Row entry_words entry_of r.deceased n.disseminator.deceased.entries → Row timer_words timer_of r.timers n.timers.entries
    → Row departed_words departed_of r.departed n.departed.entries → Puts n r
unfolding rows_of
puts n r h o m a d t g =
    record {
      words = λ i. rows (h.0 i) (o.0 i) (m.0 i) (a.0 i) (d.0 i) (t.0 i) (g.0 i);
      back =
          node-back n r
          (record {
            head = h.0;
            narrow = h.1;
            order = o.1;
            members = m.1;
            alive = a.1;
            deceased = d.1;
            timers = t.1;
            departed = g.1;
          });
    }
