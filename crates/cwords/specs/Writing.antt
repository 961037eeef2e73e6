-- The words of the values of the rules.
-- Assumes nothing.
use Rattle.std.specs.Prelude.{Bool, true, false, List, [], ◌∷◌, map, ℕ, ◌+◌, ◌*◌, ◌<◌, ltb, get_or}
use Rattle.model.specs.declared.State.{State}
use Rattle.model.specs.declared.State.TheVariants as state
use Rattle.model.specs.declared.Settings.{Settings}
use Rattle.model.specs.declared.Cause.{Cause}
use Rattle.model.specs.declared.Cause.TheVariants as cause
use Rattle.model.specs.declared.Reply.{Reply}
use Rattle.model.specs.declared.Reply.TheVariants as reply
use Rattle.model.specs.Answers.{number_of}
use Rattle.model.specs.Rows.{pick}
use Rattle.model.specs.Words.{parts_of}
use Rattle.model.specs.Words as W
use Rattle.address.specs.Here.{Addr, here}
use Rattle.types.specs.declared.Gossip.{Gossip}
use Rattle.types.specs.declared.Optional.{Optional}
use Rattle.types.specs.declared.Optional.TheVariants.{Absent, Given}
use Rattle.types.specs.declared.Action.{Action}
use Rattle.types.specs.declared.Action.TheVariants.{Ping, PingReq, Ack}
use Rattle.types.specs.Views.{to_event}
use Rattle.heap.specs.declared.Entry.{Entry}
use Rattle.member.specs.declared.Member.{Member}
use Rattle.timers.specs.declared.Timer.{Timer}
use Rattle.departed.specs.declared.Departed.{Departed}
use Rattle.node.specs.declared.Node.{Node}
use Rattle.node.specs.declared.Letter.{Letter}
use Rattle.wait.specs.declared.WaitState.{WaitState}
use Rattle.wait.specs.declared.WaitState.TheVariants.{SendingPing, WaitingForPingAck, SendingPingReq, WaitingForPingReqAck, Declaring}
use Rattle.wait.specs.declared.Wait.{Wait}
use Rattle.cwords.specs.Reading.{address_of, action_as, Rows}

-- family and port are of 8 and of 16 bits
abbrev pub Narrow : Addr → Type 0
Narrow a = (a.family < 256) × (a.port < 65536)

unfoldable pub first_word : Addr → ℕ
first_word a = a.family * 65536 + a.port

-- an address before other words
abbrev pub address_then : Addr → List ℕ → List ℕ
address_then a l = first_word a ∷ a.high ∷ a.low ∷ l

unfoldable pub address_words : Addr → List ℕ
address_words a = address_then a []

abbrev pub parts_words : W.Parts Addr → List ℕ → List ℕ
parts_words p l = p.kind ∷ address_then p.from (address_then p.subject (p.number ∷ l))

unfoldable pub gossip_words : Gossip → List ℕ
gossip_words g = parts_words (parts_of here (to_event g.event)) []

unfoldable pub entry_words : Entry → List ℕ
entry_words e = parts_words (parts_of here (to_event e.gossip.event)) (e.sends ∷ e.size ∷ [])

abbrev pub state_word : State → ℕ
state_word state.Alive = 0
state_word state.Pending = 1
state_word state.Suspected = 2

unfoldable pub member_words : Member → List ℕ
member_words m = address_then m.addr (state_word m.state ∷ m.number ∷ [])

unfoldable pub timer_words : Timer → List ℕ
timer_words t = address_then t.addr (t.number ∷ t.since ∷ [])

unfoldable pub departed_words : Departed → List ℕ
departed_words d = address_then d.addr (d.number ∷ [])

-- a state of the detector: its kind, its target and its number
abbrev pub target_words : ℕ → Addr → ℕ → ℕ → List ℕ
target_words k a n t = k ∷ address_then a (n ∷ t ∷ [])

abbrev pub wait_state_words : WaitState → ℕ → List ℕ
wait_state_words SendingPing t = 0 ∷ 0 ∷ 0 ∷ 0 ∷ 0 ∷ t ∷ []
wait_state_words (WaitingForPingAck a n) t = target_words 1 a n t
wait_state_words (SendingPingReq a n) t = target_words 2 a n t
wait_state_words (WaitingForPingReqAck a n) t = target_words 3 a n t
wait_state_words (Declaring a n) t = target_words 4 a n t

unfoldable pub wait_words : Wait → List ℕ
wait_words w = wait_state_words w.state w.since

-- 2^64 - 1 where there is no address
abbrev pub then_optional : Optional → List ℕ → List ℕ
then_optional Absent l = 18446744073709551615 ∷ 0 ∷ 0 ∷ l
then_optional (Given a) l = address_then a l

unfoldable pub optional_words : Optional → List ℕ
optional_words o = then_optional o []

abbrev pub action_then : Action → List ℕ → List ℕ
action_then (Ping f o) l = 1 ∷ address_then f (then_optional o l)
action_then (PingReq f s) l = 2 ∷ address_then f (address_then s l)
action_then (Ack f o) l = 3 ∷ address_then f (then_optional o l)

unfoldable pub action_words : Action → List ℕ
action_words a = action_then a []

-- target, action, count
unfoldable pub letter_words : Letter → List ℕ
letter_words l = address_then l.target (action_then l.action (l.count ∷ []))

-- the action that a letter's words say
unfoldable pub action_in : List ℕ → Action
action_in w = action_as (get_or w 3 0) (address_of (get_or w 4 0) (get_or w 5 0) (get_or w 6 0)) (get_or w 7 0) (get_or w 8 0) (get_or w 9 0)

abbrev pub switch_word : Bool → ℕ
switch_word true = 1
switch_word false = 0

abbrev pub settings_then : Settings → List ℕ → List ℕ
settings_then s l =
    s.ping_interval
    ∷ s.ping_timeout
    ∷ s.ping_req_timeout
    ∷ s.suspect_timeout
    ∷ s.ping_req_group_size
    ∷ s.send_constant
    ∷ s.max_selected
    ∷ s.max_size
    ∷ switch_word s.collect
    ∷ switch_word s.remember
    ∷ l

-- settings, own address, how many are listed, the place probed next, the lamps, and how long the other rows are
unfoldable pub head_words : Node → List ℕ
head_words n =
    settings_then n.settings
    (address_then n.own
    (n.members.len
    ∷ n.members.order.position
    ∷ n.members.lamps.alive
    ∷ n.members.lamps.pending
    ∷ n.members.lamps.suspected
    ∷ n.disseminator.alive.len
    ∷ n.disseminator.deceased.len
    ∷ n.timers.len
    ∷ n.departed.len
    ∷ []))

-- a node, in its rows of words
unfoldable pub rows_of : Node → Rows
rows_of n =
    record {
      head = head_words n;
      order = map address_words n.members.order.row;
      members = map member_words n.members.table;
      alive = map entry_words n.disseminator.alive.entries;
      deceased = map entry_words n.disseminator.deceased.entries;
      timers = map timer_words n.timers.entries;
      departed = map departed_words n.departed.entries;
    }

-- where a message's rules stopped: 1 to 64 for a record, 65 for the sender
abbrev pub record_word : ℕ → ℕ
record_word i = pick (ltb i 64) (i + 1) 0

abbrev pub place_word : Cause → ℕ
place_word (cause.Record i) = record_word i
place_word cause.Sender = 65

-- 0 where a call was kept, 20 "already", 21 "not due", else the number of a refusal, and 256 times where a message's rules stopped
abbrev pub code_of : Reply → ℕ
code_of (reply.Done used) = 0
code_of reply.Already = 20
code_of reply.NotDue = 21
code_of reply.Refuted = 0
code_of reply.Gone = 0
code_of (reply.Refused r) = number_of r
code_of (reply.RefusedAt r at) = number_of r + 256 * place_word at

abbrev pub used_of : Reply → ℕ
used_of (reply.Done used) = used
used_of reply.Already = 0
used_of reply.NotDue = 0
used_of reply.Refuted = 0
used_of reply.Gone = 0
used_of (reply.Refused r) = 0
used_of (reply.RefusedAt r at) = 0

-- what became of a timer's address: 1 it was refuted and stays, 2 it had gone already, else 0
abbrev pub fate_of : Reply → ℕ
fate_of (reply.Done used) = 0
fate_of reply.Already = 0
fate_of reply.NotDue = 0
fate_of reply.Refuted = 1
fate_of reply.Gone = 2
fate_of (reply.Refused r) = 0
fate_of (reply.RefusedAt r at) = 0
