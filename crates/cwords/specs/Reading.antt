-- What rows of words say: the values of the rules that they are read as.
-- Assumes nothing.
use Rattle.std.specs.Prelude.{Bool, ◌&&◌, List, map, ℕ, ◌/◌, ◌%◌, get_or, eqb, ltb}
use Rattle.model.specs.declared.Settings.{Settings}
use Rattle.model.specs.declared.State.TheVariants.{Alive, Pending}
use Rattle.model.specs.declared.State.TheVariants as state
use Rattle.model.specs.Rows.{pick}
use Rattle.address.specs.Here.{Addr, here}
use Rattle.types.specs.declared.Event.{Event}
use Rattle.types.specs.declared.Event.TheVariants.{Nothing, Joined, Recovered, Suspected, Deceased}
use Rattle.types.specs.declared.Gossip.{Gossip}
use Rattle.types.specs.declared.Optional.{Optional}
use Rattle.types.specs.declared.Optional.TheVariants.{Absent, Given}
use Rattle.types.specs.declared.Action.{Action}
use Rattle.types.specs.declared.Action.TheVariants.{Ping, PingReq, Ack}
use Rattle.heap.specs.declared.Entry.{Entry}
use Rattle.member.specs.declared.Member.{Member}
use Rattle.member.specs.declared.Members.{Members}
use Rattle.disseminate.specs.declared.Disseminator.{Disseminator}
use Rattle.timers.specs.declared.Timer.{Timer}
use Rattle.departed.specs.declared.Departed.{Departed}
use Rattle.node.specs.declared.Node.{Node}
use Rattle.wait.specs.declared.WaitState.{WaitState}
use Rattle.wait.specs.declared.WaitState.TheVariants.{SendingPing, WaitingForPingAck, SendingPingReq, WaitingForPingReqAck, Declaring}
use Rattle.wait.specs.declared.Wait.{Wait}

-- an address that is in range nowhere: of no family, and not blank
abbrev pub nowhere : Addr
nowhere = record { family = 255; port = 0; high = 0; low = 0 }

-- family × 65536 + port, then the two halves; what is no family and port is an address that is in range nowhere
unfoldable pub address_of : ℕ → ℕ → ℕ → Addr
address_of first high low =
    pick (ltb first 16777216) (record { family = first / 65536; port = first % 65536; high = high; low = low }) nowhere

unfoldable pub address_in : List ℕ → Addr
address_in w = address_of (get_or w 0 0) (get_or w 1 0) (get_or w 2 0)

-- a number of 32 bits; a greater one is the greatest, which no wait may be
abbrev pub capped_to : ℕ → ℕ
capped_to w = pick (ltb w 4294967296) w 4294967295

-- the first wait, and one that no wait may be where a switch is neither on nor off
abbrev pub first_wait : ℕ → ℕ → ℕ → ℕ
first_wait w collect remember = pick (ltb collect 2 && ltb remember 2) (capped_to w) 4294967295

unfoldable pub settings_of : List ℕ → Settings
settings_of w =
    record {
      ping_interval = first_wait (get_or w 0 0) (get_or w 8 0) (get_or w 9 0);
      ping_timeout = capped_to (get_or w 1 0);
      ping_req_timeout = capped_to (get_or w 2 0);
      suspect_timeout = capped_to (get_or w 3 0);
      ping_req_group_size = get_or w 4 0;
      send_constant = get_or w 5 0;
      max_selected = get_or w 6 0;
      max_size = get_or w 7 0;
      collect = eqb (get_or w 8 0) 1;
      remember = eqb (get_or w 9 0) 1;
    }

abbrev pub zeroed : ℕ → Addr → ℕ → Bool
zeroed k a n = (eqb k 0 && here.same a here.blank) && eqb n 0

-- an event of its kind; what is none and not all zeros is a join from nowhere, which is valid nowhere
unfoldable pub event_of : ℕ → Addr → Addr → ℕ → Event
event_of k f s n =
    pick (eqb k 1) (Joined f s n)
    (pick (eqb k 2) (Recovered f s n)
    (pick (eqb k 3) (Suspected f s n)
    (pick (eqb k 4) (Deceased f s n)
    (pick (zeroed k f n && here.same s here.blank) Nothing
    (Joined nowhere s n)))))

-- kind, from, subject, number
unfoldable pub gossip_of : List ℕ → Gossip
gossip_of w = record { event = event_of (get_or w 0 0) (address_of (get_or w 1 0) (get_or w 2 0) (get_or w 3 0)) (address_of (get_or w 4 0) (get_or w 5 0) (get_or w 6 0)) (get_or w 7 0) }

-- a record, its sends and its size
unfoldable pub entry_of : List ℕ → Entry
entry_of w =
    record {
      gossip = record { event = event_of (get_or w 0 0) (address_of (get_or w 1 0) (get_or w 2 0) (get_or w 3 0)) (address_of (get_or w 4 0) (get_or w 5 0) (get_or w 6 0)) (get_or w 7 0) };
      sends = get_or w 8 0;
      size = get_or w 9 0;
    }

-- address, state, number
unfoldable pub member_as : Addr → ℕ → ℕ → Member
member_as a s n =
    pick (eqb s 0) (record { addr = a; state = Alive; number = n })
    (pick (eqb s 1) (record { addr = a; state = Pending; number = n })
    (pick (eqb s 2) (record { addr = a; state = state.Suspected; number = n })
    (record { addr = nowhere; state = Alive; number = n })))

unfoldable pub member_of : List ℕ → Member
member_of w = member_as (address_of (get_or w 0 0) (get_or w 1 0) (get_or w 2 0)) (get_or w 3 0) (get_or w 4 0)

-- address, number, tick
unfoldable pub timer_as : Addr → ℕ → ℕ → Timer
timer_as a n t = pick (ltb t 4294967296) (record { addr = a; number = n; since = t }) (record { addr = nowhere; number = n; since = 0 })

unfoldable pub timer_of : List ℕ → Timer
timer_of w = timer_as (address_of (get_or w 0 0) (get_or w 1 0) (get_or w 2 0)) (get_or w 3 0) (get_or w 4 0)

unfoldable pub departed_of : List ℕ → Departed
departed_of w = record { addr = address_of (get_or w 0 0) (get_or w 1 0) (get_or w 2 0); number = get_or w 3 0 }

unfoldable pub state_of : ℕ → Addr → ℕ → WaitState
state_of k a n =
    pick (eqb k 1) (WaitingForPingAck a n)
    (pick (eqb k 2) (SendingPingReq a n)
    (pick (eqb k 3) (WaitingForPingReqAck a n)
    (pick (eqb k 4) (Declaring a n)
    (pick (zeroed k a n) SendingPing
    (WaitingForPingAck nowhere n)))))

-- state, target, number, since
unfoldable pub wait_of : List ℕ → Wait
wait_of w =
    pick (ltb (get_or w 5 0) 4294967296)
    (record { state = state_of (get_or w 0 0) (address_of (get_or w 1 0) (get_or w 2 0) (get_or w 3 0)) (get_or w 4 0); since = get_or w 5 0 })
    (record { state = WaitingForPingAck nowhere (get_or w 4 0); since = 0 })

-- absent where the first word is 2^64 - 1
unfoldable pub optional_of : ℕ → ℕ → ℕ → Optional
optional_of first high low = pick (eqb first 18446744073709551615) Absent (Given (address_of first high low))

unfoldable pub optional_in : List ℕ → Optional
optional_in w = optional_of (get_or w 0 0) (get_or w 1 0) (get_or w 2 0)

-- kind, from, and the other address
unfoldable pub action_as : ℕ → Addr → ℕ → ℕ → ℕ → Action
action_as k f first high low =
    pick (eqb k 1) (Ping f (optional_of first high low))
    (pick (eqb k 3) (Ack f (optional_of first high low))
    (pick (eqb k 2) (PingReq f (address_of first high low))
    (PingReq nowhere (address_of first high low))))

unfoldable pub action_of : List ℕ → Action
action_of w = action_as (get_or w 0 0) (address_of (get_or w 1 0) (get_or w 2 0) (get_or w 3 0)) (get_or w 4 0) (get_or w 5 0) (get_or w 6 0)

-- the list, with its order and its lamps
unfoldable pub members_of : List ℕ → List (List ℕ) → List (List ℕ) → Members
members_of w order members =
    record {
      table = map member_of members;
      len = get_or w 13 0;
      order = record { row = map address_in order; position = get_or w 14 0 };
      lamps = record { alive = get_or w 15 0; pending = get_or w 16 0; suspected = get_or w 17 0 };
    }

-- the two heaps
unfoldable pub disseminator_of : List ℕ → List (List ℕ) → List (List ℕ) → Disseminator
disseminator_of w alive deceased =
    record {
      alive = record { entries = map entry_of alive; len = get_or w 18 0 };
      deceased = record { entries = map entry_of deceased; len = get_or w 19 0 };
    }

-- the rows of words of a node
pub record Rows : Type 0 where
  pub head : List ℕ
  pub order : List (List ℕ)
  pub members : List (List ℕ)
  pub alive : List (List ℕ)
  pub deceased : List (List ℕ)
  pub timers : List (List ℕ)
  pub departed : List (List ℕ)

abbrev pub rows : List ℕ → List (List ℕ) → List (List ℕ) → List (List ℕ) → List (List ℕ) → List (List ℕ) → List (List ℕ) → Rows
rows h o m a d t g = record { head = h; order = o; members = m; alive = a; deceased = d; timers = t; departed = g }

-- a node, from its rows of words
unfoldable pub node_of : Rows → Node
node_of w =
    record {
      settings = settings_of w.head;
      own = address_of (get_or w.head 10 0) (get_or w.head 11 0) (get_or w.head 12 0);
      members = members_of w.head w.order w.members;
      disseminator = disseminator_of w.head w.alive w.deceased;
      timers = record { entries = map timer_of w.timers; len = get_or w.head 20 0 };
      departed = record { entries = map departed_of w.departed; len = get_or w.head 21 0 };
    }
