-- The words of the rules: addresses, events, gossip, members, timers, messages. For any type of address.
-- Assumes nothing.
use Rattle.std.specs.Prelude.{Bool, true, false, ◌&&◌, List, ℕ, eqb}
use Rattle.std.proofs.Math.Option.{Option}
use Rattle.model.specs.declared.State.{State}
use Rattle.model.specs.declared.State.TheVariants.{Alive, Pending}
use Rattle.model.specs.declared.State.TheVariants as state
use Rattle.model.specs.Rows.{Test}

-- What the rules ask of an address: a test for equality, the address of an unused place, the range, and the length of its text
pub record Address (A : Type 0) : Type 0 where
  pub same : A → A → Bool
  pub blank : A
  pub valid : A → Bool
  pub chars : A → ℕ

-- and what the theorems ask of it: the test is true of equals alone
pub record Lawful {A : Type 0} (address : Address A) : Type 0 where
  pub test : Test address.same

module _ (A : Type 0) where
  -- "A gossip record holds one of four events or none": from, the address it is about, and its number
  pub data Event : Type 0 where
    Nothing : Event
    Joined Recovered Suspected Deceased : A → A → ℕ → Event

  pub record Gossip : Type 0 where
    pub event : Event

  pub record Parts : Type 0 where
    pub kind : ℕ
    pub from : A
    pub subject : A
    pub number : ℕ

  -- what a heap holds: a gossip, how often it was sent, and its size on the wire
  pub record Entry : Type 0 where
    pub gossip : Gossip
    pub sends : ℕ
    pub size : ℕ

  pub record Member : Type 0 where
    pub addr : A
    pub state : State
    pub number : ℕ

  -- a running declaration: whom, the number it will name, and the tick it was started at
  pub record Timer : Type 0 where
    pub addr : A
    pub number : ℕ
    pub since : ℕ

  -- a departed address, and the greatest number seen at its removals
  pub record Departed : Type 0 where
    pub addr : A
    pub number : ℕ

  -- "The wait record, state and tick of entry"
  pub data WaitState : Type 0 where
    SendingPing : WaitState
    WaitingForPingAck SendingPingReq WaitingForPingReqAck Declaring : A → ℕ → WaitState

  pub record Wait : Type 0 where
    pub state : WaitState
    pub since : ℕ

  -- "An absent requested_by or forward_to is a case of its own"
  pub data Action : Type 0 where
    Ping Ack : A → Option A → Action
    PingReq : A → A → Action

  -- a message to be sent, with its gossip
  pub record Message : Type 0 where
    pub target : A
    pub action : Action
    pub gossip : List Gossip

abbrev pub is_alive : State → Bool
is_alive Alive = true
is_alive Pending = false
is_alive state.Suspected = false

module _ {A : Type 0} where
  -- "a gossip record of no event"
  abbrev pub nothing : Gossip A
  nothing = record { event = Nothing }

  abbrev pub unused : Entry A
  unused = record { gossip = nothing; sends = 0; size = 0 }

  abbrev pub sends_of : Entry A → ℕ
  sends_of e = e.sends

module _ {A : Type 0} (address : Address A) where
  abbrev pub blank_member : Member A
  blank_member = record { addr = address.blank; state = Alive; number = 0 }

  abbrev pub no_timer : Timer A
  no_timer = record { addr = address.blank; number = 0; since = 0 }

  abbrev pub no_departed : Departed A
  no_departed = record { addr = address.blank; number = 0 }

  -- an event by its parts: its kind, 0 for none, and what it holds; of no event each part is that of an unused place
  unfoldable pub parts_of : Event A → Parts A
  parts_of Nothing = record { kind = 0; from = address.blank; subject = address.blank; number = 0 }
  parts_of (Joined f s n) = record { kind = 1; from = f; subject = s; number = n }
  parts_of (Recovered f s n) = record { kind = 2; from = f; subject = s; number = n }
  parts_of (Suspected f s n) = record { kind = 3; from = f; subject = s; number = n }
  parts_of (Deceased f s n) = record { kind = 4; from = f; subject = s; number = n }

  abbrev pub same_parts : Parts A → Parts A → Bool
  same_parts p q =
      eqb p.kind q.kind
      && address.same p.from q.from
      && address.same p.subject q.subject
      && eqb p.number q.number

  -- two gossips are equal
  unfoldable pub same_gossip : Gossip A → Gossip A → Bool
  same_gossip g h = same_parts (parts_of g.event) (parts_of h.event)
