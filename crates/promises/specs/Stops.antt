-- WHAT STOPS THE RULES. The table's refusals 6 to 10, once a call's tests are passed: for each rule the tests that it makes on its way, in its order. For any type of address.
-- Assumes nothing.
use Rattle.std.specs.Prelude.{◌≡◌, ◌⊎◌, Bool, true, false, not, ◌&&◌, ◌||◌, List, [], ◌∷◌, ℕ, ◌+◌, ◌-◌, max, ◌≤◌, ◌<◌, length, get_or, take, leb, ltb}
use Rattle.std.proofs.Math.Option.{Option, none, some}
use Rattle.model.specs.declared.Kind.{Kind}
use Rattle.model.specs.declared.Kind.TheVariants as kind
use Rattle.model.specs.declared.Fate.{Fate}
use Rattle.model.specs.declared.Fate.TheVariants.{Leaves, Stays, Absent}
use Rattle.model.specs.declared.Refusal.{Refusal}
use Rattle.model.specs.declared.Refusal.TheVariants.{NumberEnd, ListFull, DrawsShort, AliveFull, TimersFull, DeceasedFull}
use Rattle.model.specs.Rows.{pick, count, every, is_empty}
use Rattle.model.specs.Bounds.{list_places, heap_places, timer_places, last_number}
use Rattle.model.specs.Answers.{done, full_of}
use Rattle.model.specs.Words.{Address, is_alive, parts_of, Event, Nothing, Joined, Recovered, Suspected, Deceased, Gossip, nothing, Timer, Action, Ping, WaitState, SendingPing, WaitingForPingAck, SendingPingReq, WaitingForPingReqAck, Declaring}
use Rattle.model.specs.Node.{Node, Out, lists, numbered, state_of, held_death}
use Rattle.model.specs.Handler.{believed, gossip}
use Rattle.model.specs.Detector.{is_over, first_over, timer_at}
use Rattle.promises.specs.Firsts.{FirstFails}
use Rattle.promises.specs.Reads.{pick_reads}

-- an event that is pushed: the heap that it goes to, whom it is about, and its number
pub record Push (A : Type 0) : Type 0 where
  pub heap : Kind
  pub about : A
  pub number : ℕ

-- what a gossip item, or a Ping's admission, asks for
pub record Wants (A : Type 0) : Type 0 where
  -- 6: one more than a number
  pub plus_one : Option ℕ
  -- 7, 8: that an address is added, at a place that is drawn
  pub adds : Bool
  -- 9 or 13: that an event is pushed
  pub pushes : Option (Push A)

abbrev pub nothing_wanted : {A : Type 0} → Wants A
nothing_wanted = record { plus_one = none; adds = false; pushes = none }

-- "D + 1 or 0"
abbrev pub plus_one_or0 : Option ℕ → ℕ
plus_one_or0 none = 0
plus_one_or0 (some d) = d + 1

-- the number is 2^64 − 1
abbrev pub at_end : Option ℕ → Bool
at_end none = false
at_end (some n) = leb last_number n

-- an event is pushed if a condition holds
abbrev pub push_if : {A : Type 0} → Bool → Kind → A → ℕ → Option (Push A)
push_if u heap a n = pick u (some (record { heap = heap; about = a; number = n })) none

-- and nothing else is asked for
abbrev pub push_only_if : {A : Type 0} → Bool → Kind → A → ℕ → Wants A
push_only_if u heap a n = record { plus_one = none; adds = false; pushes = push_if u heap a n }

-- the refusal of the heap that an event is pushed to; without an event there is none
abbrev pub full_for : {A : Type 0} → Option (Push A) → Refusal
full_for none = AliveFull
full_for (some p) = full_of p.heap

module _ {A : Type 0} where
  abbrev pub list_full : Node A → Bool
  list_full s = leb list_places (length s.members.table)

  abbrev pub timers_full : Node A → Bool
  timers_full s = leb timer_places (length s.timers)

  -- adding a peer that is not listed: 7, 8
  abbrev pub add_stops : Node A → List ℕ → List (Bool × Refusal)
  add_stops s ds = (list_full s, ListFull) ∷ (is_empty ds, DrawsShort) ∷ []

  -- an ended timer, by the fate of its address: if it leaves, Deceased is emitted, 13
  abbrev pub end_stops : Fate → Node A → List (Bool × Refusal)
  end_stops Leaves s = (leb heap_places (length s.disseminator.deceased), DeceasedFull) ∷ []
  end_stops Stays s = []
  end_stops Absent s = []

module _ {A : Type 0} (address : Address A) where
  -- "every event about X with a lower number": so many of the alive heap go where collecting is on
  abbrev pub stale : A → ℕ → Node A → ℕ
  stale a n s =
      pick s.settings.collect
      (count (λ e. address.same a (parts_of address e.gossip.event).subject && ltb (parts_of address e.gossip.event).number n) s.disseminator.alive)
      0

  -- how many entries a heap holds when an event about an address, at a number, comes to it: "Freed places are used before 9 is given."
  abbrev pub held_in : Kind → A → ℕ → Node A → ℕ
  held_in kind.Alive a n s = length s.disseminator.alive - stale a n s
  held_in kind.Deceased a n s = length s.disseminator.deceased

  abbrev pub heap_full : Kind → A → ℕ → Node A → Bool
  heap_full heap a n s = leb heap_places (held_in heap a n s)

  abbrev pub no_room : Option (Push A) → Node A → Bool
  no_room none s = false
  no_room (some p) s = heap_full p.heap p.about p.number s

  -- "Within one gossip item or ping admission: 6, 7, 8, 9", and 13 in 9's place
  abbrev pub wants_stops : Wants A → Node A → List ℕ → List (Bool × Refusal)
  wants_stops w s ds =
      (at_end w.plus_one, NumberEnd)
      ∷ (w.adds && list_full s, ListFull)
      ∷ (w.adds && is_empty ds, DrawsShort)
      ∷ (no_room w.pushes s, full_for w.pushes)
      ∷ []

  -- what a gossip item asks for, by the handler's rules
  abbrev pub item_wants : Event A → Node A → Wants A
  item_wants Nothing s = nothing_wanted
  item_wants (Joined f a n) s =
      let d = held_death address a s in
      let absent = not (lists address a s) in
      let number = max (plus_one_or0 d) n in
      record { plus_one = d; adds = absent; pushes = push_if (absent || ltb (numbered address a s) number) kind.Alive a number }
  item_wants (Recovered f a n) s = push_only_if (lists address a s && ltb (numbered address a s) n) kind.Alive a n
  item_wants (Suspected f a n) s =
      pick (address.same s.own a)
      (record { plus_one = some n; adds = false; pushes = some (record { heap = kind.Alive; about = s.own; number = n + 1 }) })
      (push_only_if (lists address a s && believed (state_of address a s) (numbered address a s) n) kind.Alive a n)
  item_wants (Deceased f a n) s = push_only_if (lists address a s && leb (numbered address a s) n) kind.Deceased a n

  -- what a Ping's sender asks for: nothing if it is listed
  abbrev pub admit_wants : A → Node A → Wants A
  admit_wants a s =
      let d = held_death address a s in
      pick (lists address a s)
      nothing_wanted
      (record { plus_one = d; adds = true; pushes = some (record { heap = kind.Alive; about = a; number = plus_one_or0 d }) })

  abbrev pub item_stops : Event A → Node A → List ℕ → List (Bool × Refusal)
  item_stops e s ds = wants_stops (item_wants e s) s ds

  abbrev pub admit_stops : A → Node A → List ℕ → List (Bool × Refusal)
  admit_stops a s ds = wants_stops (admit_wants a s) s ds

  -- how many draws the pick of a ping's target reads, and that of the group for a suspect
  abbrev pub ping_reads : Node A → List ℕ → ℕ
  ping_reads s ds = pick_reads address.same address.blank s.own none 1 s.members ds

  abbrev pub group_reads : A → Node A → List ℕ → ℕ
  group_reads a s ds = pick_reads address.same address.blank s.own (some a) s.settings.ping_req_group_size s.members ds

  -- a step that is due, by the state of the wait record: a ping's pick 8; the suspicion's event 9, then the group's pick 8; a new declaration 10
  abbrev pub step_stops : WaitState A → Node A → List ℕ → List (Bool × Refusal)
  step_stops SendingPing s ds = (ltb (length ds) (ping_reads s ds), DrawsShort) ∷ []
  step_stops (WaitingForPingAck a n) s ds = []
  step_stops (SendingPingReq a n) s ds = (heap_full kind.Alive a n s, AliveFull) ∷ (ltb (length ds) (group_reads a s ds), DrawsShort) ∷ []
  step_stops (WaitingForPingReqAck a n) s ds = []
  step_stops (Declaring a n) s ds = (timers_full s, TimersFull) ∷ []

-- ---- the message
module _ {A : Type 0} (address : Address A) (gs : List (Gossip A)) (s : Node A) (ds : List ℕ) (x : Refusal) where
  -- the rules get through the records before record k, counted from 0, and this one stops on the node and with the draws that they leave
  pub record StopsAt (k : ℕ) : Type 0 where
    pub there : k < length gs
    pub so_far : Out A
    pub left : List ℕ
    pub through : gossip address (take k gs) s ds ≡ done so_far left
    pub stops : FirstFails x (item_stops address (get_or gs k nothing).event so_far.node left)

  -- they get through all of them, and the admission of a Ping's sender stops
  pub data AdmissionStops : Action A → Type 0 where
    at_admission : {from : A} {by : Option A} (so_far : Out A) (left : List ℕ)
        → gossip address gs s ds ≡ done so_far left → FirstFails x (admit_stops address from so_far.node left) → AdmissionStops (Ping from by)

  -- a message stops at a record or at the admission
  pub data MessageStops : Action A → Type 0 where
    at_record : {action : Action A} (k : ℕ) → StopsAt k → MessageStops action
    at_sender : {action : Action A} → AdmissionStops action → MessageStops action

-- ---- the step and the timer call, in plain words
module _ {A : Type 0} where
  -- "a declaration is to start and 16 are running"
  abbrev pub StepTimersFull : WaitState A → Node A → Type 0
  StepTimersFull st s = (a : A) × (n : ℕ) × (st ≡ Declaring a n) × (timer_places ≤ length s.timers)

  -- "an event is to be pushed to a full heap"
  abbrev pub StepHeapFull : Address A → WaitState A → Node A → Type 0
  StepHeapFull address st s = (a : A) × (n : ℕ) × (st ≡ SendingPingReq a n) × (heap_places ≤ held_in address kind.Alive a n s)

  -- "a draw is needed past the end of the draws": by the ping's pick, or by the group's if the alive heap has room
  abbrev pub StepDrawsShort : Address A → WaitState A → Node A → List ℕ → Type 0
  StepDrawsShort address st s ds =
      ((st ≡ SendingPing) × (length ds < ping_reads address s ds))
      ⊎ ((a : A) × (n : ℕ) × (st ≡ SendingPingReq a n) × (held_in address kind.Alive a n s < heap_places) × (length ds < group_reads address a s ds))

  -- "an ended timer removes its address only if it is listed, not Alive, and its number is no greater than the timer's"
  abbrev pub Removes : Address A → Timer A → Node A → Type 0
  Removes address t s = (lists address t.addr s ≡ true) × (is_alive (state_of address t.addr s) ≡ false) × (numbered address t.addr s ≤ t.number)

  -- "refuted": listed, but Alive or at a greater number
  abbrev pub Refutes : Address A → Timer A → Node A → Type 0
  Refutes address t s = (lists address t.addr s ≡ true) × ((is_alive (state_of address t.addr s) ≡ true) ⊎ (t.number < numbered address t.addr s))

  -- "already gone": not listed
  abbrev pub IsGone : Address A → Timer A → Node A → Type 0
  IsGone address t s = lists address t.addr s ≡ false

  -- of the earliest started timer that is over something holds
  abbrev pub Over : Address A → ℕ → ℕ → Node A → (Timer A → Type 0) → Type 0
  Over address wait now s P = (i : ℕ) × (first_over address wait now s.timers ≡ some i) × P (timer_at address i s)

  -- no running timer is over
  abbrev pub over_none : ℕ → ℕ → List (Timer A) → Bool
  over_none wait now ts = every (λ t. not (is_over wait now t.since)) ts
