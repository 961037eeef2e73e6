-- "Handler": what a message does. An event is judged by the list, the own address and D; then the verdict is carried out.
-- Assumes nothing.
use Rattle.std.specs.Prelude.{Bool, ◌&&◌, not, List, [], ◌∷◌, ℕ, suc, max, length, eqb, ltb, leb}
use Rattle.std.proofs.Math.Option.{Option, none, some}
use Rattle.model.specs.declared.State.{State}
use Rattle.model.specs.declared.State.TheVariants as state
use Rattle.model.specs.declared.Kind.{Kind}
use Rattle.model.specs.declared.Kind.TheVariants as kind
use Rattle.model.specs.declared.Refusal.TheVariants.{NumberEnd}
use Rattle.model.specs.declared.Cause.{Cause}
use Rattle.model.specs.declared.Cause.TheVariants.{Record, Sender}
use Rattle.model.specs.Rows.{pick}
use Rattle.model.specs.Answers.{Answer, done, refused, and_then}
use Rattle.model.specs.Words.{Address, is_alive, Member, Departed, Event, Nothing, Joined, Recovered, Suspected, Deceased, Gossip, Action, Ping, PingReq, Ack, parts_of}
use Rattle.model.specs.Members as list
use Rattle.model.specs.Departed.{departs}
use Rattle.model.specs.Node.{Node, Out, Effect, with_lists, quiet, one_added, death_plus_one, and_more, emit, lists, numbered, held_death, change, spread}

-- What an event comes to. Nothing happens: there is none, the address is unknown, its number is equal to the held one of a peer that isn't Alive, or it is not
-- high enough. Or a number plus one is needed and there is none. Or the own address refutes a suspicion; an address comes in; a listed one is raised, recovers, is suspected or dies
pub data Verdict (A : Type 0) : Type 0 where
  Skip Unknown Equal Low AtEnd : Verdict A
  Refute : ℕ → Verdict A
  Enter Raise Recover Suspect Bury : A → ℕ → Verdict A

-- an event that is emitted, and the heap that it goes to
pub data News (A : Type 0) : Type 0 where
  Silent : News A
  Emits : Kind → Event A → News A

-- "if Alive and ≥, or not Alive and >"
unfoldable pub believed : State → ℕ → ℕ → Bool
believed st held n = pick (is_alive st) (leb held n) (ltb held n)

-- where a number plus one is needed
abbrev pub or_end : {A : Type 0} → Option ℕ → (ℕ → Verdict A) → Verdict A
or_end none k = AtEnd
or_end (some n) k = k n

-- "the number of the gossip record that caused it, counted from 0, or .. that it was the sender's own admission": the rules got through k of n records
unfoldable pub cause_at : ℕ → ℕ → Cause
cause_at k n = pick (ltb k n) (Record k) Sender

module _ {A : Type 0} (address : Address A) where
  -- "Joined: number = max(D + 1 or 0, joined). Listed: if greater, raise it and keep the state; else nothing. Absent: add."
  unfoldable pub joined_at : A → ℕ → List (Member A) → Verdict A
  joined_at a n t =
      pick (list.listed address.same a t)
      (pick (ltb (list.held address.same a t) n) (Raise a n) Low)
      (Enter a n)

  unfoldable pub joined : Option ℕ → A → ℕ → List (Member A) → Verdict A
  joined d a n t = or_end (death_plus_one d) λ least. joined_at a (max least n) t

  -- "Recovered: listed and greater: Alive, emit."
  unfoldable pub recovered : A → ℕ → List (Member A) → Verdict A
  recovered a n t =
      pick (list.listed address.same a t)
      (pick (ltb (list.held address.same a t) n) (Recover a n) Low)
      Unknown

  -- "Other, listed: if Alive and ≥, or not Alive and >, set Suspected, emit."
  unfoldable pub suspected_other : A → ℕ → List (Member A) → Verdict A
  suspected_other a n t =
      let st = list.held_state address.same a t in
      let held = list.held address.same a t in
      pick (list.listed address.same a t)
      (pick (believed st held n) (Suspect a n) (pick (not (is_alive st) && eqb n held) Equal Low))
      Unknown

  -- "Suspected, own address: emit Recovered with number + 1; own record unmoved."
  unfoldable pub suspected : A → A → ℕ → List (Member A) → Verdict A
  suspected own a n t = pick (address.same own a) (or_end (one_added n) Refute) (suspected_other a n t)

  -- "Deceased: listed and ≥: remove, emit to the deceased heap. The own address is no exception."
  unfoldable pub deceased : A → ℕ → List (Member A) → Verdict A
  deceased a n t =
      pick (list.listed address.same a t)
      (pick (leb (list.held address.same a t) n) (Bury a n) Low)
      Unknown

  -- "A gossip record holds one of four events or none; none is skipped.": by the own address, the list, D of the event's address, and the event
  abbrev pub judge : A → List (Member A) → Option ℕ → Event A → Verdict A
  judge own t d Nothing = Skip
  judge own t d (Joined f a n) = joined d a n t
  judge own t d (Recovered f a n) = recovered a n t
  judge own t d (Suspected f a n) = suspected own a n t
  judge own t d (Deceased f a n) = deceased a n t

  -- "then an unlisted sender is added with D + 1 or 0"
  unfoldable pub judge_sender : List (Member A) → Option ℕ → A → Verdict A
  judge_sender t d a = pick (list.listed address.same a t) Skip (or_end (death_plus_one d) (Enter a))

  -- the list after a verdict: refusals 6, 7 and 8
  unfoldable pub list_after : Verdict A → list.Members A → List ℕ → Answer (list.Members A)
  list_after Skip m ds = done m ds
  list_after Unknown m ds = done m ds
  list_after Equal m ds = done m ds
  list_after Low m ds = done m ds
  list_after AtEnd m ds = refused NumberEnd
  list_after (Refute n) m ds = done m ds
  list_after (Enter a n) m ds = list.add address.same a n m ds
  list_after (Raise a n) m ds = done (list.update address.same (record { addr = a; state = list.held_state address.same a m.table; number = n }) m) ds
  list_after (Recover a n) m ds = done (list.update address.same (record { addr = a; state = state.Alive; number = n }) m) ds
  list_after (Suspect a n) m ds = done (list.update address.same (record { addr = a; state = state.Suspected; number = n }) m) ds
  list_after (Bury a n) m ds = done (list.remove address.same a m) ds

  -- the row of the departed after a verdict: one that is buried comes into it
  unfoldable pub row_after : Verdict A → List (Member A) → List (Departed A) → List (Departed A)
  row_after Skip t r = r
  row_after Unknown t r = r
  row_after Equal t r = r
  row_after Low t r = r
  row_after AtEnd t r = r
  row_after (Refute n) t r = r
  row_after (Enter a n) t r = r
  row_after (Raise a n) t r = r
  row_after (Recover a n) t r = r
  row_after (Suspect a n) t r = r
  row_after (Bury a n) t r = departs address.same a n t r

  -- "A change emits Joined.", "Emitted events name this node as from."
  unfoldable pub news_of : Verdict A → A → News A
  news_of Skip own = Silent
  news_of Unknown own = Silent
  news_of Equal own = Silent
  news_of Low own = Silent
  news_of AtEnd own = Silent
  news_of (Refute n) own = Emits kind.Alive (Recovered own own n)
  news_of (Enter a n) own = Emits kind.Alive (Joined own a n)
  news_of (Raise a n) own = Emits kind.Alive (Joined own a n)
  news_of (Recover a n) own = Emits kind.Alive (Recovered own a n)
  news_of (Suspect a n) own = Emits kind.Alive (Suspected own a n)
  news_of (Bury a n) own = Emits kind.Deceased (Deceased own a n)

  -- refusals 9 and 13
  abbrev pub tell : News A → Node A → List ℕ → Answer (Out A)
  tell Silent s ds = quiet s ds
  tell (Emits k e) s ds = emit address k (record { event = e }) s ds

  -- a verdict is carried out: "Within one gossip item or ping admission: 6, 7, 8, 9", and 13 in 9's place
  unfoldable pub act : Verdict A → Node A → List ℕ → Answer (Out A)
  act v s ds = and_then (list_after v s.members ds) λ m rest. tell (news_of v s.own) (with_lists s m (row_after v s.members.table s.departed)) rest

  -- one gossip record
  unfoldable pub item : Event A → Node A → List ℕ → Answer (Out A)
  item e s ds = act (judge s.own s.members.table (held_death address (parts_of address e).subject s) e) s ds

  -- the records in their order
  abbrev pub gossip : List (Gossip A) → Node A → List ℕ → Answer (Out A)
  gossip [] s ds = quiet s ds
  gossip (g ∷ gs) s ds = and_more (item g.event s ds) (gossip gs)

  -- how many of the records the rules get through
  abbrev pub count_on : Answer (Out A) → (Node A → List ℕ → ℕ) → ℕ
  count_on (refused r) k = 0
  count_on (done o rest) k = suc (k o.node rest)

  abbrev pub through : List (Gossip A) → Node A → List ℕ → ℕ
  through [] s ds = 0
  through (g ∷ gs) s ds = count_on (item g.event s ds) (through gs)

  unfoldable pub stops_at : List (Gossip A) → Node A → List ℕ → Cause
  stops_at gs s ds = cause_at (through gs s ds) (length gs)

  -- "then an unlisted sender is added with D + 1 or 0, emitting Joined"
  unfoldable pub admit : A → Node A → List ℕ → Answer (Out A)
  admit a s ds = act (judge_sender s.members.table (held_death address a s) a) s ds

  -- "a listed sender becomes Alive at its own number"
  unfoldable pub acked : A → Node A → Node A
  acked a s = pick (lists address a s) (change address a state.Alive (numbered address a s) s) s

  -- "then an Ack from this node to requested_by if present, else to the sender"
  abbrev pub ack_target : A → Option A → A
  ack_target from none = from
  ack_target from (some by) = by

  -- gossip is chosen, and one message goes out with it
  unfoldable pub answer_to : A → Action A → Out A → Effect A
  answer_to target action o =
      let c = spread address o.node in
      record { node = c.node; messages = record { target = target; action = action; gossip = c.gossip } ∷ []; events = o.said; collected = o.collected }

  -- "with it, an Ack goes there with the sender and gossip unchanged and no forward_to"
  unfoldable pub forwarded : A → Option A → List (Gossip A) → Out A → Effect A
  forwarded from none gs o = record { node = acked from o.node; messages = []; events = o.said; collected = o.collected }
  forwarded from (some to) gs o =
      record { node = o.node; messages = record { target = to; action = Ack from none; gossip = gs } ∷ []; events = o.said; collected = o.collected }

  unfoldable pub handle : Action A → List (Gossip A) → Node A → List ℕ → Answer (Effect A)
  -- "Ping: gossip; then an unlisted sender is added ..; then choose; then an Ack ..; requested_by also goes into its forward_to."
  handle (Ping from by) gs s ds =
      and_then (and_more (gossip gs s ds) (admit from)) λ o rest. done (answer_to (ack_target from by) (Ack s.own by) o) rest
  -- "PingReq: gossip, choose, Ping to the suspect with requested_by the asker; the asker isn't added."
  handle (PingReq from suspect) gs s ds =
      and_then (gossip gs s ds) λ o rest. done (answer_to suspect (Ping s.own (some from)) o) rest
  -- "Ack: gossip; without forward_to, a listed sender becomes Alive at its own number; with it, .."
  handle (Ack from to) gs s ds = and_then (gossip gs s ds) λ o rest. done (forwarded from to gs o) rest
