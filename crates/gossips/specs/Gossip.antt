-- A gossip: a field of number 1 to 4 holds an event of that kind, others are passed over.
-- Assumes nothing.
use Rattle.std.specs.Prelude.{List, [], ℕ, ◌+◌, eqb, ltb}
use Rattle.model.specs.Rows.{pick}
use Rattle.types.specs.declared.Event.{Event}
use Rattle.types.specs.declared.Event.TheVariants.{Nothing, Joined, Recovered, Suspected, Deceased}
use Rattle.types.specs.declared.Gossip.{Gossip}
use Rattle.address.specs.Here.{Addr, here_text as text}
use Rattle.types.specs.Wire.{gossip_bytes}
use Rattle.fields.specs.Field.{content}
use Rattle.fields.specs.Walk.{Read, stopped, read, and_then, Step, walk}
use Rattle.iptext.specs.declared.Text.{Text}
use Rattle.iptext.specs.declared.Text.TheVariants.{Empty, Malformed, Given}
use Rattle.events.specs.declared.Said.{Said}
use Rattle.events.specs.Event.{event_step, unsaid}
use Rattle.events.specs.Back.{kind}
use Rattle.gossips.specs.declared.Held.{Held}
use Rattle.gossips.specs.declared.GossipRead.{GossipRead}
use Rattle.gossips.specs.declared.GossipRead.TheVariants as given
use Rattle.gossips.specs.declared.Settled.{Settled}
use Rattle.gossips.specs.declared.Settled.TheVariants.{Missing, Whole}

-- no event was read yet
abbrev pub unheld : Held
unheld = record { kind = 0; said = unsaid }

-- an event of the kind that is held is merged into it; one of another kind takes its place
unfoldable pub started : Held → ℕ → Said
started h k = pick (eqb h.kind k) h.said unsaid

-- the message of an event is read from where its field's content begins
unfoldable pub gossip_step : Step Held
gossip_step h place bytes f =
    pick (ltb 4 f.number) (read h)
    (pick (eqb f.wire 2)
    (and_then (walk event_step (place + f.head) (content bytes f) (started h f.number)) (λ s. read (record { kind = f.number; said = s })))
    (stopped place))

abbrev pub as_read : Read Held → GossipRead
as_read (stopped place) = given.Stopped place
as_read (read h) = given.Read h

-- 1 joined, 2 recovered, 3 suspected, 4 deceased
unfoldable pub made : ℕ → Addr → Addr → ℕ → Event
made k from subject n =
    pick (eqb k 1) (Joined from subject n)
    (pick (eqb k 2) (Recovered from subject n)
    (pick (eqb k 3) (Suspected from subject n)
    (Deceased from subject n)))

-- both texts are addresses
unfoldable pub whole_of : ℕ → ℕ → Text → Text → Settled
whole_of k n Empty subject = Missing
whole_of k n Malformed subject = Missing
whole_of k n (Given from) Empty = Missing
whole_of k n (Given from) Malformed = Missing
whole_of k n (Given from) (Given subject) = Whole (record { event = made k from subject n })

-- an event needs both its addresses; a gossip of no event needs none
unfoldable pub settled : Held → Settled
settled h = pick (eqb h.kind 0) (Whole (record { event = Nothing })) (whole_of h.kind h.said.number h.said.from h.said.subject)

-- the bytes of a gossip
unfoldable pub gossip_bytes_of : Gossip → List ℕ
gossip_bytes_of g = event g.event
  where
    event : Event → List ℕ
    event Nothing = []
    event (Joined f s n) = gossip_bytes (kind 1) (text f) (text s) n
    event (Recovered f s n) = gossip_bytes (kind 2) (text f) (text s) n
    event (Suspected f s n) = gossip_bytes (kind 3) (text f) (text s) n
    event (Deceased f s n) = gossip_bytes (kind 4) (text f) (text s) n
