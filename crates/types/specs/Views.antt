-- How the declared types carry the model's words, and which of `to` and `from` undoes which.
-- Assumes nothing.
use Rattle.std.specs.Prelude.{◌≡◌, refl, List, [], ◌∷◌, map}
use Rattle.std.proofs.Math.Option.{Option, none, some}
use Rattle.address.specs.Here.{Addr, here}
use Rattle.model.specs.Words as W
use Rattle.types.specs.declared.Event.{Event}
use Rattle.types.specs.declared.Event.TheVariants.{Nothing, Joined, Recovered, Suspected, Deceased}
use Rattle.types.specs.declared.Gossip.{Gossip}
use Rattle.types.specs.declared.Optional.{Optional}
use Rattle.types.specs.declared.Optional.TheVariants.{Absent, Given}
use Rattle.types.specs.declared.Action.{Action}
use Rattle.types.specs.declared.Action.TheVariants.{Ping, PingReq, Ack}
use Rattle.types.specs.declared.Parts.{Parts}
use Rattle.types.specs.declared.Measured.{Measured}

abbrev pub to_event : Event → W.Event Addr
to_event Nothing = W.Nothing
to_event (Joined f s n) = W.Joined f s n
to_event (Recovered f s n) = W.Recovered f s n
to_event (Suspected f s n) = W.Suspected f s n
to_event (Deceased f s n) = W.Deceased f s n

abbrev pub from_event : W.Event Addr → Event
from_event W.Nothing = Nothing
from_event (W.Joined f s n) = Joined f s n
from_event (W.Recovered f s n) = Recovered f s n
from_event (W.Suspected f s n) = Suspected f s n
from_event (W.Deceased f s n) = Deceased f s n

abbrev pub to_gossip : Gossip → W.Gossip Addr
to_gossip g = record { event = to_event g.event }

abbrev pub from_gossip : W.Gossip Addr → Gossip
from_gossip g = record { event = from_event g.event }

abbrev pub to_optional : Optional → Option Addr
to_optional Absent = none
to_optional (Given a) = some a

abbrev pub from_optional : Option Addr → Optional
from_optional none = Absent
from_optional (some a) = Given a

abbrev pub to_action : Action → W.Action Addr
to_action (Ping f o) = W.Ping f (to_optional o)
to_action (PingReq f s) = W.PingReq f s
to_action (Ack f o) = W.Ack f (to_optional o)

abbrev pub from_action : W.Action Addr → Action
from_action (W.Ping f o) = Ping f (from_optional o)
from_action (W.PingReq f s) = PingReq f s
from_action (W.Ack f o) = Ack f (from_optional o)

abbrev pub from_parts : W.Parts Addr → Parts
from_parts p = record { kind = p.kind; from = p.from; subject = p.subject; number = p.number }

abbrev pub to_parts : Parts → W.Parts Addr
to_parts p = record { kind = p.kind; from = p.from; subject = p.subject; number = p.number }

-- what was measured is the length of the address's text
abbrev pub Right : Measured → Type 0
Right m = m.chars ≡ here.chars m.addr

abbrev pub measured_at : Addr → Measured
measured_at a = record { addr = a; chars = here.chars a }

-- a gossip of no event
abbrev pub no_gossip : Gossip
no_gossip = record { event = Nothing }

pub to_from_event : (e : W.Event Addr) → to_event (from_event e) ≡ e
to_from_event W.Nothing = refl
to_from_event (W.Joined f s n) = refl
to_from_event (W.Recovered f s n) = refl
to_from_event (W.Suspected f s n) = refl
to_from_event (W.Deceased f s n) = refl

pub from-to_event : (e : Event) → from_event (to_event e) ≡ e
from-to_event Nothing = refl
from-to_event (Joined f s n) = refl
from-to_event (Recovered f s n) = refl
from-to_event (Suspected f s n) = refl
from-to_event (Deceased f s n) = refl

pub to_from_gossip : (g : W.Gossip Addr) → to_gossip (from_gossip g) ≡ g
to_from_gossip g = λ i. record { event = to_from_event g.event i }

pub from-to_gossip : (g : Gossip) → from_gossip (to_gossip g) ≡ g
from-to_gossip g = λ i. record { event = from-to_event g.event i }

pub to_from_gossips : (l : List (W.Gossip Addr)) → map to_gossip (map from_gossip l) ≡ l
to_from_gossips [] = refl
to_from_gossips (g ∷ l) = λ i. to_from_gossip g i ∷ to_from_gossips l i

pub from_to_gossips : (l : List Gossip) → map from_gossip (map to_gossip l) ≡ l
from_to_gossips [] = refl
from_to_gossips (g ∷ l) = λ i. from-to_gossip g i ∷ from_to_gossips l i

pub from-to_optional : (o : Optional) → from_optional (to_optional o) ≡ o
from-to_optional Absent = refl
from-to_optional (Given a) = refl

pub from-to_action : (a : Action) → from_action (to_action a) ≡ a
from-to_action (Ping f o) = λ i. Ping f (from-to_optional o i)
from-to_action (PingReq f s) = refl
from-to_action (Ack f o) = λ i. Ack f (from-to_optional o i)
