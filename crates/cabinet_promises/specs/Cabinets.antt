-- NO FORGED DEATH, OF THE PROGRAMS. Any number of controllers, each a program that makes calls of `swim` from the node that creation or a restart handed back and a fresh wait record. What is said of the
-- nodes is of those that the calls handed back; the messages are what hosts read off the answers, a letter and its place in the row for gossip, and the reports what stands in the rows for events. TimedOut
-- and AskedFor are of the calls alone, by the rules.
-- Assumes nothing.
use Rattle.std.specs.Prelude.{◌≡◌, List, [], ◌∷◌, ◌++◌, ℕ, eqb}
use Rattle.address.specs.Here.{Addr, here}
use Rattle.model.specs.Rows.{pick}
use Rattle.model.specs.Words as W
use Rattle.history.specs.Beginnings.{Beginning}
use Rattle.history.specs.Histories.{World, Call}
use Rattle.cabinet.specs.Cabinets.{Topic, Turn, Brings, worlds, sent, Honest}
use Rattle.types.specs.declared.Gossip.{Gossip}
use Rattle.node.specs.declared.Node.{Node}
use Rattle.wait.specs.declared.Wait.{Wait}
use Rattle.promises.specs.Begun.{Begun}
use Rattle.promises.specs.Made.{Held, Said, Made}
use Rattle.promises.specs.Runs.{world}
use Rattle.cabinet_promises.specs.Mail.{mail}

-- a controller's node and wait record, as its program has them; and with the rows that its host lends for a call
pub record Seat : Type 0 where
  pub node : Node
  pub wait : Wait

abbrev pub lending : Seat → List Gossip → List Gossip → Held
lending s gossip events = record { node = s.node; wait = s.wait; gossip = gossip; events = events }

abbrev pub seat_of : Held → Seat
seat_of h = record { node = h.node; wait = h.wait }

-- creation or a restart handed this back
pub record Began (s : Seat) : Type 0 where
  pub beginning : Beginning Addr
  pub tick : ℕ
  pub begun : Begun beginning tick s.node s.wait

-- The programs' calls, one after the other, the last one first; where each controller is; and all that the hosts have read off the answers. No record on the topic that a message call brings is forged: it has
-- stood, by address and number, in a message that some host read off an answer
pub data Goes (k : Topic) (first : ℕ → Seat) : List (Turn Addr) → (ℕ → Seat) → List (W.Message Addr) → Type 0 where
  rests : Goes k first [] first []
  makes : {h : List (Turn Addr)} {seats : ℕ → Seat} {ms : List (W.Message Addr)} → Goes k first h seats ms
      → (j : ℕ) (gossip events : List Gossip) (c : Call Addr) (s : Said) (after : Held) → Brings k c ms → Made (lending (seats j) gossip events) c s after
      → Goes k first (record { who = j; call = c } ∷ h) (λ i. pick (eqb j i) (seat_of after) (seats i)) (mail s after ++ ms)

module _ (first : ℕ → Seat) where
  abbrev pub begins : ℕ → World Addr
  begins j = world (first j).node (first j).wait

  -- every run of the programs is the model's history of their calls
  pub record Same (k : Topic) (h : List (Turn Addr)) (seats : ℕ → Seat) (ms : List (W.Message Addr)) : Type 0 where
    pub worlds_are : (j : ℕ) → world (seats j).node (seats j).wait ≡ worlds here begins h j
    pub sent_is : ms ≡ sent here begins h
    pub honest : Honest here begins k h
