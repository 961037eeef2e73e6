-- EXACTLY. The call gives each refusal exactly if its test is the first that fails, and each reason exactly if all are passed and its condition holds; with the reason come its numbers. For any type of address.
-- Assumes nothing.
use Rattle.std.proofs.Math.Path.{◌≡◌}
use Rattle.std.specs.Prelude.{Bool, List, ◌++◌, ℕ}
use Rattle.std.proofs.Math.Option.{Option, none, some}
use Rattle.model.specs.declared.Refusal.{Refusal}
use Rattle.model.specs.Rows.{pick}
use Rattle.model.specs.Answers.{done}
use Rattle.model.specs.Words.{Address, Gossip, Event, Nothing, Joined, Recovered, Suspected, Deceased, parts_of}
use Rattle.model.specs.Node.{Node, Stored, loaded, lists, numbered, held_death}
use Rattle.model.specs.Handler as handler
use Rattle.disseminate.specs.declared.Found.{Found}
use Rattle.disseminate.specs.declared.Found.TheVariants.{Missing, At}
use Rattle.disseminate.specs.Views.{from_found}
use Rattle.promises.specs.Stops.{item_stops}
use Rattle.why.specs.declared.Reason.{Reason}
use Rattle.why.specs.declared.Grounds.{Grounds}
use Rattle.why.specs.declared.Grounds.TheVariants.{Because, Refused}
use Rattle.why.specs.Why.{why_tests}
use Rattle.why_promises.specs.Conditions.{Holds}
use Rattle.why_promises.specs.Acts.{acting}

-- the reason of an answer, if it is one
abbrev pub reason_in : Grounds → Option Reason
reason_in (Because r held number dead) = some r
reason_in (Refused x) = none

-- "the held number, the event's own number and D where each exists"
pub record Numbers : Type 0 where
  pub held : Found
  pub number : Found
  pub dead : Found

module _ {A : Type 0} (address : Address A) where
  abbrev pub numbers_about : A → ℕ → Node A → Numbers
  numbers_about a n s = record { held = pick (lists address a s) (At (numbered address a s)) Missing; number = At n; dead = from_found (held_death address a s) }

  abbrev pub numbers_of : Event A → Node A → Numbers
  numbers_of Nothing s = record { held = Missing; number = Missing; dead = Missing }
  numbers_of (Joined f a n) s = numbers_about a n s
  numbers_of (Recovered f a n) s = numbers_about a n s
  numbers_of (Suspected f a n) s = numbers_about a n s
  numbers_of (Deceased f a n) s = numbers_about a n s

  -- D of the event's address
  abbrev pub death_of : Event A → Node A → Option ℕ
  death_of e s = held_death address (parts_of address e).subject s

  -- the condition of a reason, on a node
  abbrev pub HoldsOn : Node A → Reason → Event A → Type 0
  HoldsOn s r e = Holds address s.own s.members.table (death_of e s) r e

  -- 2, 5, then 6 to 9 or 13, in their order
  abbrev pub why_stops : Stored A → Gossip A → List ℕ → List (Bool × Refusal)
  why_stops s g ds = why_tests address s g ++ item_stops address g.event (loaded s) ds

  -- an answer with a reason: its condition holds, the handler acts as it says, and the numbers are the true ones
  pub record Explained (e : Event A) (s : Node A) (ds : List ℕ) (r : Reason) (held number dead : Found) : Type 0 where
    pub holds : HoldsOn s r e
    pub acts : handler.item address e s ds ≡ done (acting address r (death_of e s) e s ds).out (acting address r (death_of e s) e s ds).left
    pub told : record { held = held; number = number; dead = dead } ≡ numbers_of e s
