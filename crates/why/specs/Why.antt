-- "Why did you do that?": which rule decides an event, on this node with these draws. For any type of address.
-- Assumes nothing.
use Rattle.std.specs.Prelude.{Bool, not, List, [], ◌∷◌, ℕ, ltb}
use Rattle.model.specs.declared.Refusal.{Refusal}
use Rattle.model.specs.declared.Refusal.TheVariants.{Unsound, AddressRange}
use Rattle.model.specs.Rows.{pick}
use Rattle.model.specs.Answers.{Answer, done, refused, number_of}
use Rattle.model.specs.Words.{Address, Member, Event, Nothing, Joined, Recovered, Suspected, Deceased, Gossip, parts_of}
use Rattle.model.specs.Members as list
use Rattle.model.specs.Node.{Node, Stored, loaded, held_death}
use Rattle.model.specs.Handler as handler
use Rattle.model.specs.Sound.{sound, valid_gossip}
use Rattle.model.specs.Calls.{first_of}
use Rattle.disseminate.specs.declared.Found.{Found}
use Rattle.disseminate.specs.declared.Found.TheVariants.{Missing, At}
use Rattle.disseminate.specs.Views.{from_found}
use Rattle.why.specs.declared.Reason.{Reason}
use Rattle.why.specs.declared.Reason.TheVariants as reason
use Rattle.why.specs.declared.Grounds.{Grounds}
use Rattle.why.specs.declared.Grounds.TheVariants.{Because, Refused}

-- "accepted with the number raised by a held death, or accepted as it came": by the event's own number and the one that is kept
abbrev pub at_number : ℕ → ℕ → Reason
at_number n kept = pick (ltb n kept) reason.Raised reason.Accepted

-- The judge's verdict on an event of number n, in the paper's reasons. Where a number plus one is missing the handler refuses, and no reason is given
unfoldable pub reason_of : {A : Type 0} → handler.Verdict A → ℕ → Reason
reason_of handler.Skip n = reason.None
reason_of handler.Unknown n = reason.Unknown
reason_of handler.Equal n = reason.Equal
reason_of handler.Low n = reason.Low
reason_of handler.AtEnd n = reason.None
reason_of (handler.Refute next) n = reason.Own
reason_of (handler.Enter a kept) n = at_number n kept
reason_of (handler.Raise a kept) n = at_number n kept
reason_of (handler.Recover a kept) n = reason.Accepted
reason_of (handler.Suspect a kept) n = reason.Accepted
reason_of (handler.Bury a kept) n = reason.Accepted

-- "Where the handler with the same draws would refuse .., it names that refusal instead."
abbrev pub unless_refused : {B : Type 0} → Answer B → Grounds → Grounds
unless_refused (refused r) g = Refused r
unless_refused (done b rest) g = g

-- "Where an answer is an enum, there is a definition that gives this paper's number": 0 for a reason, the number of the table for a refusal
abbrev pub grounds_number : Grounds → ℕ
grounds_number (Because reason held number dead) = 0
grounds_number (Refused r) = number_of r

module _ {A : Type 0} (address : Address A) where
  -- "the held number .. where [it] exists"
  abbrev pub held_number : A → List (Member A) → Found
  held_number a t = pick (list.listed address.same a t) (At (list.held address.same a t)) Missing

  -- "together with the held number, the event's own number and D where each exists"
  abbrev pub grounds : A → ℕ → Node A → handler.Verdict A → Grounds
  grounds a n s v = Because (reason_of v n) (held_number a s.members.table) (At n) (from_found (held_death address a s))

  unfoldable pub because : Event A → Node A → handler.Verdict A → Grounds
  because Nothing s v = Because reason.None Missing Missing Missing
  because (Joined f a n) s v = grounds a n s v
  because (Recovered f a n) s v = grounds a n s v
  because (Suspected f a n) s v = grounds a n s v
  because (Deceased f a n) s v = grounds a n s v

  -- the verdict that the handler acts on
  abbrev pub verdict_on : Event A → Node A → handler.Verdict A
  verdict_on e s = handler.judge address s.own s.members.table (held_death address (parts_of address e).subject s) e

  unfoldable pub weigh : Event A → Node A → List ℕ → Grounds
  weigh e s ds = unless_refused (handler.act address (verdict_on e s) s ds) (because e s (verdict_on e s))

  -- the call: 2, 5, then the rules. It hands no node back: it changes nothing
  abbrev pub why_tests : Stored A → Gossip A → List (Bool × Refusal)
  why_tests s g = (not (sound address s), Unsound) ∷ (not (valid_gossip address g), AddressRange) ∷ []

  unfoldable pub why : Stored A → Gossip A → List ℕ → Grounds
  why s g ds = first_of (why_tests s g) Refused (weigh g.event (loaded s) ds)
