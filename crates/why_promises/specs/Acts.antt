-- THE HANDLER ACTS AS THE REASON SAYS: what it stores and what it emits of one record, wherever it does not refuse. For any type of address.
-- Assumes nothing.
use Rattle.std.specs.Prelude.{List, [], ◌∷◌, ℕ, ◌+◌, get_or, drop}
use Rattle.std.proofs.Math.Option.{Option}
use Rattle.model.specs.declared.Kind.{Kind}
use Rattle.model.specs.declared.Kind.TheVariants as kind
use Rattle.model.specs.declared.State.{State}
use Rattle.model.specs.declared.State.TheVariants as state
use Rattle.model.specs.Rows.{pick}
use Rattle.model.specs.Answers.{Answer, done, refused}
use Rattle.model.specs.Words.{Address, unused, sends_of, Gossip, Event, Nothing, Joined, Recovered, Suspected, Deceased}
use Rattle.model.specs.Heap.{push}
use Rattle.model.specs.Choose.{entry_of}
use Rattle.model.specs.Collect.{collects}
use Rattle.model.specs.Members as list
use Rattle.model.specs.Node.{Node, Out, with_members, with_disseminator, with_heap, heap_of, collecting, lists, state_of, leave}
use Rattle.promises.specs.Stops.{plus_one_or0}
use Rattle.why.specs.declared.Reason.{Reason}
use Rattle.why.specs.declared.Reason.TheVariants as reason

-- an answer that is no refusal
abbrev pub Went : {B : Type 0} → Answer B → Type 0
Went (refused r) = ⊥
Went (done b ds) = Unit {0}

-- what a rule leaves, and the draws that it leaves
pub record Deed (A : Type 0) : Type 0 where
  pub out : Out A
  pub left : List ℕ

module _ {A : Type 0} where
  -- the event's own number
  abbrev pub number_in : Event A → ℕ
  number_in Nothing = 0
  number_in (Joined f a n) = n
  number_in (Recovered f a n) = n
  number_in (Suspected f a n) = n
  number_in (Deceased f a n) = n

module _ {A : Type 0} (address : Address A) where
  -- "an emitted event is pushed to its heap, then reported", where collecting is on after those that it outdates have gone
  abbrev pub spoken : Kind → Event A → Node A → Out A
  spoken k e s =
      let g : Gossip A = record { event = e } in
      let on = s.settings.collect in
      let d = collecting address on k g s.disseminator in
      record {
        node = with_disseminator s (with_heap k (push unused sends_of (heap_of k d) (entry_of address g)) d);
        said = g ∷ [];
        collected = collects address on k g s.disseminator.alive;
      }

  -- the record of a listed address is replaced
  abbrev pub kept_as : A → State → ℕ → Node A → Node A
  kept_as a st n s = with_members s (list.update address.same (record { addr = a; state = st; number = n }) s.members)

  -- nothing changes, nothing is said, and no draw is used
  abbrev pub idles : Node A → List ℕ → Deed A
  idles s ds = record { out = record { node = s; said = []; collected = 0 }; left = ds }

  -- what is stored of an accepted event at a number, and what is said of it. One that comes in takes a draw for its place
  abbrev pub accepts : Event A → ℕ → Node A → List ℕ → Deed A
  accepts Nothing m s ds = idles s ds
  accepts (Joined f a n) m s ds =
      pick (lists address a s)
      (record { out = spoken kind.Alive (Joined s.own a m) (kept_as a (state_of address a s) m s); left = ds })
      (record { out = spoken kind.Alive (Joined s.own a m) (with_members s (list.added address.same a m (get_or ds 0 0) s.members)); left = drop 1 ds })
  accepts (Recovered f a n) m s ds = record { out = spoken kind.Alive (Recovered s.own a m) (kept_as a state.Alive m s); left = ds }
  accepts (Suspected f a n) m s ds = record { out = spoken kind.Alive (Suspected s.own a m) (kept_as a state.Suspected m s); left = ds }
  accepts (Deceased f a n) m s ds = record { out = spoken kind.Deceased (Deceased s.own a m) (leave address a m s); left = ds }

  -- what each reason says that the handler does
  abbrev pub acting : Reason → Option ℕ → Event A → Node A → List ℕ → Deed A
  acting reason.None d e s ds = idles s ds
  acting reason.Own d e s ds = record { out = spoken kind.Alive (Recovered s.own s.own (number_in e + 1)) s; left = ds }
  acting reason.Unknown d e s ds = idles s ds
  acting reason.Equal d e s ds = idles s ds
  acting reason.Low d e s ds = idles s ds
  acting reason.Raised d e s ds = accepts e (plus_one_or0 d) s ds
  acting reason.Accepted d e s ds = accepts e (number_in e) s ds
