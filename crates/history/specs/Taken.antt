-- What a call collects: at each rule that pushes, those of the alive heap before it that met the condition go, and how many they are is told; else both heaps are 01's. For any type of address,
-- any node and any call.
-- Assumes nothing.
use Rattle.std.specs.Prelude.{◌≡◌, Bool, ℕ, ◌+◌}
use Rattle.std.proofs.Common.{arith}
use mathlib.Core.List.{List, [], ◌∷◌}
use Rattle.model.specs.declared.Kind.{Kind}
use Rattle.model.specs.declared.Kind.TheVariants as kind
use Rattle.model.specs.Answers.{Answer}
use Rattle.model.specs.Words.{Address, Event, Nothing, Joined, Recovered, Suspected, Deceased, Gossip, unused, sends_of}
use Rattle.model.specs.Heap.{push}
use Rattle.model.specs.Choose.{entry_of}
use Rattle.model.specs.Collect.{collects, cleared}
use Rattle.model.specs.Node.{Disseminator, Node, Out}
use Rattle.model.specs.Detector as D
use Rattle.laws.specs.After.{After}
use Rattle.history.specs.Moments.{Deed, Told, Sender, Added, Ended, Other, Moment}

module _ {A : Type 0} (address : Address A) where
  -- the heap that an event goes to
  abbrev pub heap_for : Event A → Kind
  heap_for Nothing = kind.Alive
  heap_for (Joined f a n) = kind.Alive
  heap_for (Recovered f a n) = kind.Alive
  heap_for (Suspected f a n) = kind.Alive
  heap_for (Deceased f a n) = kind.Deceased

  -- "the count of held events that met the condition": of the alive heap as a node holds it, for each event that is pushed
  abbrev pub outdated_by : Node A → List (Gossip A) → ℕ
  outdated_by s [] = 0
  outdated_by s (g ∷ gs) = collects address s.settings.collect (heap_for g.event) g s.disseminator.alive + outdated_by s gs

  -- over the moments of a call. A rule pushes one event at most, so the heap before the rule is the heap before the push
  abbrev pub collected_in : List (Moment A) → ℕ
  collected_in [] = 0
  collected_in (m ∷ ms) = outdated_by m.before m.said + collected_in ms

  -- "first takes from the alive heap", whichever heap the event goes to; no death is taken
  abbrev pub heaps_after : Bool → Kind → Gossip A → Disseminator A → Disseminator A
  heaps_after on kind.Alive g d = record { alive = push unused sends_of (cleared address on kind.Alive g d.alive) (entry_of address g); deceased = d.deceased }
  heaps_after on kind.Deceased g d = record { alive = cleared address on kind.Deceased g d.alive; deceased = push unused sends_of d.deceased (entry_of address g) }

  -- for each event that is pushed
  abbrev pub spread_by : Bool → List (Gossip A) → Disseminator A → Disseminator A
  spread_by on [] d = d
  spread_by on (g ∷ gs) d = spread_by on gs (heaps_after on (heap_for g.event) g d)

  -- ---- each rule, on a node: the number that it tells, the heaps that it leaves, and the settings as they were
  pub record Took (s : Node A) (o : Out A) : Type 0 where
    pub told : o.collected ≡ outdated_by s o.said
    pub heaps : o.node.disseminator ≡ spread_by s.settings.collect o.said s.disseminator
    pub settings : o.node.settings ≡ s.settings

  abbrev pub Takes : Node A → Answer (Out A) → Type 0
  Takes s x = After (Took s) x

  -- a step is one moment
  abbrev pub StepTakes : Node A → Answer (D.Stepped A) → Type 0
  StepTakes s x = After (λ e. e.effect.collected ≡ outdated_by s e.effect.events) x

  -- ---- the heaps after each rule of a call are what it pushed to those before it; a choosing of gossip and a detector's step, which choose too, are told apart
  abbrev pub PushedAt : Deed A → Node A → List (Gossip A) → Node A → Type 0
  PushedAt (Told e) s gs s' = s'.disseminator ≡ spread_by s.settings.collect gs s.disseminator
  PushedAt (Sender a) s gs s' = s'.disseminator ≡ spread_by s.settings.collect gs s.disseminator
  PushedAt (Added a n) s gs s' = s'.disseminator ≡ spread_by s.settings.collect gs s.disseminator
  PushedAt (Ended a n) s gs s' = s'.disseminator ≡ spread_by s.settings.collect gs s.disseminator
  PushedAt Other s gs s' = Unit {0}

  abbrev pub Pushed : List (Moment A) → Type 0
  Pushed [] = Unit {0}
  Pushed (m ∷ ms) = PushedAt m.deed m.before m.said m.after × Pushed ms
