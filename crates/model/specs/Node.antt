-- A node: its settings, its own address, the list, the disseminator with its two heaps, the timers and the departed. And what a rule leaves.
-- Assumes nothing.
use Rattle.std.specs.Prelude.{Bool, List, [], ◌∷◌, ◌++◌, ℕ, ◌+◌, length, take, leb}
use Rattle.std.proofs.Math.Option.{Option, none, some}
use Rattle.model.specs.declared.State.{State}
use Rattle.model.specs.declared.State.TheVariants.{Alive}
use Rattle.model.specs.declared.Settings.{Settings}
use Rattle.model.specs.declared.Lamps.{Lamps}
use Rattle.model.specs.declared.Kind.{Kind}
use Rattle.model.specs.declared.Kind.TheVariants as kind
use Rattle.model.specs.Rows.{pick, pad_to}
use Rattle.model.specs.Bounds.{list_places, heap_places, timer_places, departed_places, last_number}
use Rattle.model.specs.Answers.{Answer, done, refused, and_then, when, full_of}
use Rattle.model.specs.Words.{Address, Gossip, Entry, unused, sends_of, Timer, Member, Departed, Message, blank_member, no_timer, no_departed}
use Rattle.model.specs.Limit.{limit_of}
use Rattle.model.specs.Heap.{push}
use Rattle.model.specs.Choose.{choose, terms_of, entry_of}
use Rattle.model.specs.Collect.{collects, cleared}
use Rattle.model.specs.Members as list
use Rattle.model.specs.Departed.{departs, death_of}
use Rattle.model.specs.Lamps.{lamps_of}

-- what is to be spread: the heap of the living and the heap of deaths
pub record Disseminator (A : Type 0) : Type 0 where
  pub alive : List (Entry A)
  pub deceased : List (Entry A)

abbrev pub heap_of : {A : Type 0} → Kind → Disseminator A → List (Entry A)
heap_of kind.Alive d = d.alive
heap_of kind.Deceased d = d.deceased

abbrev pub with_heap : {A : Type 0} → Kind → List (Entry A) → Disseminator A → Disseminator A
with_heap kind.Alive h d = record { alive = h; deceased = d.deceased }
with_heap kind.Deceased h d = record { alive = d.alive; deceased = h }

pub record Node (A : Type 0) : Type 0 where
  pub settings : Settings
  pub own : A
  pub members : list.Members A
  pub disseminator : Disseminator A
  pub timers : List (Timer A)
  pub departed : List (Departed A)

-- what a rule leaves: the node, the events that it reported, each as the gossip record that holds it, and how many held ones were collected
pub record Out (A : Type 0) : Type 0 where
  pub node : Node A
  pub said : List (Gossip A)
  pub collected : ℕ

-- what a call does: the node, the messages that are sent and the events that are reported, in order, and how many held events were collected
pub record Effect (A : Type 0) : Type 0 where
  pub node : Node A
  pub messages : List (Message A)
  pub events : List (Gossip A)
  pub collected : ℕ

-- a gossip was chosen for a message
pub record Spread (A : Type 0) : Type 0 where
  pub node : Node A
  pub gossip : List (Gossip A)

-- "a number plus one", if there is one
abbrev pub one_added : ℕ → Option ℕ
one_added n = pick (leb last_number n) none (some (n + 1))

-- "D + 1 or 0", if there is one
abbrev pub death_plus_one : Option ℕ → Option ℕ
death_plus_one none = some 0
death_plus_one (some d) = one_added d

module _ {A : Type 0} where
  abbrev pub with_members : Node A → list.Members A → Node A
  with_members s m = record { settings = s.settings; own = s.own; members = m; disseminator = s.disseminator; timers = s.timers; departed = s.departed }

  abbrev pub with_disseminator : Node A → Disseminator A → Node A
  with_disseminator s d = record { settings = s.settings; own = s.own; members = s.members; disseminator = d; timers = s.timers; departed = s.departed }

  abbrev pub with_timers : Node A → List (Timer A) → Node A
  with_timers s timers = record { settings = s.settings; own = s.own; members = s.members; disseminator = s.disseminator; timers = timers; departed = s.departed }

  -- the list and the row beside it
  abbrev pub with_lists : Node A → list.Members A → List (Departed A) → Node A
  with_lists s m r = record { settings = s.settings; own = s.own; members = m; disseminator = s.disseminator; timers = s.timers; departed = r }

  -- nothing is reported
  unfoldable pub quiet : Node A → List ℕ → Answer (Out A)
  quiet s ds = done (record { node = s; said = []; collected = 0 }) ds

  -- one rule after another, with all that was reported and collected
  unfoldable pub and_more : Answer (Out A) → (Node A → List ℕ → Answer (Out A)) → Answer (Out A)
  and_more x k =
      and_then x λ o rest.
      and_then (k o.node rest) λ p rest₂.
      done (record { node = p.node; said = o.said ++ p.said; collected = o.collected + p.collected }) rest₂

module _ {A : Type 0} (address : Address A) where
  -- "first takes from the alive heap": both heaps, where collecting is on, without what an event outdates
  abbrev pub collecting : Bool → Kind → Gossip A → Disseminator A → Disseminator A
  collecting on k g d = record { alive = cleared address on k g d.alive; deceased = d.deceased }

  -- "an event is to be pushed to a full heap": refusal 9 or 13; else the disseminator with it
  abbrev pub pushes : Kind → Gossip A → Disseminator A → List ℕ → Answer (Disseminator A)
  pushes k g d ds =
      when (leb heap_places (length (heap_of k d)))
      (refused (full_of k))
      (done (with_heap k (push unused sends_of (heap_of k d) (entry_of address g)) d) ds)

  -- "Freed places are used before 9 is given."
  unfoldable pub pushed : Bool → Kind → Gossip A → Disseminator A → List ℕ → Answer (Disseminator A)
  pushed on k g d ds = pushes k g (collecting on k g d) ds

  -- "an emitted event is pushed to its heap, then reported"
  unfoldable pub emit : Kind → Gossip A → Node A → List ℕ → Answer (Out A)
  emit k g s ds =
      let on = s.settings.collect in
      and_then (pushed on k g s.disseminator ds) λ d rest.
      done (record { node = with_disseminator s d; said = g ∷ []; collected = collects address on k g s.disseminator.alive }) rest

  abbrev pub lists : A → Node A → Bool
  lists a s = list.listed address.same a s.members.table

  abbrev pub numbered : A → Node A → ℕ
  numbered a s = list.held address.same a s.members.table

  abbrev pub state_of : A → Node A → State
  state_of a s = list.held_state address.same a s.members.table

  -- D of an address
  abbrev pub held_death : A → Node A → Option ℕ
  held_death a s = death_of address s.settings.remember a s.departed s.disseminator.deceased

  -- the record of a listed address is replaced
  unfoldable pub change : A → State → ℕ → Node A → Node A
  change a st n s = with_members s (list.update address.same (record { addr = a; state = st; number = n }) s.members)

  -- an address leaves the list by a remover's number, and is remembered
  unfoldable pub leave : A → ℕ → Node A → Node A
  leave a n s = with_lists s (list.remove address.same a s.members) (departs address.same a n s.members.table s.departed)

  -- gossip is chosen for a message, at as many members as are listed
  unfoldable pub spread : Node A → Spread A
  spread s =
      let c = choose address
      (terms_of s.settings.max_selected s.settings.max_size (limit_of (length s.members.table) s.settings.send_constant))
      s.disseminator.alive
      s.disseminator.deceased in
      record { node = with_disseminator s (record { alive = c.alive; deceased = c.deceased }); gossip = c.chosen }

-- A node as it is kept: rows of a fixed number of places, how many of them are used, and "the three counts"
pub record Row (B : Type 0) : Type 0 where
  pub places : List B
  pub used : ℕ

pub record Stored (A : Type 0) : Type 0 where
  pub settings : Settings
  pub own : A
  pub table : List (Member A)
  pub order : List A
  pub listed : ℕ
  pub position : ℕ
  pub lamps : Lamps
  pub alive : Row (Entry A)
  pub deceased : Row (Entry A)
  pub timers : Row (Timer A)
  pub departed : Row (Departed A)

abbrev pub used_places : {B : Type 0} → Row B → List B
used_places r = take r.used r.places

abbrev pub row_of : {B : Type 0} → ℕ → B → List B → Row B
row_of places blank l = record { places = pad_to places blank l; used = length l }

-- the node that the rows hold: the counts are those of its list
unfoldable pub loaded : {A : Type 0} → Stored A → Node A
loaded s =
    record {
      settings = s.settings;
      own = s.own;
      members = record { table = take s.listed s.table; order = take s.listed s.order; position = s.position };
      disseminator = record { alive = used_places s.alive; deceased = used_places s.deceased };
      timers = used_places s.timers;
      departed = used_places s.departed;
    }

-- the rows that hold a node: every unused place is zero, and the counts are true
unfoldable pub stored : {A : Type 0} → Address A → Node A → Stored A
stored address s =
    record {
      settings = s.settings;
      own = s.own;
      table = pad_to list_places (blank_member address) s.members.table;
      order = pad_to list_places address.blank s.members.order;
      listed = length s.members.table;
      position = s.members.position;
      lamps = lamps_of address.same s.own s.members.table;
      alive = row_of heap_places unused s.disseminator.alive;
      deceased = row_of heap_places unused s.disseminator.deceased;
      timers = row_of timer_places (no_timer address) s.timers;
      departed = row_of departed_places (no_departed address) s.departed;
    }

-- "a node with empty heaps, no timers .. and settings given anew", and nobody is remembered: of an own address, the records of a list in probing order, and its position
abbrev pub restarted : {A : Type 0} → Settings → A → List (Member A) → ℕ → Node A
restarted settings own rows position =
    record {
      settings = settings;
      own = own;
      members = record { table = rows; order = list.addrs rows; position = position };
      disseminator = record { alive = []; deceased = [] };
      timers = [];
      departed = [];
    }

-- "it lists that address Alive at place 0, all else empty"
unfoldable pub fresh : {A : Type 0} → Settings → A → ℕ → Node A
fresh settings own n =
    record {
      settings = settings;
      own = own;
      members = record { table = record { addr = own; state = Alive; number = n } ∷ []; order = own ∷ []; position = 0 };
      disseminator = record { alive = []; deceased = [] };
      timers = [];
      departed = [];
    }
