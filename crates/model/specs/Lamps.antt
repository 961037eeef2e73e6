-- "the number of Alive, Pending and Suspected peers .. own address left out"
-- Assumes nothing.
use Rattle.std.specs.Prelude.{Bool, true, false, not, ◌&&◌, List, [], ◌∷◌, ℕ, ◌+◌, ◌-◌, eqb}
use Rattle.model.specs.declared.State.{State}
use Rattle.model.specs.declared.State.TheVariants.{Alive, Pending, Suspected}
use Rattle.model.specs.declared.Lamps.{Lamps}
use Rattle.model.specs.Rows.{one}
use Rattle.model.specs.Words.{Member, is_alive}

abbrev pub is_pending : State → Bool
is_pending Alive = false
is_pending Pending = true
is_pending Suspected = false

abbrev pub is_suspected : State → Bool
is_suspected Alive = false
is_suspected Pending = false
is_suspected Suspected = true

-- is a peer in the state that is asked for?
abbrev pub is_in : State → State → Bool
is_in Alive s = is_alive s
is_in Pending s = is_pending s
is_in Suspected s = is_suspected s

module _ {A : Type 0} (same : A → A → Bool) where
  -- does a peer count? In the state that is asked for, "own address left out"
  abbrev pub counts : State → A → A → State → Bool
  counts st own a s = not (same own a) && is_in st s

  -- how many peers of a list are in a state
  abbrev pub count_of : State → A → List (Member A) → ℕ
  count_of st own [] = 0
  count_of st own (m ∷ t) = one (counts st own m.addr m.state) + count_of st own t

  -- "the three counts"
  unfoldable pub lamps_of : A → List (Member A) → Lamps
  lamps_of own t = record { alive = count_of Alive own t; pending = count_of Pending own t; suspected = count_of Suspected own t }

-- nobody is counted, and the lamp of one peer
abbrev pub dark : Lamps
dark = record { alive = 0; pending = 0; suspected = 0 }

abbrev pub lamp_of : State → Lamps
lamp_of s = record { alive = one (is_alive s); pending = one (is_pending s); suspected = one (is_suspected s) }

-- so many more, and so many less
abbrev pub more : Lamps → Lamps → Lamps
more l k = record { alive = l.alive + k.alive; pending = l.pending + k.pending; suspected = l.suspected + k.suspected }

abbrev pub less : Lamps → Lamps → Lamps
less l k = record { alive = l.alive - k.alive; pending = l.pending - k.pending; suspected = l.suspected - k.suspected }

abbrev pub same_lamps : Lamps → Lamps → Bool
same_lamps l k = eqb l.alive k.alive && eqb l.pending k.pending && eqb l.suspected k.suspected
