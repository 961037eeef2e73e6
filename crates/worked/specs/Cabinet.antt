-- A small cabinet for the worked numbers: its addresses, settings and nodes.
-- Assumes nothing.
use Rattle.std.specs.Prelude.{false, List, [], ◌∷◌, ℕ, ◌+◌, ◌*◌}
use Rattle.std.proofs.Math.Option.{Option, none, some}
use Rattle.model.specs.declared.State.{State}
use Rattle.model.specs.declared.State.TheVariants as state
use Rattle.model.specs.declared.Settings.{Settings}
use Rattle.model.specs.Answers.{Answer, done, refused}
use Rattle.worked.specs.Numbered.{ipv4}
use Rattle.model.specs.Words.{Event, Gossip, Entry, unused, sends_of, Member}
use Rattle.model.specs.Heap.{push}
use Rattle.model.specs.Choose.{entry_of}
use Rattle.model.specs.Members.{Members}
use Rattle.model.specs.Node.{Node, Out}
use Rattle.model.specs.Handler.{item}

-- 10.0.0.h:7000
abbrev pub host : ℕ → ℕ
host h = (10 * 16777216 + h) * 65536 + 7000

abbrev pub own : ℕ
own = host 1

abbrev pub B : ℕ
B = host 2

abbrev pub C : ℕ
C = host 3

abbrev pub says : (ℕ → ℕ → ℕ → Event ℕ) → ℕ → ℕ → Gossip ℕ
says kind a n = record { event = kind own a n }

-- four waits of 10 ticks, a group of 1, send constant 3, 6 selected, 1169 bytes
abbrev pub settings : Settings
settings =
    record {
      ping_interval = 10;
      ping_timeout = 10;
      ping_req_timeout = 10;
      suspect_timeout = 10;
      ping_req_group_size = 1;
      send_constant = 3;
      max_selected = 6;
      max_size = 1169;
      collect = false;
      remember = false;
    }

abbrev pub member : ℕ → State → ℕ → Member ℕ
member a st n = record { addr = a; state = st; number = n }

abbrev pub members : List (Member ℕ) → List ℕ → ℕ → Members ℕ
members t o p = record { table = t; order = o; position = p }

-- addresses alone, where the records play no part
abbrev pub order : List ℕ → ℕ → Members ℕ
order o p = members [] o p

abbrev pub node : Members ℕ → List (Entry ℕ) → List (Entry ℕ) → Node ℕ
node m alive deceased =
    record { settings = settings; own = own; members = m; disseminator = record { alive = alive; deceased = deceased }; timers = []; departed = [] }

-- own at 0, and B
abbrev pub with_b : State → ℕ → Node ℕ
with_b st n = node (members (member own state.Alive 0 ∷ member B st n ∷ []) (own ∷ B ∷ []) 0) [] []

-- gossips that came into an empty heap one after another
abbrev pub heap_of : List (Gossip ℕ) → List (Entry ℕ) → List (Entry ℕ)
heap_of [] h = h
heap_of (g ∷ gs) h = heap_of gs (push unused sends_of h (entry_of ipv4 g))

-- what an answer gives, if it gives something
abbrev pub of_given : {G H : Type 0} → (G → H) → Answer G → Option H
of_given f (refused r) = none
of_given f (done b ds) = some (f b)

-- the rule of an event, told by C of an address at a number
abbrev pub rule_of : (ℕ → ℕ → ℕ → Event ℕ) → ℕ → ℕ → Node ℕ → List ℕ → Answer (Out ℕ)
rule_of kind a n s ds = item ipv4 (kind C a n) s ds
