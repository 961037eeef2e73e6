-- A time-out that takes nobody out, of each kind: one that finds its address Alive, and one that finds it gone.
-- Assumes nothing.
use Rattle.std.specs.Prelude.{false, List, [], ◌∷◌, ℕ, ◌+◌}
use Rattle.model.specs.declared.State.TheVariants as state
use Rattle.model.specs.declared.Settings.{Settings}
use Rattle.model.specs.Words as W
use Rattle.model.specs.Members.{addrs}
use Rattle.model.specs.Node as M
use Rattle.address.specs.Here.{Addr, here}
use Rattle.types.specs.declared.Gossip.{Gossip}
use Rattle.types.specs.Views.{no_gossip}
use Rattle.node.specs.declared.Node.{Node}
use Rattle.node.specs.Views.{unstored}

-- 10.0.0.h:7000
abbrev pub host : ℕ → Addr
host h = record { family = 4; port = 7000; high = 0; low = 167772160 + h }

abbrev pub settings : Settings
settings =
    record {
      ping_interval = 10;
      ping_timeout = 10;
      ping_req_timeout = 10;
      suspect_timeout = 10;
      ping_req_group_size = 1;
      send_constant = 3;
      max_selected = 6;
      max_size = 1169;
      collect = false;
      remember = false;
    }

abbrev member : ℕ → ℕ → W.Member Addr
member h n = record { addr = host h; state = state.Alive; number = n }

-- these are listed, and a timer of the second host at 4 runs since tick 2
abbrev timed : List (W.Member Addr) → Node
timed table =
    unstored (M.stored here (record {
      settings = settings;
      own = host 1;
      members = record { table = table; order = addrs table; position = 0 };
      disseminator = record { alive = []; deceased = [] };
      timers = record { addr = host 2; number = 4; since = 2 } ∷ [];
      departed = [];
    }))

abbrev pub answered : Node
answered = timed (member 1 0 ∷ member 2 4 ∷ [])

abbrev pub alone : Node
alone = timed (member 1 0 ∷ [])

abbrev pub lent : List Gossip
lent = no_gossip ∷ []
