-- NOBODY IS LEFT UNPROBED, of the program's own pings: in a stretch of a run of its calls in which nobody comes or goes and no ping request runs, 2n − 1 pings reach each of n peers,
-- each by a letter that one of the calls answered with.
-- Assumes nothing.
use Rattle.std.specs.Prelude.{◌⊎◌, List, [], ◌∷◌, ◌++◌}
use Rattle.address.specs.Here.{Addr}
use Rattle.history.specs.Histories.{Call}
use Rattle.types.specs.Views.{to_action}
use Rattle.node.specs.declared.Node.{Node}
use Rattle.node.specs.declared.Letter.{Letter}
use Rattle.wait.specs.declared.Wait.{Wait}
use Rattle.probing.specs.Stretch.{pings}
use Rattle.probing.specs.Sent.{PingTo}
use Rattle.promises.specs.Runs.{Runs, rests, makes}

-- whom the letters of an answer ping that nobody asked for
abbrev pub pinged_in : List Letter → List Addr
pinged_in [] = []
pinged_in (l ∷ ls) = pings (to_action l.action) l.target ++ pinged_in ls

-- and the letters of all answers of a run, in order
abbrev pub pinged_in_run : {n n' : Node} {w w' : Wait} {cs : List (Call Addr)} → Runs n w cs n' w' → List Addr
pinged_in_run (rests n w) = []
pinged_in_run (makes h c s h' m rest) = pinged_in s.letters ++ pinged_in_run rest

-- one of the letters is a Ping to a that nobody asked for
abbrev pub PingAmong : Addr → List Letter → Type 0
PingAmong a [] = ⊥
PingAmong a (l ∷ ls) = PingTo a (to_action l.action) l.target ⊎ PingAmong a ls

-- and one of the calls of a run answered with it
abbrev pub PingSent : Addr → {n n' : Node} {w w' : Wait} {cs : List (Call Addr)} → Runs n w cs n' w' → Type 0
PingSent a (rests n w) = ⊥
PingSent a (makes h c s h' m rest) = PingAmong a s.letters ⊎ PingSent a rest
