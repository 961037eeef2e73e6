-- NO NODE IS WEDGED, OF THE PROGRAM. Of every run of a program's calls of `swim`, whatever comes in between: with 2817 pings the alive heap had room at some time.
-- Assumes nothing.
use Rattle.std.specs.Prelude.{◌&&◌, List, ℕ, ◌+◌, ◌≤◌}
use Rattle.model.specs.Rows.{one}
use Rattle.address.specs.Here.{Addr}
use Rattle.history.specs.Histories.{Call, Add, Receive, Step, Timer, Lends}
use Rattle.probing.specs.Stretch.{has_run, is_ping}
use Rattle.node.specs.declared.Node.{Node}
use Rattle.node.specs.Views.{stored_view}
use Rattle.wait.specs.declared.Wait.{Wait}
use Rattle.wait.specs.Views.{to_wait}
use Rattle.promises.specs.Made.{Held, Said}
use Rattle.promises.specs.Runs.{Runs, rests, makes}

-- a call that pinged: a step, lent a wait record in SendingPing, that answered "done"
abbrev pub pings_made : Held → Call Addr → Said → ℕ
pings_made h (Add a n ds) s = 0
pings_made h (Receive action gs ds lent) s = 0
pings_made h (Step now ds lent) s = one (is_ping (to_wait h.wait).state && has_run s.reply)
pings_made h (Timer now lent) s = 0
pings_made h (Lends wait) s = 0

abbrev pub pings_in_run : {n n' : Node} {w w' : Wait} {cs : List (Call Addr)} → Runs n w cs n' w' → ℕ
pings_in_run (rests n w) = 0
pings_in_run (makes h c s h' m rest) = pings_made h c s + pings_in_run rest

-- the alive heap of every node of a run is full
abbrev pub FullInRun : {n n' : Node} {w w' : Wait} {cs : List (Call Addr)} → Runs n w cs n' w' → Type 0
FullInRun (rests n w) = 128 ≤ (stored_view n).alive.used
FullInRun (makes h c s h' m rest) = (128 ≤ (stored_view h.node).alive.used) × FullInRun rest
