-- WHO IS REMEMBERED, OF THE PROGRAM. Of every run of calls of `swim` from the node that creation or a restart handed back: its row of the departed is what the removals of the run say,
-- and with `remember` on an address that is in it is admitted only above every number at which it was removed since it last came into it.
-- Assumes nothing.
use Rattle.std.specs.Prelude.{List, ℕ}
use Rattle.address.specs.Here.{Addr, here}
use Rattle.history.specs.Moments.{Moment}
use Rattle.history.specs.Beginnings.{Beginning}
use Rattle.history.specs.Histories.{Call, trace, start}
use Rattle.node.specs.declared.Node.{Node}
use Rattle.wait.specs.declared.Wait.{Wait}
use Rattle.promises.specs.Begun.{Begun}
use Rattle.promises.specs.Runs.{Runs}

module _ (b : Beginning Addr) (tick : ℕ) (first : Node) (first-wait : Wait) (begun-by : Begun b tick first first-wait)
    (cs : List (Call Addr)) (node : Node) (wait : Wait) (runs : Runs first first-wait cs node wait) where
  -- the run by the rules that it ran, replayed from the inputs alone
  abbrev pub replay : List (Moment Addr)
  replay = trace here cs (start here b tick)
