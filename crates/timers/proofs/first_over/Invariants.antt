-- `timers::first_over` meets its contract: none of the first i is over.
-- Assumes nothing.
use Rattle.std.proofs.Common.{◌≡◌, ◌-◌, length, take, sym, ap, ◌∙◌, arith, rules}
use Rattle.laws.specs.Loops.{Sought, seek-first, seek_found, seek-next, seek-ends}
use Rattle.timers.specs.Views.{no_timer, ending_of}
use Rattle.timers.specs.declared.Ending.TheVariants.{At}
use Rattle.timers.proofs.Searching.{over, over_first, over_none}
use Rattle.timers.proofs.first_over.Given as goal

abbrev pub invariant-loop-i : goal.invariant-loop-i
invariant-loop-i l = Sought (over l.wait l.now) l.entries l.n l.i

abbrev pub decreases-loop-i : goal.decreases-loop-i
decreases-loop-i l = l.n - l.i
