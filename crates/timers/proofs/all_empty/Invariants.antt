-- `timers::all_empty` meets its contract: each place from n to i has passed.
-- Assumes nothing.
use Rattle.std.proofs.Common.{◌≡◌, ◌-◌, length, drop, arith, rules}
use Rattle.model.specs.Rows.{every}
use Rattle.laws.specs.Loops.{Tested, test_from, test_fails, test_next, test_ends}
use Rattle.timers.specs.Views.{no_timer, is_empty_place}
use Rattle.timers.proofs.all_empty.Given as goal

abbrev pub invariant-loop-i : goal.invariant-loop-i
invariant-loop-i l = Tested is_empty_place l.entries 16 (every is_empty_place (drop l.n l.entries)) l.i

abbrev pub decreases-loop-i : goal.decreases-loop-i
decreases-loop-i l = 16 - l.i
