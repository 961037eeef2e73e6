-- So many bytes stand at the row's front.
use Rattle.std.proofs.Common.{◌≤◌, length}
use Rattle.streams.proofs.row.read_full.Given as goal

abbrev pub invariant-loop : goal.invariant-loop
invariant-loop g l = l.done ≤ length l.row
