-- `ip6text::write_behind` ends: the groups that are left fall at each call.
use Rattle.std.proofs.Common.{◌-◌}
use Rattle.ip6text.proofs.+write_behind.Given as goal

abbrev pub decreases-write_behind : goal.decreases-write_behind
decreases-write_behind l = l.end - l.i
