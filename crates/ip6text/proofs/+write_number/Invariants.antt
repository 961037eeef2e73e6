-- `ip6text::write_number` ends: the number falls at each call.
use Rattle.ip6text.proofs.+write_number.Given as goal

abbrev pub decreases-write_number : goal.decreases-write_number
decreases-write_number l = l.n
