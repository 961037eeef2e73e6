-- `ip4text::write_decimal` ends: the number falls at each call.
use Rattle.ip4text.proofs.+write_decimal.Given as goal

abbrev pub decreases-write_decimal : goal.decreases-write_decimal
decreases-write_decimal l = l.n
