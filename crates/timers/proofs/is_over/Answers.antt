-- `timers::is_over` meets its contract: the wrapped difference is now less start, modulo 2^32.
-- Assumes nothing.
use Rattle.std.proofs.Common.{◌≡◌, ℕ, ◌+◌, ◌-◌, ◌%◌, ◌<◌, leb, ap, arith, rules}
use Rattle.model.specs.Detector.{is_over}
use Rattle.timers.proofs.is_over.Goals as goal

difference : (now since r : ℕ) → now < 4294967296 → since < 4294967296 → r < 4294967296 → (r + since) % 4294967296 ≡ now → r ≡ (now + 4294967296 - since) % 4294967296
difference now since r h k l e = omega arith

pub returns : goal.returns
unfolding is_over
returns c = ap (leb c.args.wait) (difference c.args.now c.args.since c.wrapping_sub_u32.result (search rules) (search rules) (search rules) c.wrapping_sub_u32.ensures.value)
