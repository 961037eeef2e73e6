-- "A clock set back to before the start, by at most 2^31, therefore reads as over."
-- Assumes nothing.
use Rattle.std.specs.Prelude.{◌≡◌, true, ℕ, ◌+◌, ◌-◌, ◌%◌, ◌≤◌, ◌<◌}
use Rattle.std.proofs.Common.{arith, le-leb}
use Rattle.model.specs.Bounds.{ticks, wait_end}
use Rattle.model.specs.Detector.{is_over}

-- the start is k after now, round the clock; the wait is any that a setting may name
pub set-back-is_over : (wait now since k : ℕ) → wait < wait_end → now < ticks → 1 ≤ k → k ≤ wait_end → (now + k) % ticks ≡ since
    → is_over wait now since ≡ true
unfolding is_over
set-back-is_over wait now since k w n l h e = le-leb wait ((now + ticks - since) % ticks) (omega arith)
