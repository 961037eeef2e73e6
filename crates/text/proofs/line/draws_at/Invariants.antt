-- `text::draws_at` is safe and ends: each turn counts one draw.
-- Assumes nothing.
use mathlib.Core.Path.{◌≡◌}
use Prim.Native.Nat.{◌-◌, ◌≤◌}
use lib.ListN.{length}
use borrow.Author.Rules.{rules}
use Rattle.text.proofs.line.draws_at.Given as goal

abbrev pub invariant-loop-drawn : goal.invariant-loop-drawn
invariant-loop-drawn l = (l.drawn ≤ 1025) × (length l.draws ≡ length l.initial.draws)

abbrev pub decreases-loop-drawn : goal.decreases-loop-drawn
decreases-loop-drawn l = 1025 - l.drawn
