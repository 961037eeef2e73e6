-- `ip4text::decimal` meets its contract: each way out by the digits passed.
-- Assumes nothing.
use Prim.Native.Nat.{◌-◌}
use mathlib.Core.Path.{◌∙◌}
use lib.ListN.{length}
use borrow.Author.Rules.{rules}
use Rattle.ip4text.proofs.Parsing.{none-at, zero_at, Going, going_none, going_end, going_low, going_high, going_over, going_more}
use Rattle.ip4text.proofs.decimal.Given as goal

abbrev pub invariant-loop-i : goal.invariant-loop-i
invariant-loop-i l = Going l.limit l.bytes l.value l.i

abbrev pub decreases-loop-i : goal.decreases-loop-i
decreases-loop-i l = length l.bytes - l.i
