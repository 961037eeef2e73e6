-- `message::first_of` meets its contract: after i turns the row holds the first i, and nothing behind them.
-- Assumes nothing.
use mathlib.Core.Path.{◌≡◌, ap, ◌∙◌}
use borrow.Author.Rules.{rules}
use Prim.Native.Nat.{◌-◌, ◌≤◌}
use native.Mathlib.Omega.{arith}
use native.Mathlib.Numerals.{add-one}
use lib.ListN.{length, get_or, take}
use lib.Seq.{length-take-le, get_or-take, take_all}
use Rattle.model.specs.Rows.{pad_to}
use Rattle.laws.specs.Pad.{pad_step}
use Rattle.types.specs.Views.{no_gossip}
use Rattle.message.proofs.first_of.Given as goal

abbrev pub invariant-loop-i : goal.invariant-loop-i
invariant-loop-i l = (l.i ≤ l.given) × (l.out ≡ pad_to 64 no_gossip (take l.i (take l.given l.rows)))

abbrev pub decreases-loop-i : goal.decreases-loop-i
decreases-loop-i l = l.given - l.i
