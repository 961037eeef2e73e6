-- `member::sound::addresses` meets its contract: after i turns the row is the first i addresses, and blanks.
-- Assumes nothing.
use mathlib.Core.Path.{◌≡◌, ap, ◌∙◌}
use mathlib.Core.List.{List, ◌++◌, map, append-nil}
use Prim.Native.Nat.{ℕ, ◌+◌, ◌-◌, ◌≤◌}
use native.Mathlib.Omega.{arith}
use native.Mathlib.Numerals.{add-one}
use lib.ListN.{length, take, replicate, length-map, get_or-map}
use lib.Seq.{take_all}
use Rattle.address.specs.Here.{Addr, here}
use Rattle.model.specs.Rows.{pad_to}
use Rattle.laws.specs.Pad.{pad_step}
use Rattle.member.specs.Views.{addr_of, nobody}
use borrow.Author.Rules.{rules}
use Rattle.member.proofs.sound.addresses.Given as goal

abbrev pub invariant-loop-i : goal.invariant-loop-i
invariant-loop-i l = (l.i ≤ 64) × (l.out ≡ pad_to 64 here.blank (take l.i (map addr_of l.table)))

abbrev pub decreases-loop-i : goal.decreases-loop-i
decreases-loop-i l = 64 - l.i
