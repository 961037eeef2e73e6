-- `ip4text::read` meets its contract: the parts passed and the parts left come to the whole.
-- Assumes nothing.
use mathlib.Core.Path.{sym, ◌∙◌}
use native.Mathlib.Omega.{arith}
use borrow.Author.Rules.{rules}
use Rattle.varint.specs.Parts.{rest_of}
use Rattle.ip4text.proofs.Parsing.{decimal_bounds, part-rest_bounds, empty_text, Reading, reading_none, ip_small, ip_smaller, reading_stop, reading_more, port_stop, port_early, port_found}
use Rattle.ip4text.proofs.read.Given as goal

abbrev pub invariant-loop-left : goal.invariant-loop-left
invariant-loop-left l = Reading l.bytes l.ip l.at l.left

abbrev pub decreases-loop-left : goal.decreases-loop-left
decreases-loop-left l = l.left
