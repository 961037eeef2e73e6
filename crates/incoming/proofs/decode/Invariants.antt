-- `incoming::decode` meets its contract: the fields passed and the fields left come to the whole.
-- Assumes nothing.
use mathlib.Core.Path.{refl, sym, ap, ◌∙◌}
use mathlib.Core.List.{List}
use Prim.Native.Nat.{ℕ, ◌-◌}
use native.Mathlib.Omega.{arith}
use lib.ListN.{length, take, drop, length-drop}
use Rattle.varint.specs.Parts.{rest_of, part-long}
use Rattle.fields.specs.FieldLaws.{next_lies}
use Rattle.fields.specs.Walks.{going_none, going_end}
use Rattle.actions.specs.Stepping.{size_at}
use Rattle.incoming.specs.Datagram.{unsent, message_step}
use Rattle.incoming.specs.Stepping.{shows_unspoken, Run, run_stop, run-over, run_wrong, run-refuse, run_more, decodes_stop, decodes_read}
use borrow.Author.Rules.{rules}
use Rattle.incoming.proofs.decode.Given as goal

abbrev pub invariant-loop-at : goal.invariant-loop-at
invariant-loop-at l = Run l.bytes l.at l.kind l.small l.row

abbrev pub decreases-loop-at : goal.decreases-loop-at
decreases-loop-at l = length l.bytes - l.at
