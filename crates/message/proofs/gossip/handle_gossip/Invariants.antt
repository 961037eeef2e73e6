-- `message::gossip::handle_gossip` meets its contract: what is left of the rules gives the answer of the whole.
-- Assumes nothing.
use mathlib.Core.Path.{◌≡◌, refl, ap, sym, subst, ◌∙◌}
use mathlib.Core.Bool.{true}
use mathlib.Core.List.{List}
use mathlib.Core.Logic.{⊎_elim}
use Prim.Native.Nat.{ℕ, ◌+◌, ◌-◌, ◌*◌, ◌≤◌, ◌<◌}
use native.Mathlib.Omega.{arith}
use mir.Val.{Fits}
use mir.Syntax.{w64}
use lib.ListN.{length, drop}
use borrow.Author.Rules.{rules}
use Rattle.address.specs.Here.{Addr, here}
use Rattle.model.specs.declared.Kind.{Kind}
use Rattle.model.specs.declared.Kind.TheVariants as kind
use Rattle.model.specs.declared.Cause.{Cause}
use Rattle.model.specs.declared.Refusal.{Refusal}
use Rattle.model.specs.Answers.{Answer, refused}
use Rattle.model.specs.Words as W
use Rattle.model.specs.Node as M
use Rattle.model.specs.Handler as handler
use Rattle.types.specs.Views.{to_optional}
use Rattle.heap.specs.declared.Heap.{Heap}
use Rattle.heap.specs.Views.{heap_view, Packed}
use Rattle.member.specs.declared.Members.{Members}
use Rattle.member.specs.Views.{view_members}
use Rattle.disseminate.specs.Views.{of_kind}
use Rattle.node.specs.declared.Node.{Node}
use Rattle.departed.specs.declared.DepartedRow.{DepartedRow}
use Rattle.departed.specs.Views.{departed_view, pack_departed}
use Rattle.node.specs.Views.{view_node, with_lists, with_disseminator}
use Rattle.rules.specs.declared.Verdict.{Verdict}
use Rattle.rules.specs.Views.{collects_for, to_verdict, to_news, to_from_verdict, to_from_news, list_after_of}
use Rattle.message.specs.declared.gossip.Lent.{Lent}
use Rattle.message.specs.declared.gossip.Report.{Report}
use Rattle.message.specs.Views.{records_of, sender_rule, verdict_at, deaths_of, cleared_for, leaves_all, goes_to, RoomFor, finds_full, full_for, told_to, noted, refused_heard, heard_of}
use Rattle.message.specs.Acting.{cleared-none, told_elsewhere, living-only, row_stays, room_for, cleared_fits, act-leaves, act-refused, drawn_within, act-full, act_done}
use Rattle.message.specs.Hearing.{Sofar, ahead, turn, turn-keeps, records-long, noted_few, noted_collected, Counted, counted_stops, counted_next, sofar_start, sofar_next, sofar_over, sofar_refused, sofar_more, sofar_ends}
use Rattle.message.proofs.gossip.handle_gossip.Given as goal

abbrev pub records : Lent → List (W.Gossip Addr)
records l = records_of l.rows l.given

abbrev pub whole : Node → Lent → List ℕ → Answer (M.Out Addr)
whole n l draws = M.and_more (handler.gossip here (records l) (view_node n) draws) (sender_rule (to_optional l.sender))

-- the node with the list and the news so far
abbrev pub current : Node → Members → DepartedRow → Heap → Heap → Node
current n m r a d = with_disseminator (with_lists n m r) (record { alive = a; deceased = d })

abbrev pub invariant-loop-i : goal.invariant-loop-i
invariant-loop-i l =
    (l.i ≤ l.lent.given + 1) × (l.report.count ≤ l.i) × Counted (records l.lent) (view_node l.node) l.draws l.used l.i (current l.node l.members l.departed l.alive l.deceased) × Sofar (whole l.node l.lent l.draws) (ahead (to_optional l.lent.sender) (records l.lent) l.i) l.draws l.used (current l.node l.members l.departed l.alive l.deceased) l.report × (l.report.collected ≤ 128 * l.i)

abbrev pub decreases-loop-i : goal.decreases-loop-i
decreases-loop-i l = l.lent.given + 1 - l.i
