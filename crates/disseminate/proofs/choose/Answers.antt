-- `disseminate::choose` meets its contract: what is left of the rounds leads to the model's choice.
-- Assumes nothing.
-- the locals of the loop, as one choice
use mathlib.Core.Path.{◌≡◌, sym, ◌∙◌}
use Prim.Native.Nat.{ℕ, ◌≤◌}
use native.Mathlib.Omega.{arith}
use Rattle.address.specs.Here.{here}
use Rattle.model.specs.Choose.{choose}
use Rattle.heap.specs.declared.Heap.{Heap}
use Rattle.heap.specs.Views.{heap_view}
use Rattle.disseminate.specs.declared.Chosen.{Chosen}
use Rattle.disseminate.specs.declared.Choice.{Choice}
use Rattle.disseminate.specs.Views.{to_terms}
use Rattle.disseminate.proofs.Stepping.{open_alive, counts_fit, may_note, may_spend}
use Rattle.disseminate.proofs.Choosing.{Going, begins, over_is, ends-out, ends-over, opens, round_stops, round_goes_on}
use borrow.Author.Rules.{rules}
use Rattle.disseminate.proofs.choose.Invariants.{choice}
use Rattle.disseminate.proofs.choose.Goals as goal

pub loop-left-init : goal.loop-left-init
loop-left-init c = (
  search rules,
  begins c.args.t c.args.alive c.args.deceased _ c.requires.0 c.requires.1 c.requires.2 c.requires.3 c.requires.4 c.requires.5 c.new-n.ensures,
)

pub overflow_add-a : goal.overflow_add-a
overflow_add-a c =
    let r = c.loop-left.invariant.1.ready in
    let p = r.alive.few in
    let q = r.deceased.few in
    search rules

pub gives-living-requires : goal.gives-living-requires
gives-living-requires c =
    open_alive c.args.t _ c.loop-left.invariant.1.ready

pub note_top-n-requires : goal.note_top-n-requires
note_top-n-requires c =
    let t = c.args.t in
    may_note t _ _ (open_alive t _ c.loop-left.invariant.1.ready) c.gives-living.result c.gives-living.ensures

pub spend_top-a-requires : goal.spend_top-a-requires
spend_top-a-requires c =
    let t = c.args.t in
    may_spend t _ _ (open_alive t _ c.loop-left.invariant.1.ready) c.gives-living.result c.gives-living.ensures

pub plus-from_alive-requires : goal.plus-from_alive-requires
plus-from_alive-requires c =
    omega (arith, (counts_fit c.args.t _ c.loop-left.invariant.1.ready).0)

pub gives-dead-requires : goal.gives-dead-requires
gives-dead-requires c =
    let t = c.args.t in
    opens t _ _ c.loop-left.left c.loop-left.invariant.1 c.loop-left-test.true (sym (over_is t _ _ c.loop-left.invariant.1.ready c.over.ensures) ∙ c.if-over.false) c.gives-living.result c.note_top-n.result c.spend_top-a.result c.plus-from_alive.result c.gives-living.ensures c.note_top-n.ensures c.spend_top-a.ensures c.plus-from_alive.ensures

pub note_top-n-requires-in-loop-left : goal.note_top-n-requires-in-loop-left
note_top-n-requires-in-loop-left c =
    may_note _ _ _ (gives-dead-requires c.before) c.gives-dead.result c.gives-dead.ensures

pub spend_top-d-requires : goal.spend_top-d-requires
spend_top-d-requires c =
    may_spend _ _ _ (gives-dead-requires c.before.before) c.gives-dead.result c.gives-dead.ensures

pub plus-from_deceased-requires : goal.plus-from_deceased-requires
plus-from_deceased-requires c =
    omega (arith, (counts_fit c.args.t _ c.loop-left.invariant.1.ready).1)

pub overflow_sub-left : goal.overflow_sub-left
overflow_sub-left c =
    let some = c.loop-left-test.true in
    search rules

pub loop-left-smaller : goal.loop-left-smaller
loop-left-smaller c =
    let some = c.loop-left-test.true in
    search rules

pub loop-left-preserved : goal.loop-left-preserved
loop-left-preserved c =
    let t = c.args.t in (
      search rules,
      round_goes_on t _ _ c.loop-left.left c.loop-left.invariant.1 c.loop-left-test.true (sym (over_is t _ _ c.loop-left.invariant.1.ready c.over.ensures) ∙ c.if-over.false)
          c.gives-living.result c.note_top-n.result c.spend_top-a.result c.plus-from_alive.result
          c.gives-living.ensures c.note_top-n.ensures c.spend_top-a.ensures c.plus-from_alive.ensures
          c.gives-dead.result c.note_top-n-in-loop-left.result c.spend_top-d.result c.plus-from_deceased.result
          c.gives-dead.ensures c.note_top-n-in-loop-left.ensures c.spend_top-d.ensures c.plus-from_deceased.ensures
          c.if-n-before.false,
    )

pub returns-after-loop-left : goal.returns-after-loop-left
returns-after-loop-left c = ends-out _ _ _ _ c.loop-left.invariant.1 c.loop-left-test.false

pub returns-then-over : goal.returns-then-over
returns-then-over c =
    let t = c.args.t in
    let k : Choice = choice c.loop-left.a c.loop-left.d c.loop-left.n c.loop-left.from_alive c.loop-left.from_deceased in
    ends-over t _ k c.loop-left.left c.loop-left.invariant.1 c.loop-left-test.true (sym (over_is t k _ c.loop-left.invariant.1.ready c.over.ensures) ∙ c.if-over.true)

pub returns-then-n-before : goal.returns-then-n-before
returns-then-n-before c =
    let t = c.args.t in
    round_stops t _ _ c.loop-left.left c.loop-left.invariant.1 c.loop-left-test.true (sym (over_is t _ _ c.loop-left.invariant.1.ready c.over.ensures) ∙ c.if-over.false)
    c.gives-living.result c.note_top-n.result c.spend_top-a.result c.plus-from_alive.result
    c.gives-living.ensures c.note_top-n.ensures c.spend_top-a.ensures c.plus-from_alive.ensures
    c.gives-dead.result c.note_top-n-in-loop-left.result c.spend_top-d.result c.plus-from_deceased.result
    c.gives-dead.ensures c.note_top-n-in-loop-left.ensures c.spend_top-d.ensures c.plus-from_deceased.ensures
    c.if-n-before.true
