-- `detection::declaring::declare_node_as_dead` meets its contract: 10, or a timer is started.
-- Assumes nothing.
use mathlib.Core.Path.{◌∙◌}
use Rattle.model.specs.declared.Reply.TheVariants.{Done}
use Rattle.wait.specs.Views.{step_plain}
use Rattle.wait.specs.Ends.{plain_gives}
use Rattle.detection.proofs.Declared.{declare-full, declare-kept}
use Rattle.detection.proofs.declaring.declare_node_as_dead.Goals as goal

pub returns-then-timers-ge-CAPACITY : goal.returns-then-timers-ge-CAPACITY
returns-then-timers-ge-CAPACITY c =
    let a = c.args in
    plain_gives c.plain.ensures (declare-full a.node c.requires a.wait a.target a.number a.tick c.if-timers-ge-CAPACITY.true)

pub returns : goal.returns
returns c =
    let a = c.args in
    plain_gives (c.plain-2.ensures ∙ (λ i. step_plain (Done 0) (c.with_timers.ensures i) (c.new.ensures i)))
    (declare-kept a.node c.requires a.wait a.target a.number a.tick c.if-timers-ge-CAPACITY.false c.start-after.result c.start-after.ensures)
