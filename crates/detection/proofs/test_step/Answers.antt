-- `detection::test_step` meets its contract: 2, 3, 5, not due.
-- Assumes nothing.
use Rattle.model.specs.Bounds.{Room}
use Rattle.node.specs.Views.{stored_view}
use Rattle.node.specs.Rows.{sound_ready}
use Rattle.wait.specs.Views.{to_wait}
use Rattle.detection.proofs.Stepping.{tested_is, passed}
use Rattle.detection.proofs.test_step.Goals as goal

pub returns : goal.returns
unfolding stored_view
returns c =
    let a = c.args in
    let lent : Room = record { gossip = a.gossip_room; events = a.event_room } in
    let e = tested_is (stored_view a.node) (to_wait a.wait) a.tick lent
    c.sound-sound.ensures c.in_range-valid.ensures c.wait_of.ensures c.is_over-over.ensures
    c.or_stop-due.ensures c.or_stop-five.ensures c.or_stop-events.ensures c.or_stop-three.ensures c.or_stop.ensures in
    (e, λ d. sound_ready a.node c.has_rows.ensures (passed (stored_view a.node) (to_wait a.wait) a.tick lent _ e d).sound)
