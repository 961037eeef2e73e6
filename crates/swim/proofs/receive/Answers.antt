-- The message over lent rows is the message by value, its records written over the rows.
use Rattle.std.proofs.Common.{◌≡◌, ◌∙◌, ap, List, length}
use Rattle.model.specs.Bounds.{Room}
use Rattle.model.specs.Calls as calls
use Rattle.address.specs.Here.{here}
use Rattle.types.specs.declared.Gossip.{Gossip}
use Rattle.types.specs.Views.{to_action}
use Rattle.node.specs.Views.{stored_view}
use Rattle.message.specs.Answers.{received_of, lent_rows}
use Rattle.swim.specs.Promises.{room, message_of}
use Rattle.swim.specs.Laws.{lent-message, received_ends}
use Rattle.swim.proofs.receive.Goals as goal

pub returns : goal.returns
returns c =
    let a = c.args in
    let ys = a.rows.now in
    let lent : Room = room a.gossip.now a.events.now in
    let by_rows = λ (rs : List Gossip). received_of (calls.message here (stored_view a.node) (to_action a.action) (lent_rows rs (length ys)) a.draws.now lent) in
    let e : c.receive-done.result ≡ received_of (message_of a.node a.action ys a.draws.now a.gossip.now a.events.now) =
    c.receive-done.ensures.0 ∙ ap by_rows c.first_64-first.ensures ∙ ap received_of (lent-message (stored_view a.node) (to_action a.action) a.draws.now lent ys) in
    record {
      ends = received_ends a.gossip.now a.events.now c.write_64.new.out c.write_65.new.out (message_of a.node a.action ys a.draws.now a.gossip.now a.events.now) c.receive-done.result e c.write_64.ensures c.write_65.ensures;
    }
