-- WHY, OF THE PROGRAM. Of any answer that meets the contract of `swim::why`, and of any result that meets that of `swim::receive` on the same node, with the same draws and that one record.
-- Assumes nothing.
use Rattle.std.specs.Prelude.{◌≡◌, List, ℕ, ◌-◌}
use Rattle.std.proofs.Math.Option.{some}
use Rattle.std.proofs.Math.ListN.{length}
use Rattle.model.specs.declared.Reply.TheVariants.{Done}
use Rattle.model.specs.Answers.{Answer, done, and_then}
use Rattle.address.specs.Here.{Addr, here}
use Rattle.model.specs.Words as W
use Rattle.model.specs.Node as M
use Rattle.model.specs.Handler as handler
use Rattle.types.specs.declared.Gossip.{Gossip}
use Rattle.types.specs.Views.{to_event}
use Rattle.node.specs.declared.Node.{Node}
use Rattle.node.specs.Views.{pack_node}
use Rattle.swim.specs.declared.Outcome.{Outcome}
use Rattle.swim.specs.Promises.{row_after}
use Rattle.swim.specs.Lookups.{handed}
use Rattle.why.specs.declared.Reason.{Reason}
use Rattle.why.specs.declared.Reason.TheVariants as reason
use Rattle.why_promises.specs.Acts.{Deed, acting}
use Rattle.why_promises.specs.Explained.{death_of}

-- ---- the message with that one record
-- what a message does once its records are through, from what they left: gossip is chosen, a sender admitted, an answer sent
abbrev pub rest_of : W.Action Addr → List (W.Gossip Addr) → Addr → Answer (M.Out Addr) → Answer (M.Effect Addr)
rest_of (W.Ping from by) gs own x = and_then (M.and_more x (handler.admit here from)) λ o rest. done (handler.answer_to here (handler.ack_target here from by) (W.Ack own by) o) rest
rest_of (W.PingReq from suspect) gs own x = and_then x λ o rest. done (handler.answer_to here suspect (W.Ping own (some from)) o) rest
rest_of (W.Ack from to) gs own x = and_then x λ o rest. done (handler.forwarded here from to gs o) rest

-- what the reason says that the handler does with the record
abbrev pub deed_of : Node → List ℕ → Gossip → Reason → Deed Addr
deed_of node draws g x = acting here x (death_of here (to_event g.event) (handed node)) (to_event g.event) (handed node) draws

-- a result of a message whose rules did a deed with its records, and sent and did nothing else: an Ack that goes on
pub record Carries (draws : List ℕ) (events : List Gossip) (d : Deed Addr) (r : Outcome) (e' : List Gossip) : Type 0 where
  pub reply : r.answer.reply ≡ Done (length draws - length d.left)
  pub node : r.answer.node ≡ pack_node d.out.node
  pub reported : r.reported ≡ length d.out.said
  pub told : e' ≡ row_after d.out.said events

-- the reasons by which nothing happens
pub data Quiet : Reason → Type 0 where
  of_none : Quiet reason.None
  of_unknown : Quiet reason.Unknown
  of_equal : Quiet reason.Equal
  of_low : Quiet reason.Low

-- "nothing changes and nothing is said": the node is the one that was handed in, no draw is used, and the row for events stays as lent
pub record Still (handed_in : Node) (events : List Gossip) (r : Outcome) (e' : List Gossip) : Type 0 where
  pub reply : r.answer.reply ≡ Done 0
  pub node : r.answer.node ≡ handed_in
  pub reported : r.reported ≡ 0
  pub told : e' ≡ events
