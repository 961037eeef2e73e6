-- A CALL THAT IS NOT KEPT hands back the node as it came, touches no lent row and no wait record, sends and reports nothing and uses no draw: whatever the call,
-- whichever refusal it is, and so if it answers "already" or "not due".
-- Assumes nothing.
use Rattle.std.specs.Prelude.{◌≡◌, []}
use Rattle.model.specs.declared.Reply.{Reply}
use Rattle.model.specs.Calls as calls
use Rattle.node.specs.declared.Node.{Node}
use Rattle.node.specs.Views.{plain_answer}
use Rattle.swim.specs.declared.Outcome.{Outcome}
use Rattle.promises.specs.Made.{Held, Said}

-- nothing was sent and nothing reported
abbrev pub idle_outcome : Reply → Node → Outcome
idle_outcome z n = record { answer = plain_answer z n; reported = 0 }

pub record Untouched (h h' : Held) (s : Said) : Type 0 where
  pub held : h' ≡ h
  pub letters : s.letters ≡ []
  pub reported : s.reported ≡ 0
  pub draws : calls.draws_used s.reply ≡ 0
