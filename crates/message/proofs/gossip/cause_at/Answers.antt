-- `message::gossip::cause_at` meets its contract: a record's turn, or the sender's.
-- Assumes nothing.
use mathlib.Core.Path.{ap, sym}
use mathlib.Core.Bool.{Bool}
use borrow.Author.Tests.{lt-ltb, le-ltb}
use Rattle.model.specs.declared.Cause.{Cause}
use Rattle.model.specs.declared.Cause.TheVariants.{Record, Sender}
use Rattle.model.specs.Rows.{pick}
use Rattle.model.specs.Handler.{cause_at}
use Rattle.message.proofs.gossip.cause_at.Goals as goal

pub returns-then-i-given : goal.returns-then-i-given
unfolding cause_at
returns-then-i-given c = let a = c.args in sym (ap (λ (u : Bool). pick u (Record a.i) Sender) (lt-ltb a.i a.given c.if-i-given.true))

pub returns : goal.returns
unfolding cause_at
returns c = let a = c.args in sym (ap (λ (u : Bool). pick u (Record a.i) Sender) (le-ltb a.i a.given c.if-i-given.false))
