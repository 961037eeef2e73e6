-- `disseminate::spend_top` meets its contract: the top is taken, or nothing is.
-- Assumes nothing.
use borrow.Author.Rules.{rules}
use borrow.Author.Tests.{not-true, not-false}
use mathlib.Core.Path.{ap}
use mathlib.Core.Bool.{not}
use Rattle.disseminate.proofs.spend_top.Goals as goal

pub returns-then-not-given : goal.returns-then-not-given
returns-then-not-given c = rw (not-true c.args.given (ap not c.if-not-given.true))

pub after_top-requires : goal.after_top-requires
after_top-requires c = c.requires (not-false c.args.given (ap not c.if-not-given.false))

pub returns : goal.returns
returns c = rw (not-false c.args.given (ap not c.if-not-given.false)) c.after_top.ensures
