-- `detection::waiting::heard` meets its contract: Alive, or not listed.
-- Assumes nothing.
use borrow.Author.Tests.{not-true, not-false}
use mathlib.Core.Path.{ap}
use mathlib.Core.Bool.{not}
use Rattle.detection.proofs.waiting.heard.Goals as goal

pub returns-then-not-lists : goal.returns-then-not-lists
returns-then-not-lists c = rw (← c.lists.ensures, not-true c.lists.result (ap not c.if-not-lists.true))

pub returns-in-Alive : goal.returns-in-Alive
returns-in-Alive c = rw (← c.lists.ensures, not-false c.lists.result (ap not c.if-not-lists.false), ← c.member_state-state.ensures, c.in-Alive.is)

pub returns-in-Pending : goal.returns-in-Pending
returns-in-Pending c = rw (← c.lists.ensures, not-false c.lists.result (ap not c.if-not-lists.false), ← c.member_state-state.ensures, c.in-Pending.is)

pub returns-in-Suspected : goal.returns-in-Suspected
returns-in-Suspected c = rw (← c.lists.ensures, not-false c.lists.result (ap not c.if-not-lists.false), ← c.member_state-state.ensures, c.in-Suspected.is)
