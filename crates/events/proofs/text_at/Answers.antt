-- `events::text_at` meets its contract: each way out by the tests that led there.
-- Assumes nothing.
use borrow.Author.Rules.{rules}
use Rattle.events.specs.Stepping.{text_wrong, text_read, text_bad}
use Rattle.events.proofs.text_at.Goals as goal

pub returns-then-f-ne2 : goal.returns-then-f-ne2
returns-then-f-ne2 c = text_wrong _ _ (search rules)

pub returns-then-is_utf8 : goal.returns-then-is_utf8
returns-then-is_utf8 c =
    text_read _ _ _ _ c.if-f-ne2.false c.is_utf8.ensures c.if-is_utf8.true c.read-said.ensures

pub returns : goal.returns
returns c =
    text_bad _ _ _ c.if-f-ne2.false c.is_utf8.ensures c.if-is_utf8.false
