-- `incoming::told` meets its contract: malformed, too many records, or all of it.
-- Assumes nothing.
use mathlib.Core.Path.{ap, sym, ◌∙◌}
use borrow.Author.Rules.{rules}
use borrow.Author.Tests.{lt-ltb, le-ltb}
use Rattle.model.specs.Bounds.{message_records}
use Rattle.incoming.specs.declared.Decoded.{Decoded}
use Rattle.incoming.specs.Datagram.{told_of}
use Rattle.incoming.proofs.told.Goals as goal

pub returns-then-count-gt64 : goal.returns-then-count-gt64
unfolding told_of
returns-then-count-gt64 c =
    let a = c.args in
    sym (ap (λ (d : Decoded). told_of d a.count) c.in-Whole.is ∙ simp (lt-ltb message_records a.count c.if-count-gt64.true))

pub returns-in-Malformed : goal.returns-in-Malformed
unfolding told_of
returns-in-Malformed c = let a = c.args in sym (ap (λ (d : Decoded). told_of d a.count) c.in-Malformed.is)

pub returns-else-count-gt64 : goal.returns-else-count-gt64
unfolding told_of
returns-else-count-gt64 c =
    let a = c.args in
    sym (ap (λ (d : Decoded). told_of d a.count) c.in-Whole.is ∙ simp (le-ltb message_records a.count c.if-count-gt64.false))
