-- `disseminate::barred` meets its contract: by the size, else by the notes.
-- Assumes nothing.
use mathlib.Core.Path.{◌∙◌}
use Prim.Native.Nat.{◌+◌}
use borrow.Author.Tests.{lt-ltb, le-ltb}
use borrow.Author.Rules.{rules}
use Rattle.disseminate.proofs.Stepping.{or_right}
use Rattle.disseminate.proofs.barred.Goals as goal

pub returns-then-max_size-n : goal.returns-then-max_size-n
returns-then-max_size-n c = rw (lt-ltb _ _ c.if-max_size-n.true)

pub returns : goal.returns
returns c =
    let a = c.args in
    c.noted.ensures ∙ or_right _ _ (le-ltb a.max_size (a.n.size + a.top.size) (search rules))
