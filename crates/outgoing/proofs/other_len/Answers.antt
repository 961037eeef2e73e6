-- `outgoing::other_len` meets its contract: nothing, or a text.
-- Assumes nothing.
use mathlib.Core.Path.{ap, ◌∙◌}
use Prim.Native.Nat.{ℕ, ◌+◌}
use Rattle.outgoing.specs.Laying.{other_none, other_some}
use borrow.Author.Rules.{rules}
use Rattle.outgoing.proofs.other_len.Goals as goal

pub returns-in-Absent : goal.returns-in-Absent
returns-in-Absent c =
    (other_none _ c.in-Absent.is, search rules)

pub returns-in-Given : goal.returns-in-Given
returns-in-Given c =
    let b = other_some c.args.o _ c.text_len.result c.in-Given.is c.text_len.ensures.0 (search rules) in
    (ap (λ (n : ℕ). 2 + n) c.wide.ensures ∙ b, search rules)
