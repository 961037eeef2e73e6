-- `fields::number` meets its contract: a varint behind the key.
-- Assumes nothing.
use mathlib.Core.Path.{sym, ◌∙◌}
use native.Mathlib.Omega.{arith}
use borrow.Author.Rules.{rules}
use Rattle.varint.specs.Parts.{rest_of}
use Rattle.fields.proofs.Fielding.{number_short, number_stop, number_found, inside}
use Rattle.fields.proofs.number.Goals as goal

pub returns-then-bytes-head : goal.returns-then-bytes-head
returns-then-bytes-head c =
    number_short _ _ _ c.if-bytes-head.true

pub returns-in_default : goal.returns-in_default
returns-in_default c =
    number_stop _ _ _ _ (rest_of c.args.bytes.now c.args.head) (sym c.in_default.is ∙ c.read.ensures)

pub overflow_add-result : goal.overflow_add-result
overflow_add-result c =
    let b = inside c.args.bytes.now c.args.head c.args.number _ (rest_of c.args.bytes.now c.args.head) _ _ (sym c.in-Found.is ∙ c.read.ensures) (search rules) in
    omega (arith, b.0)

pub returns : goal.returns
returns c =
    number_found _ _ _ _ (rest_of c.args.bytes.now c.args.head) _ _ (sym c.in-Found.is ∙ c.read.ensures)
