-- `fields::delimited` meets its contract: a count behind the key, and as many bytes.
-- Assumes nothing.
use mathlib.Core.Path.{sym, ◌∙◌}
use native.Mathlib.Omega.{arith}
use borrow.Author.Rules.{rules}
use Rattle.varint.specs.Parts.{rest_of}
use Rattle.fields.proofs.Fielding.{count-short, count_stop, count-over, count_found, inside}
use Rattle.fields.proofs.delimited.Goals as goal

pub returns-then-bytes-head : goal.returns-then-bytes-head
returns-then-bytes-head c =
    count-short _ _ _ c.if-bytes-head.true

pub returns-in_default : goal.returns-in_default
returns-in_default c =
    count_stop _ _ _ _ (rest_of c.args.bytes.now c.args.head) (sym c.in_default.is ∙ c.read.ensures)

pub overflow_add-start : goal.overflow_add-start
overflow_add-start c =
    let b = inside c.args.bytes.now c.args.head c.args.number _ (rest_of c.args.bytes.now c.args.head) _ _ (sym c.in-Found.is ∙ c.read.ensures) (search rules) in
    omega (arith, b.0)

pub overflow_sub-left : goal.overflow_sub-left
overflow_sub-left c =
    (inside c.args.bytes.now c.args.head c.args.number _ (rest_of c.args.bytes.now c.args.head) _ _ (sym c.in-Found.is ∙ c.read.ensures) (search rules)).0

pub returns-then-left-value : goal.returns-then-left-value
returns-then-left-value c =
    let b = inside c.args.bytes.now c.args.head c.args.number _ (rest_of c.args.bytes.now c.args.head) _ _ (sym c.in-Found.is ∙ c.read.ensures) (search rules) in
    count-over _ _ _ _ (rest_of c.args.bytes.now c.args.head) _ _ (sym c.in-Found.is ∙ c.read.ensures) (omega (arith, b.0))

pub overflow_add-result : goal.overflow_add-result
overflow_add-result c =
    let b = inside c.args.bytes.now c.args.head c.args.number _ (rest_of c.args.bytes.now c.args.head) _ _ (sym c.in-Found.is ∙ c.read.ensures) (search rules) in
    omega (arith, b.0)

pub returns : goal.returns
returns c =
    let b = inside c.args.bytes.now c.args.head c.args.number _ (rest_of c.args.bytes.now c.args.head) _ _ (sym c.in-Found.is ∙ c.read.ensures) (search rules) in
    count_found _ _ _ _ (rest_of c.args.bytes.now c.args.head) _ _ (sym c.in-Found.is ∙ c.read.ensures) (omega (arith, b.0))
