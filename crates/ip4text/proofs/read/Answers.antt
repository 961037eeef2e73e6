-- `ip4text::read` meets its contract: the parts passed and the parts left come to the whole.
-- Assumes nothing.
use mathlib.Core.Path.{sym, ◌∙◌}
use native.Mathlib.Omega.{arith}
use borrow.Author.Rules.{rules}
use Rattle.varint.specs.Parts.{rest_of}
use Rattle.ip4text.proofs.Parsing.{decimal_bounds, part-rest_bounds, empty_text, Reading, reading_none, ip_small, ip_smaller, reading_stop, reading_more, port_stop, port_early, port_found}
use Rattle.ip4text.proofs.read.Goals as goal

pub returns-then-bytes-eq0 : goal.returns-then-bytes-eq0
returns-then-bytes-eq0 c = empty_text _ c.if-bytes-eq0.true

pub loop-left-init : goal.loop-left-init
loop-left-init c = reading_none _ c.if-bytes-eq0.false

pub part-requires : goal.part-requires
part-requires c =
    c.mark.ensures.1

pub returns-in_default : goal.returns-in_default
returns-in_default c =
    let l = c.loop-left in
    reading_stop _ _ _ _ l.invariant c.mark.result _ c.mark.ensures.0 (rest_of c.args.bytes.now l.at) (search rules)
    (sym c.in_default.is ∙ c.part.ensures)

pub overflow_mul-ip : goal.overflow_mul-ip
overflow_mul-ip c =
    let l = c.loop-left in
    omega (arith, ip_smaller _ _ _ _ l.invariant (search rules))

pub overflow_add-ip : goal.overflow_add-ip
overflow_add-ip c =
    let l = c.loop-left in
    let b = part-rest_bounds c.mark.result c.args.bytes.now l.at c.in-Found.value c.in-Found.size c.mark.ensures.1 (sym c.part.ensures ∙ c.in-Found.is) in
    omega (arith, ip_smaller _ _ _ _ l.invariant (search rules))

pub overflow_add-at : goal.overflow_add-at
overflow_add-at c =
    let l = c.loop-left in
    let b = part-rest_bounds c.mark.result c.args.bytes.now l.at c.in-Found.value c.in-Found.size c.mark.ensures.1 (sym c.part.ensures ∙ c.in-Found.is) in
    omega (arith, l.invariant.within)

pub loop-left-preserved : goal.loop-left-preserved
loop-left-preserved c =
    let l = c.loop-left in
    reading_more _ _ _ _ l.invariant c.mark.result _ _ _ c.mark.ensures.0 (rest_of c.args.bytes.now l.at) (search rules) c.mark.ensures.1
    (sym c.in-Found.is ∙ c.part.ensures)

pub decimal-requires : goal.decimal-requires
decimal-requires c =
    search rules

pub returns-in_default-decimal : goal.returns-in_default-decimal
returns-in_default-decimal c =
    let l = c.loop-left in
    port_stop _ _ _ _ l.invariant _ (rest_of c.args.bytes.now l.at) (omega arith)
    (sym c.in_default-decimal.is ∙ c.decimal.ensures)

pub returns-then-size-bytes : goal.returns-then-size-bytes
returns-then-size-bytes c =
    let l = c.loop-left in
    port_early _ _ _ _ l.invariant _ (rest_of c.args.bytes.now l.at) (omega arith) _ _ (sym c.in-Found-decimal.is ∙ c.decimal.ensures) (search rules)

pub overflow_mul-result : goal.overflow_mul-result
overflow_mul-result c =
    let l = c.loop-left in
    omega (arith, ip_small _ _ _ _ l.invariant)

pub overflow_add-result : goal.overflow_add-result
overflow_add-result c =
    let l = c.loop-left in
    omega (arith, ip_small _ _ _ _ l.invariant, decimal_bounds 65535 _ _ _ (sym c.decimal.ensures ∙ c.in-Found-decimal.is))

pub returns : goal.returns
returns c =
    let l = c.loop-left in
    port_found _ _ _ _ l.invariant _ (rest_of c.args.bytes.now l.at) (omega arith) _ _ (sym c.in-Found-decimal.is ∙ c.decimal.ensures) (search rules)
