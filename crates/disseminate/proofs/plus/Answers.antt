-- `disseminate::plus` meets its contract.
-- Assumes nothing.
use mathlib.Core.Path.{sym, ◌∙◌, ap}
use mathlib.Core.Bool.{Bool}
use Prim.Native.Nat.{◌+◌}
use native.Mathlib.Nat.{add-zero}
use Rattle.model.specs.Rows.{one}
use borrow.Author.Rules.{rules}
use Rattle.disseminate.proofs.plus.Goals as goal

pub returns-then-gave : goal.returns-then-gave
returns-then-gave c = ap (λ (b : Bool). c.args.n + one b) (sym c.if-gave.true)

pub returns-else-gave : goal.returns-else-gave
returns-else-gave c = sym (ap (λ (b : Bool). c.args.n + one b) c.if-gave.false ∙ add-zero c.args.n)
