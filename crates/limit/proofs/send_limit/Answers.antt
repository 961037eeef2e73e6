-- `limit::send_limit` meets its contract: the table's rule is a test at each of its entries, which antt computes.
-- Assumes nothing.
-- what stands at place k of the table: the limit of k / 9 members and the constant k % 9
use mathlib.Core.Path.{◌≡◌, ◌∙◌}
use Prim.Native.Nat.{ℕ, ◌/◌, ◌%◌, ◌+◌, ◌*◌, ◌<◌}
use native.Mathlib.Nat.{zero-add}
use native.Mathlib.Omega.{arith}
use borrow.Author.Rules.{rules}
use Rattle.model.specs.Limit.{limit_of, least_power, least_from}
use Rattle.limit.proofs.Table.{tabulated}
use Rattle.limit.proofs.send_limit.Goals as goal

abbrev limit_at : ℕ → ℕ
limit_at k = limit_of (k / 9) (k % 9)

pub returns : goal.returns
unfolding limit_of least_power least_from
returns c =
    let n : ℕ = c.args.members in
    let k : ℕ = c.args.constant in
    let q : (n * 9 + k) / 9 ≡ n = omega arith in
    let r : (n * 9 + k) % 9 ≡ k = omega arith in
    c.wide.ensures ∙ tabulated limit_at 585 0 (n * 9 + k) (omega arith) ∙ rw (zero-add, q, r)
