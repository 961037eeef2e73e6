-- `ip6::text_len6` meets its contract.
-- Assumes nothing.
use Rattle.ip6.specs.Lengths.{scan_fits, length-mapped, length_other}
use Rattle.ip6.specs.Text6.{groups}
use borrow.Author.Rules.{rules}
use native.Mathlib.Omega.{arith}
use mathlib.Core.Path.{◌≡◌, refl, ap, sym, ◌∙◌}
use Rattle.ip6.proofs.text_len6.Goals as goal

pub returns-then-mapped : goal.returns-then-mapped
returns-then-mapped c = (length-mapped _ _ _ _ _ (sym (sym c.mapped.ensures ∙ c.if-mapped.true)) (search rules) (search rules), search rules, search rules)

pub plain_len-requires : goal.plain_len-requires
plain_len-requires c =
    let a = c.args in
    let f = scan_fits (groups a.high a.low) c.scanned.result c.scanned.ensures.0 refl in
    (search rules, f.low, f.end)

pub returns : goal.returns
returns c = (length_other _ _ _ _ _ c.scanned.result (sym (sym c.mapped.ensures ∙ c.if-mapped.false)) (search rules) (search rules) (search rules), search rules, search rules)
