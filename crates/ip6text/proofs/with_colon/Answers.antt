-- `ip6text::with_colon` meets its contract.
-- Assumes nothing.
use Rattle.ip6text.specs.Parsing.{colon_group, colon_gap, gapped, fresh, number}
use borrow.Author.Rules.{rules}
use native.Mathlib.Omega.{arith}
use mathlib.Core.Path.{◌≡◌, refl, ap, sym, ◌∙◌}
use Rattle.ip6text.proofs.with_colon.Goals as goal

pub returns-then-s-eq1 : goal.returns-then-s-eq1
unfolding gapped fresh number
returns-then-s-eq1 c = c.fresh.ensures ∙ ap fresh c.pushed.ensures ∙ sym (colon_group _ (search rules))

pub returns : goal.returns
unfolding gapped fresh number
returns c = c.fresh-2.ensures ∙ sym (colon_gap _ (search rules))
