-- `ip6text::with_end` meets its contract.
-- Assumes nothing.
use Rattle.ip6text.specs.Parsing.{end_dotted, end_group, end_gap, ended, fresh, number, whole}
use borrow.Author.Rules.{rules}
use native.Mathlib.Omega.{arith}
use mathlib.Core.Path.{◌≡◌, refl, ap, sym, ◌∙◌}
use Rattle.ip6text.proofs.with_end.Goals as goal

pub returns-then-s-eq1 : goal.returns-then-s-eq1
unfolding ended fresh number
returns-then-s-eq1 c = c.fresh.ensures ∙ sym (end_dotted _ (search rules))

pub returns-then-s-eq1-2 : goal.returns-then-s-eq1-2
unfolding ended fresh number
returns-then-s-eq1-2 c = c.whole.ensures ∙ ap whole c.pushed.ensures ∙ sym (end_group _ (search rules) (search rules))

pub returns : goal.returns
unfolding ended fresh number
returns c = c.whole-2.ensures ∙ sym (end_gap _ (search rules) (search rules))
