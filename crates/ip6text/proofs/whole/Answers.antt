-- `ip6text::whole` meets its contract.
-- Assumes nothing.
use Rattle.ip6text.specs.Parsing.{whole_as, ended, fresh, number}
use borrow.Author.Rules.{rules}
use native.Mathlib.Omega.{arith}
use mathlib.Core.Path.{◌≡◌, refl, ap, sym, ◌∙◌}
use Rattle.ip6text.proofs.whole.Goals as goal

pub returns : goal.returns
unfolding ended fresh number
returns c = c.fresh.ensures ∙ whole_as _ _ _ _ _ _ _ _ _ _ _ c.spread.ensures.0 c.spread-2.ensures.0 c.spread-3.ensures.0 c.spread-4.ensures.0 c.spread-5.ensures.0 c.spread-6.ensures.0 c.spread-7.ensures.0 c.spread-8.ensures.0 c.word.ensures c.word-2.ensures
