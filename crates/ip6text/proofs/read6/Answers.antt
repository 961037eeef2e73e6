-- `ip6text::read6` meets its contract.
-- Assumes nothing.
use Rattle.ip6text.specs.Reading.{given_so, none_so}
use borrow.Author.Rules.{rules}
use native.Mathlib.Omega.{arith}
use mathlib.Core.Path.{◌≡◌, refl, ap, sym, ◌∙◌}
use Rattle.ip6text.proofs.read6.Goals as goal

pub returns-then-is_text : goal.returns-then-is_text
returns-then-is_text c = given_so _ c.guess-s.result c.guess-s.ensures (search rules) (search rules) (c.is_text.ensures.0 c.if-is_text.true)

pub returns : goal.returns
returns c = none_so _ c.guess-s.result _ c.guess-s.ensures (search rules) (search rules) c.is_text.ensures.1 c.if-is_text.false
