-- `ip6text::next` meets its contract.
-- Assumes nothing.
use Rattle.ip6text.specs.Parsing.{next_colon, next_dot, next_end, next_open, next_other, with_digit}
use borrow.Author.Rules.{rules}
use native.Mathlib.Omega.{arith}
use mathlib.Core.Path.{◌≡◌, refl, ap, sym, ◌∙◌}
use Rattle.ip6text.proofs.next.Goals as goal

pub returns-then-byte-eq58 : goal.returns-then-byte-eq58
returns-then-byte-eq58 c = c.with_colon.ensures ∙ sym (next_colon _ _ (search rules))

pub returns-then-byte-eq46 : goal.returns-then-byte-eq46
returns-then-byte-eq46 c = c.with_dot.ensures ∙ sym (next_dot _ _ (search rules) (search rules))

pub returns-then-byte-eq93 : goal.returns-then-byte-eq93
returns-then-byte-eq93 c = c.with_end.ensures ∙ sym (next_end _ _ (search rules) (search rules) (search rules))

pub returns-then-byte-eq91 : goal.returns-then-byte-eq91
returns-then-byte-eq91 c = sym (next_open _ _ (search rules) (search rules) (search rules) (search rules))

pub returns : goal.returns
returns c = c.with_digit.ensures ∙ ap (with_digit _) c.digit_value.ensures.0 ∙ sym (next_other _ _ (search rules) (search rules) (search rules) (search rules))
