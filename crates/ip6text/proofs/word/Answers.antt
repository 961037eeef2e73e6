-- `ip6text::word` meets its contract.
-- Assumes nothing.
use Rattle.ip6text.specs.Parsing.{word}
use borrow.Author.Rules.{rules}
use native.Mathlib.Omega.{arith}
use mathlib.Core.Path.{◌≡◌, refl, ap, sym, ◌∙◌}
use Rattle.ip6text.proofs.word.Goals as goal

pub returns : goal.returns
unfolding word
returns c = refl
