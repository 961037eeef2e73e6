-- `ip6text::is_text` meets its contract.
-- Assumes nothing.
use Rattle.ip6text.specs.Writing.{laid-part}
use borrow.Author.Rules.{rules}
use native.Mathlib.Omega.{arith}
use mathlib.Core.Path.{◌≡◌, refl, ap, sym, ◌∙◌}
use Rattle.ip6text.proofs.is_text.Goals as goal

pub returns : goal.returns
returns c = let e = laid-part c.write6-end.ensures (search rules) in let s = c.same.ensures in ((λ q. s.0 q ∙ e), (λ q. s.1 (q ∙ sym e)))
