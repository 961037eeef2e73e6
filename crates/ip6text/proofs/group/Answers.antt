-- `ip6text::group` meets its contract.
-- Assumes nothing.
use Rattle.ip6text.specs.Writing.{at_place}
use Rattle.ip6.specs.Text6.{groups}
use borrow.Author.Rules.{rules}
use native.Mathlib.Omega.{arith}
use mathlib.Core.Path.{◌≡◌, refl, ap, sym, ◌∙◌}
use Rattle.ip6text.proofs.group.Goals as goal

pub returns-then-i-lt1 : goal.returns-then-i-lt1
returns-then-i-lt1 c = let a = c.args in (at_place (groups a.high a.low) a.i 0 (search rules), search rules)

pub returns-then-i-lt2 : goal.returns-then-i-lt2
returns-then-i-lt2 c = let a = c.args in (at_place (groups a.high a.low) a.i 1 (search rules), search rules)

pub returns-then-i-lt3 : goal.returns-then-i-lt3
returns-then-i-lt3 c = let a = c.args in (at_place (groups a.high a.low) a.i 2 (search rules), search rules)

pub returns-then-i-lt4 : goal.returns-then-i-lt4
returns-then-i-lt4 c = let a = c.args in (at_place (groups a.high a.low) a.i 3 (search rules), search rules)

pub returns-then-i-lt5 : goal.returns-then-i-lt5
returns-then-i-lt5 c = let a = c.args in (at_place (groups a.high a.low) a.i 4 (search rules), search rules)

pub returns-then-i-lt6 : goal.returns-then-i-lt6
returns-then-i-lt6 c = let a = c.args in (at_place (groups a.high a.low) a.i 5 (search rules), search rules)

pub returns-then-i-lt7 : goal.returns-then-i-lt7
returns-then-i-lt7 c = let a = c.args in (at_place (groups a.high a.low) a.i 6 (search rules), search rules)

pub returns : goal.returns
returns c = let a = c.args in (at_place (groups a.high a.low) a.i 7 (search rules), search rules)
