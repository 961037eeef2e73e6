-- `ip6::decimal_len` meets its contract.
-- Assumes nothing.
use Rattle.ip6.specs.Numerals.{decimal_1, decimal_2, decimal_3, decimal_4, decimal_5}
use borrow.Author.Rules.{rules}
use native.Mathlib.Omega.{arith}
use mathlib.Core.Path.{◌≡◌, refl, ap, sym, ◌∙◌}
use Rattle.ip6.proofs.decimal_len.Goals as goal

pub returns-then-n-lt10 : goal.returns-then-n-lt10
returns-then-n-lt10 c = (sym (decimal_1 _ (search rules)), search rules, search rules)

pub returns-then-n-lt100 : goal.returns-then-n-lt100
returns-then-n-lt100 c = (sym (decimal_2 _ (search rules) (search rules)), search rules, search rules)

pub returns-then-n-lt1000 : goal.returns-then-n-lt1000
returns-then-n-lt1000 c = (sym (decimal_3 _ (search rules) (search rules)), search rules, search rules)

pub returns-then-n-lt10000 : goal.returns-then-n-lt10000
returns-then-n-lt10000 c = (sym (decimal_4 _ (search rules) (search rules)), search rules, search rules)

pub returns : goal.returns
returns c = (sym (decimal_5 _ (search rules) (omega arith)), search rules, search rules)
