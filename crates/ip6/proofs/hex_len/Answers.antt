-- `ip6::hex_len` meets its contract.
-- Assumes nothing.
use Rattle.ip6.specs.Numerals.{hex_1, hex_2, hex_3, hex_4}
use borrow.Author.Rules.{rules}
use native.Mathlib.Omega.{arith}
use mathlib.Core.Path.{◌≡◌, refl, ap, sym, ◌∙◌}
use Rattle.ip6.proofs.hex_len.Goals as goal

pub returns-then-n-lt16 : goal.returns-then-n-lt16
returns-then-n-lt16 c = (sym (hex_1 _ (search rules)), search rules, search rules)

pub returns-then-n-lt256 : goal.returns-then-n-lt256
returns-then-n-lt256 c = (sym (hex_2 _ (search rules) (search rules)), search rules, search rules)

pub returns-then-n-lt4096 : goal.returns-then-n-lt4096
returns-then-n-lt4096 c = (sym (hex_3 _ (search rules) (search rules)), search rules, search rules)

pub returns : goal.returns
returns c = (sym (hex_4 _ (search rules) (search rules)), search rules, search rules)
