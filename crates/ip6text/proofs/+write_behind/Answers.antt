-- `ip6text::write_behind` meets its contract: a colon, a group, and the groups behind it.
-- Assumes nothing.
use Rattle.std.proofs.Common.{rules, arith}
use Rattle.ip6.specs.Text6.{groups}
use Rattle.ip6text.specs.Writing.{none-behind, behind_1, behind_2, behind_3, behind-laid}
use Rattle.ip6text.proofs.+write_behind.Goals as goal

pub returns-then-end-i : goal.returns-then-end-i
returns-then-end-i t c = let a = c.args in none-behind a.i a.end (groups a.high a.low) (search rules)

pub put-first-requires : goal.put-first-requires
put-first-requires t c = let a = c.args in behind_1 a.i a.end (groups a.high a.low) (search rules) (search rules) c.requires.1

pub write_number-next-requires : goal.write_number-next-requires
write_number-next-requires t c =
    let a = c.args in (
      search rules,
      search rules,
      search rules,
      behind_2 a.i a.end (groups a.high a.low) (search rules) (search rules) _ c.group.ensures.0 c.requires.1 c.put-first.ensures,
    )

pub write_behind-requires : goal.write_behind-requires
write_behind-requires t c =
    let a = c.args in (
      omega arith,
      (
        search rules,
        behind_3 a.i a.end (groups a.high a.low) (search rules) (search rules) _ c.group.ensures.0 c.requires.1 c.put-first.ensures c.write_number-next.ensures,
      ),
    )

pub returns : goal.returns
returns t c =
    let a = c.args in
    behind-laid a.i a.end (groups a.high a.low) (search rules) (search rules) _ c.group.ensures.0 c.requires.1 c.put-first.ensures c.write_number-next.ensures c.write_behind.ensures
