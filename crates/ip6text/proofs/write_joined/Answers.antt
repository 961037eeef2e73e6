-- `ip6text::write_joined` meets its contract.
-- Assumes nothing.
use Rattle.ip6text.specs.Writing.{none-joined, joined_1, joined_2, joined-laid}
use Rattle.varint.specs.Laid.{laid_then, laid_as, room-first, room_then}
use Rattle.ip6.specs.Text6.{digit, numeral_in, decimal, hex, groups, behind, joined, without, plain, dotted, mark, mapped, ip6, text6}
use mathlib.Core.List.{List, [], ◌∷◌, ◌++◌}
use Prim.Native.Nat.{ℕ, ◌+◌, ◌/◌, ◌%◌}
use borrow.Author.Rules.{rules}
use native.Mathlib.Omega.{arith}
use mathlib.Core.Path.{◌≡◌, refl, ap, sym, ◌∙◌}
use Rattle.ip6text.proofs.write_joined.Goals as goal

pub returns-then-end-i : goal.returns-then-end-i
returns-then-end-i c = let a = c.args in let p = c.requires in let gs = groups a.high a.low in none-joined a.i a.end gs (search rules)

pub write_number-next-requires : goal.write_number-next-requires
write_number-next-requires c = let a = c.args in let p = c.requires in let gs = groups a.high a.low in (search rules, search rules, search rules, joined_1 a.i a.end gs (search rules) (search rules) _ c.group.ensures.0 p.1)

pub write_behind-requires : goal.write_behind-requires
write_behind-requires c = let a = c.args in let p = c.requires in let gs = groups a.high a.low in (search rules, joined_2 a.i a.end gs (search rules) (search rules) _ c.group.ensures.0 p.1 c.write_number-next.ensures)

pub returns : goal.returns
returns c = let a = c.args in let p = c.requires in let gs = groups a.high a.low in joined-laid a.i a.end gs (search rules) (search rules) _ c.group.ensures.0 p.1 c.write_number-next.ensures c.write_behind.ensures
