-- `ip6text::write_mark` meets its contract.
-- Assumes nothing.
use Rattle.ip6text.specs.Writing.{room_as, part, without_is, mark_is, dotted_is, text_is, four_1, four_2, four_3, four_4, four-laid}
use Rattle.varint.specs.Laid.{laid_then, laid_as, room-first, room_then}
use Rattle.ip6.specs.Text6.{digit, numeral_in, decimal, hex, groups, behind, joined, without, plain, dotted, mark, mapped, ip6, text6}
use mathlib.Core.List.{List, [], ◌∷◌, ◌++◌}
use Prim.Native.Nat.{ℕ, ◌+◌, ◌/◌, ◌%◌}
use borrow.Author.Rules.{rules}
use native.Mathlib.Omega.{arith}
use mathlib.Core.Path.{◌≡◌, refl, ap, sym, ◌∙◌}
use Rattle.ip6text.proofs.write_mark.Goals as goal

pub put-first-requires : goal.put-first-requires
put-first-requires c = let a = c.args in let p = c.requires in let h = room_as mark _ mark_is p in four_1 (58 ∷ []) (58 ∷ []) (hex 65535) (58 ∷ []) h

pub put-second-requires : goal.put-second-requires
put-second-requires c = let a = c.args in let p = c.requires in let h = room_as mark _ mark_is p in four_2 (58 ∷ []) (58 ∷ []) (hex 65535) (58 ∷ []) h c.put-first.ensures

pub write_number-third-requires : goal.write_number-third-requires
write_number-third-requires c = let a = c.args in let p = c.requires in let h = room_as mark _ mark_is p in (search rules, search rules, search rules, four_3 (58 ∷ []) (58 ∷ []) (hex 65535) (58 ∷ []) h c.put-first.ensures c.put-second.ensures)

pub put-requires : goal.put-requires
put-requires c = let a = c.args in let p = c.requires in let h = room_as mark _ mark_is p in four_4 (58 ∷ []) (58 ∷ []) (hex 65535) (58 ∷ []) h c.put-first.ensures c.put-second.ensures c.write_number-third.ensures

pub returns : goal.returns
returns c = let a = c.args in let p = c.requires in let h = room_as mark _ mark_is p in laid_as _ mark (sym mark_is) (four-laid (58 ∷ []) (58 ∷ []) (hex 65535) (58 ∷ []) h c.put-first.ensures c.put-second.ensures c.write_number-third.ensures c.put.ensures)
