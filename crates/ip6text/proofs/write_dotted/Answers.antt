-- `ip6text::write_dotted` meets its contract.
-- Assumes nothing.
use Rattle.ip6text.specs.Writing.{room_as, part, without_is, mark_is, dotted_is, text_is, four_1, four_2, four_3, four_4, four-laid}
use Rattle.varint.specs.Laid.{laid_then, laid_as, room-first, room_then}
use Rattle.ip6.specs.Text6.{digit, numeral_in, decimal, hex, groups, behind, joined, without, plain, dotted, mark, mapped, ip6, text6}
use mathlib.Core.List.{List, [], ◌∷◌, ◌++◌}
use Prim.Native.Nat.{ℕ, ◌+◌, ◌/◌, ◌%◌}
use borrow.Author.Rules.{rules}
use native.Mathlib.Omega.{arith}
use mathlib.Core.Path.{◌≡◌, refl, ap, sym, ◌∙◌}
use Rattle.ip6text.proofs.write_dotted.Goals as goal

pub write_number-first-requires : goal.write_number-first-requires
write_number-first-requires c = let a = c.args in let p = c.requires in let h = room_as (dotted a.low) _ (dotted_is a.low) p in (search rules, search rules, search rules, four_1 (decimal (a.low / 16777216 % 256)) (46 ∷ decimal (a.low / 65536 % 256)) (46 ∷ decimal (a.low / 256 % 256)) (46 ∷ decimal (a.low % 256)) h)

pub write_marked-second-requires : goal.write_marked-second-requires
write_marked-second-requires c = let a = c.args in let p = c.requires in let h = room_as (dotted a.low) _ (dotted_is a.low) p in (search rules, search rules, search rules, four_2 (decimal (a.low / 16777216 % 256)) (46 ∷ decimal (a.low / 65536 % 256)) (46 ∷ decimal (a.low / 256 % 256)) (46 ∷ decimal (a.low % 256)) h c.write_number-first.ensures)

pub write_marked-third-requires : goal.write_marked-third-requires
write_marked-third-requires c = let a = c.args in let p = c.requires in let h = room_as (dotted a.low) _ (dotted_is a.low) p in (search rules, search rules, search rules, four_3 (decimal (a.low / 16777216 % 256)) (46 ∷ decimal (a.low / 65536 % 256)) (46 ∷ decimal (a.low / 256 % 256)) (46 ∷ decimal (a.low % 256)) h c.write_number-first.ensures c.write_marked-second.ensures)

pub write_marked-requires : goal.write_marked-requires
write_marked-requires c = let a = c.args in let p = c.requires in let h = room_as (dotted a.low) _ (dotted_is a.low) p in (search rules, search rules, search rules, four_4 (decimal (a.low / 16777216 % 256)) (46 ∷ decimal (a.low / 65536 % 256)) (46 ∷ decimal (a.low / 256 % 256)) (46 ∷ decimal (a.low % 256)) h c.write_number-first.ensures c.write_marked-second.ensures c.write_marked-third.ensures)

pub returns : goal.returns
returns c = let a = c.args in let p = c.requires in let h = room_as (dotted a.low) _ (dotted_is a.low) p in laid_as _ (dotted a.low) (sym (dotted_is a.low)) (four-laid (decimal (a.low / 16777216 % 256)) (46 ∷ decimal (a.low / 65536 % 256)) (46 ∷ decimal (a.low / 256 % 256)) (46 ∷ decimal (a.low % 256)) h c.write_number-first.ensures c.write_marked-second.ensures c.write_marked-third.ensures c.write_marked.ensures)
