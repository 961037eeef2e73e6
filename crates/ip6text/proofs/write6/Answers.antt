-- `ip6text::write6` meets its contract.
-- Assumes nothing.
use Rattle.ip6text.specs.Writing.{room_as, part, without_is, mark_is, dotted_is, text_is, four_1, four_2, four_3, four_4, four-laid}
use Rattle.varint.specs.Laid.{laid_then, laid_as, room-first, room_then}
use Rattle.ip6.specs.Text6.{digit, numeral_in, decimal, hex, groups, behind, joined, without, plain, dotted, mark, mapped, ip6, text6}
use mathlib.Core.List.{List, [], ◌∷◌, ◌++◌}
use Prim.Native.Nat.{ℕ, ◌+◌, ◌/◌, ◌%◌}
use borrow.Author.Rules.{rules}
use native.Mathlib.Omega.{arith}
use mathlib.Core.Path.{◌≡◌, refl, ap, sym, ◌∙◌}
use Rattle.ip6text.proofs.write6.Goals as goal

pub put-first-requires : goal.put-first-requires
put-first-requires c = let a = c.args in let p = c.requires in let h = room_as (text6 a.high a.low a.port) _ (text_is a.high a.low a.port) p.1 in four_1 (91 ∷ []) (ip6 a.high a.low) (93 ∷ []) (58 ∷ decimal a.port) h

pub write_ip-second-requires : goal.write_ip-second-requires
write_ip-second-requires c = let a = c.args in let p = c.requires in let h = room_as (text6 a.high a.low a.port) _ (text_is a.high a.low a.port) p.1 in four_2 (91 ∷ []) (ip6 a.high a.low) (93 ∷ []) (58 ∷ decimal a.port) h c.put-first.ensures

pub put-third-requires : goal.put-third-requires
put-third-requires c = let a = c.args in let p = c.requires in let h = room_as (text6 a.high a.low a.port) _ (text_is a.high a.low a.port) p.1 in four_3 (91 ∷ []) (ip6 a.high a.low) (93 ∷ []) (58 ∷ decimal a.port) h c.put-first.ensures c.write_ip-second.ensures

pub write_marked-requires : goal.write_marked-requires
write_marked-requires c = let a = c.args in let p = c.requires in let h = room_as (text6 a.high a.low a.port) _ (text_is a.high a.low a.port) p.1 in (search rules, search rules, search rules, four_4 (91 ∷ []) (ip6 a.high a.low) (93 ∷ []) (58 ∷ decimal a.port) h c.put-first.ensures c.write_ip-second.ensures c.put-third.ensures)

pub returns : goal.returns
returns c = let a = c.args in let p = c.requires in let h = room_as (text6 a.high a.low a.port) _ (text_is a.high a.low a.port) p.1 in laid_as _ (text6 a.high a.low a.port) (sym (text_is a.high a.low a.port)) (four-laid (91 ∷ []) (ip6 a.high a.low) (93 ∷ []) (58 ∷ decimal a.port) h c.put-first.ensures c.write_ip-second.ensures c.put-third.ensures c.write_marked.ensures)
