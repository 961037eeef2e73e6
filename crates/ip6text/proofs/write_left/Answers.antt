-- `ip6text::write_left` meets its contract.
-- Assumes nothing.
use Rattle.ip6text.specs.Writing.{room_as, part, without_is, mark_is, dotted_is, text_is, four_1, four_2, four_3, four_4, four-laid}
use Rattle.varint.specs.Laid.{laid_then, laid_as, room-first, room_then}
use Rattle.ip6.specs.Text6.{digit, numeral_in, decimal, hex, groups, behind, joined, without, plain, dotted, mark, mapped, ip6, text6}
use mathlib.Core.List.{List, [], ◌∷◌, ◌++◌}
use Prim.Native.Nat.{ℕ, ◌+◌, ◌/◌, ◌%◌}
use borrow.Author.Rules.{rules}
use native.Mathlib.Omega.{arith}
use mathlib.Core.Path.{◌≡◌, refl, ap, sym, ◌∙◌}
use Rattle.ip6text.proofs.write_left.Goals as goal

pub write_joined-first-requires : goal.write_joined-first-requires
write_joined-first-requires c = let a = c.args in let p = c.requires in let h = room_as (without (groups a.high a.low) a.p a.n) _ (without_is (groups a.high a.low) a.p a.n refl) p.1 in (search rules, four_1 (joined (part 0 a.p (groups a.high a.low))) (58 ∷ []) (58 ∷ []) (joined (part (a.p + a.n) 8 (groups a.high a.low))) h)

pub put-second-requires : goal.put-second-requires
put-second-requires c = let a = c.args in let p = c.requires in let h = room_as (without (groups a.high a.low) a.p a.n) _ (without_is (groups a.high a.low) a.p a.n refl) p.1 in four_2 (joined (part 0 a.p (groups a.high a.low))) (58 ∷ []) (58 ∷ []) (joined (part (a.p + a.n) 8 (groups a.high a.low))) h c.write_joined-first.ensures

pub put-third-requires : goal.put-third-requires
put-third-requires c = let a = c.args in let p = c.requires in let h = room_as (without (groups a.high a.low) a.p a.n) _ (without_is (groups a.high a.low) a.p a.n refl) p.1 in four_3 (joined (part 0 a.p (groups a.high a.low))) (58 ∷ []) (58 ∷ []) (joined (part (a.p + a.n) 8 (groups a.high a.low))) h c.write_joined-first.ensures c.put-second.ensures

pub write_joined-requires : goal.write_joined-requires
write_joined-requires c = let a = c.args in let p = c.requires in let h = room_as (without (groups a.high a.low) a.p a.n) _ (without_is (groups a.high a.low) a.p a.n refl) p.1 in (search rules, four_4 (joined (part 0 a.p (groups a.high a.low))) (58 ∷ []) (58 ∷ []) (joined (part (a.p + a.n) 8 (groups a.high a.low))) h c.write_joined-first.ensures c.put-second.ensures c.put-third.ensures)

pub returns : goal.returns
returns c = let a = c.args in let p = c.requires in let h = room_as (without (groups a.high a.low) a.p a.n) _ (without_is (groups a.high a.low) a.p a.n refl) p.1 in laid_as _ (without (groups a.high a.low) a.p a.n) (sym (without_is (groups a.high a.low) a.p a.n refl)) (four-laid (joined (part 0 a.p (groups a.high a.low))) (58 ∷ []) (58 ∷ []) (joined (part (a.p + a.n) 8 (groups a.high a.low))) h c.write_joined-first.ensures c.put-second.ensures c.put-third.ensures c.write_joined.ensures)
