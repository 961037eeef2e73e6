-- `ip6text::write_plain` meets its contract.
-- Assumes nothing.
use Rattle.ip6text.specs.Writing.{room_as, part, plain-whole, plain-left}
use Rattle.varint.specs.Laid.{laid_then, laid_as, room-first, room_then}
use Rattle.ip6.specs.Text6.{digit, numeral_in, decimal, hex, groups, behind, joined, without, plain, dotted, mark, mapped, ip6, text6}
use mathlib.Core.List.{List, [], ◌∷◌, ◌++◌}
use Prim.Native.Nat.{ℕ, ◌+◌, ◌/◌, ◌%◌}
use Rattle.ip6.specs.Lengths.{scan_fits}
use borrow.Author.Rules.{rules}
use native.Mathlib.Omega.{arith}
use mathlib.Core.Path.{◌≡◌, refl, ap, sym, ◌∙◌}
use Rattle.ip6text.proofs.write_plain.Goals as goal

pub write_joined-requires : goal.write_joined-requires
write_joined-requires c = let a = c.args in let p = c.requires in let gs = groups a.high a.low in let s = c.scanned-s in (search rules, room_as (plain gs) _ (plain-whole gs s.result s.ensures.0 refl (search rules)) p)

pub returns-then-s-lt2 : goal.returns-then-s-lt2
returns-then-s-lt2 c = let a = c.args in let p = c.requires in let gs = groups a.high a.low in let s = c.scanned-s in laid_as _ (plain gs) (sym (plain-whole gs s.result s.ensures.0 refl (search rules))) c.write_joined.ensures

pub write_left-requires : goal.write_left-requires
write_left-requires c = let a = c.args in let p = c.requires in let gs = groups a.high a.low in let s = c.scanned-s in ((scan_fits gs s.result s.ensures.0 refl).end, room_as (plain gs) _ (plain-left gs s.result s.ensures.0 (search rules)) p)

pub returns : goal.returns
returns c = let a = c.args in let p = c.requires in let gs = groups a.high a.low in let s = c.scanned-s in laid_as _ (plain gs) (sym (plain-left gs s.result s.ensures.0 (search rules))) c.write_left.ensures
