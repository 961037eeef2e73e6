-- `ip6text::write_ip` meets its contract.
-- Assumes nothing.
use Rattle.ip6text.specs.Writing.{room_as, mapped_is, other_is}
use Rattle.varint.specs.Laid.{laid_then, laid_as, room-first, room_then}
use Rattle.ip6.specs.Text6.{digit, numeral_in, decimal, hex, groups, behind, joined, without, plain, dotted, mark, mapped, ip6, text6}
use mathlib.Core.List.{List, [], ◌∷◌, ◌++◌}
use Prim.Native.Nat.{ℕ, ◌+◌, ◌/◌, ◌%◌}
use borrow.Author.Rules.{rules}
use native.Mathlib.Omega.{arith}
use mathlib.Core.Path.{◌≡◌, refl, ap, sym, ◌∙◌}
use Rattle.ip6text.proofs.write_ip.Goals as goal

pub write_mark-next-requires : goal.write_mark-next-requires
write_mark-next-requires c = let a = c.args in let p = c.requires in let e = mapped_is a.high a.low (sym c.mapped.ensures ∙ c.if-mapped.true) in room-first mark (dotted a.low) (room_as _ _ e p)

pub write_dotted-requires : goal.write_dotted-requires
write_dotted-requires c = let a = c.args in let p = c.requires in let e = mapped_is a.high a.low (sym c.mapped.ensures ∙ c.if-mapped.true) in room_then mark (dotted a.low) c.write_mark-next.ensures (room_as _ _ e p)

pub returns-then-mapped : goal.returns-then-mapped
returns-then-mapped c = let a = c.args in let p = c.requires in let e = mapped_is a.high a.low (sym c.mapped.ensures ∙ c.if-mapped.true) in laid_as _ _ (sym e) (laid_then c.write_mark-next.ensures c.write_dotted.ensures)

pub write_plain-requires : goal.write_plain-requires
write_plain-requires c = let a = c.args in let p = c.requires in let e = other_is a.high a.low (sym c.mapped.ensures ∙ c.if-mapped.false) in room_as _ _ e p

pub returns : goal.returns
returns c = let a = c.args in let p = c.requires in let e = other_is a.high a.low (sym c.mapped.ensures ∙ c.if-mapped.false) in laid_as _ _ (sym e) c.write_plain.ensures
