-- `ip4text::write` meets its contract: five pieces, one behind the other.
-- Assumes nothing.
use mathlib.Core.List.{◌∷◌}
use native.Mathlib.Omega.{arith}
use Rattle.address.specs.IPv4.{octet, port}
use Rattle.address.specs.Text.{decimal}
use Rattle.varint.specs.Laid.{laid_then}
use borrow.Author.Rules.{rules}
use Rattle.ip4text.proofs.Laying.{room_1, room_2, room_3, room_4, room_5}
use Rattle.ip4text.proofs.write.Goals as goal

pub write_decimal-first-requires : goal.write_decimal-first-requires
write_decimal-first-requires c =
    let a = c.args.a in
    (omega arith, room_1 (decimal (octet a 3)) (46 ∷ decimal (octet a 2)) (46 ∷ decimal (octet a 1)) (46 ∷ decimal (octet a 0)) (58 ∷ decimal (port a)) c.requires)

pub write_part-second-requires : goal.write_part-second-requires
write_part-second-requires c =
    let a = c.args.a in
    (omega arith, room_2 (decimal (octet a 3)) (46 ∷ decimal (octet a 2)) (46 ∷ decimal (octet a 1)) (46 ∷ decimal (octet a 0)) (58 ∷ decimal (port a)) c.requires c.write_decimal-first.ensures)

pub write_part-third-requires : goal.write_part-third-requires
write_part-third-requires c =
    let a = c.args.a in
    (omega arith, room_3 (decimal (octet a 3)) (46 ∷ decimal (octet a 2)) (46 ∷ decimal (octet a 1)) (46 ∷ decimal (octet a 0)) (58 ∷ decimal (port a)) c.requires c.write_decimal-first.ensures c.write_part-second.ensures)

pub write_part-fourth-requires : goal.write_part-fourth-requires
write_part-fourth-requires c =
    let a = c.args.a in
    (omega arith, room_4 (decimal (octet a 3)) (46 ∷ decimal (octet a 2)) (46 ∷ decimal (octet a 1)) (46 ∷ decimal (octet a 0)) (58 ∷ decimal (port a)) c.requires c.write_decimal-first.ensures c.write_part-second.ensures c.write_part-third.ensures)

pub write_part-requires : goal.write_part-requires
write_part-requires c =
    let a = c.args.a in
    (omega arith, room_5 (decimal (octet a 3)) (46 ∷ decimal (octet a 2)) (46 ∷ decimal (octet a 1)) (46 ∷ decimal (octet a 0)) (58 ∷ decimal (port a)) c.requires c.write_decimal-first.ensures c.write_part-second.ensures c.write_part-third.ensures c.write_part-fourth.ensures)

pub shape_of-out : goal.shape_of-out
shape_of-out c = search rules

pub returns : goal.returns
returns c = laid_then (laid_then (laid_then (laid_then c.write_decimal-first.ensures c.write_part-second.ensures) c.write_part-third.ensures) c.write_part-fourth.ensures) c.write_part.ensures
