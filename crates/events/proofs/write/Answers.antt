-- `events::write` meets its contract: three fields, one behind the other.
-- Assumes nothing.
use mathlib.Core.List.{◌++◌}
use native.Mathlib.Omega.{arith}
use Rattle.address.specs.Here.{here_text as text}
use Rattle.types.specs.Wire.{string, number}
use Rattle.varint.specs.Laid.{laid_then, room-first, room_then}
use borrow.Author.Rules.{rules}
use Rattle.events.proofs.write.Goals as goal

pub write_text-second-requires : goal.write_text-second-requires
write_text-second-requires c =
    let a = c.args in
    let p = string 1 (text a.from) in
    let q = string 2 (text a.subject) in
    let r = number 3 a.n in
    (omega arith, room-first p (q ++ r) c.requires)

pub write_text-third-requires : goal.write_text-third-requires
write_text-third-requires c =
    let a = c.args in
    let p = string 1 (text a.from) in
    let q = string 2 (text a.subject) in
    let r = number 3 a.n in
    (omega arith, room-first q r (room_then p (q ++ r) c.write_text-second.ensures c.requires))

pub write_number-requires : goal.write_number-requires
write_number-requires c =
    let a = c.args in
    let p = string 1 (text a.from) in
    let q = string 2 (text a.subject) in
    let r = number 3 a.n in
    (omega arith, room_then q r c.write_text-third.ensures (room_then p (q ++ r) c.write_text-second.ensures c.requires))

pub returns : goal.returns
returns c =
    laid_then c.write_text-second.ensures (laid_then c.write_text-third.ensures c.write_number.ensures)
