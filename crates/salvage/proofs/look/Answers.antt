-- `salvage::look` meets its contract: cut, or whole and judged.
-- Assumes nothing.
use native.Mathlib.Omega.{arith}
use lib.ListN.{take}
use Rattle.image.specs.Versions.{version}
use Rattle.salvage.proofs.Judging.{look-cut, look-whole}
use Rattle.salvage.proofs.look.Goals as goal

pub returns-then-bytes-at : goal.returns-then-bytes-at
returns-then-bytes-at c =
    let a = c.args in
    look-cut (version a.wide) (take a.n a.kept) a.bytes.now a.at _ (omega (arith, c.place_size.ensures.0, c.if-bytes-at.true)) c.nothing.ensures

pub get_place-place-requires : goal.get_place-place-requires
get_place-place-requires c = omega (arith, c.place_size.ensures.0, c.if-bytes-at.false)

pub returns : goal.returns
returns c =
    let a = c.args in
    look-whole (version a.wide) (take a.n a.kept) a.bytes.now a.at _ _ (omega (arith, c.place_size.ensures.0, c.if-bytes-at.false)) c.get_place-place.ensures
    c.judged.ensures
