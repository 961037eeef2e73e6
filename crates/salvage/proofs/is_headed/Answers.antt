-- `salvage::is_headed` meets its contract: long enough, and own in range.
-- Assumes nothing.
use native.Mathlib.Omega.{arith}
use Rattle.image.specs.Versions.{version}
use Rattle.salvage.proofs.Judging.{headed-short, headed-by}
use Rattle.salvage.proofs.is_headed.Goals as goal

pub returns-then-bytes-head_size : goal.returns-then-bytes-head_size
returns-then-bytes-head_size c =
    let a = c.args in
    headed-short (version a.wide) a.bytes.now (omega (arith, c.head_size.ensures.0, c.if-bytes-head_size.true))

pub get_address-requires : goal.get_address-requires
get_address-requires c = omega (arith, c.head_size.ensures.0, c.if-bytes-head_size.false)

pub returns : goal.returns
returns c =
    let a = c.args in
    headed-by (version a.wide) a.bytes.now _ _ (omega (arith, c.head_size.ensures.0, c.if-bytes-head_size.false)) c.get_address.ensures c.in_range.ensures
