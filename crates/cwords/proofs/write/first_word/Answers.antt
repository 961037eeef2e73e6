-- `cwords::write::first_word` meets its contract.
-- Assumes nothing.
use native.Mathlib.Omega.{arith}
use Rattle.cwords.specs.Writing.{first_word}
use Rattle.cwords.proofs.write.first_word.Goals as goal

pub returns : goal.returns
unfolding first_word
returns c =
    let f = c.wide_family.ensures in
    let p = c.wide_port.ensures in
    (rw (f.0, p.0), (omega (arith, f.0, f.1), omega (arith, p.0, p.1)))
