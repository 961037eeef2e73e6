-- `member::Members::is_empty` meets its contract: the list is as long as the rows say.
-- Assumes nothing.
use mathlib.Core.Path.{ap, sym}
use Prim.Native.Nat.{ℕ}
use lib.Dec.{eqb}
use Rattle.member.specs.Packing.{view_many}
use Rattle.member.proofs.Members.is_empty.Goals as goal

pub returns : goal.returns
returns c = ap (λ (n : ℕ). eqb n 0) (sym (view_many c.args.self c.requires.packed))
