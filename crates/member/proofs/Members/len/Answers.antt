-- `member::Members::len` meets its contract: the list is as long as the rows say.
-- Assumes nothing.
use mathlib.Core.Path.{sym}
use Rattle.member.specs.Packing.{view_many}
use Rattle.member.proofs.Members.len.Goals as goal

pub returns : goal.returns
returns c = record { value = sym (view_many c.args.self c.requires.packed); within = c.requires.packed.few }
