-- `disseminate::note` meets its contract: one place of each row is filled.
-- Assumes nothing.
use mathlib.Core.Path.{refl}
use Rattle.disseminate.proofs.Noting.{noted_one}
use borrow.Author.Rules.{rules}
use Rattle.disseminate.proofs.note.Goals as goal

pub returns : goal.returns
returns c =
    noted_one c.args.n c.requires.0 c.args.top c.requires.1 _ refl
