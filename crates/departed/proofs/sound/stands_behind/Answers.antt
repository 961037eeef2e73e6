-- `departed::sound::stands_behind` meets its contract: an unmarked slot tells that the address is not there.
-- Assumes nothing.
use mathlib.Core.Path.{◌≡◌, sym}
use borrow.Author.Rules.{rules}
use Rattle.departed.proofs.sound.stands_behind.Goals as goal

pub returns : goal.returns
returns c = sym (c.requires.2 c.if-marked.false)
