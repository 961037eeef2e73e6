-- `outgoing::write_other` meets its contract: nothing, or a text.
-- Assumes nothing.
use Rattle.outgoing.specs.Laying.{other_skipped, other_room, other_laid}
use borrow.Author.Rules.{rules}
use Rattle.outgoing.proofs.write_other.Goals as goal

pub write_text-requires : goal.write_text-requires
write_text-requires c =
    (search rules, other_room c.args.o _ c.in-Given.is c.requires)

pub returns-in-Absent : goal.returns-in-Absent
returns-in-Absent c =
    other_skipped _ _ _ c.in-Absent.is

pub returns-in-Given : goal.returns-in-Given
returns-in-Given c =
    other_laid c.args.o _ c.in-Given.is c.write_text.ensures
