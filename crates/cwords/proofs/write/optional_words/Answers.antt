-- `cwords::write::optional_words` meets its contract.
-- Assumes nothing.
use mathlib.Core.Path.{refl}
use Prim.{tt}
use Rattle.cwords.specs.Writing.{optional_words}
use Rattle.cwords.proofs.Encoding.{laid-first, optional_ends}
use Rattle.cwords.proofs.write.optional_words.Goals as goal

pub returns-in-Absent : goal.returns-in-Absent
unfolding optional_words
returns-in-Absent c = optional_ends c.args.o _ _ c.in-Absent.is refl tt

pub returns-in-Given : goal.returns-in-Given
unfolding optional_words
returns-in-Given c =
    let f = c.first_word.ensures in optional_ends c.args.o _ _ c.in-Given.is (laid-first _ _ _ f) f.1
