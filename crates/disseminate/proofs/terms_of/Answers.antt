-- `disseminate::terms_of` meets its contract.
-- Assumes nothing.
use mathlib.Core.Path.{refl}
use Rattle.model.specs.Choose.{terms_of}
use borrow.Author.Rules.{rules}
use Rattle.disseminate.proofs.terms_of.Goals as goal

pub returns : goal.returns
unfolding terms_of
returns c = refl
