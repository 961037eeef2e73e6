-- `model::Lamps::same` meets its contract: all three are compared.
-- Assumes nothing.
use borrow.Author.Rules.{rules}
use Rattle.model.proofs.Lamps.same.Goals as goal

pub returns : goal.returns
returns c = cc
