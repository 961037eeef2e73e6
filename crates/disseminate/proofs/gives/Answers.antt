-- `disseminate::gives` meets its contract: each way out is a way out of the model's try.
-- Assumes nothing.
use mathlib.Core.Path.{sym, ap}
use native.Mathlib.Nat.{pos_of_ne-zero}
use Rattle.address.specs.Here.{here}
use Rattle.model.specs.Choose.{gave}
use Rattle.disseminate.proofs.Stepping.{empty, in_size, top_small, gives_is}
use borrow.Author.Rules.{rules}
use Rattle.disseminate.proofs.gives.Goals as goal

pub returns-then-h-eq0 : goal.returns-then-h-eq0
returns-then-h-eq0 c =
    sym (ap (gave here) (empty c.args.t c.args.h c.args.n c.requires c.if-h-eq0.true))

pub barred-requires : goal.barred-requires
barred-requires c =
    let a = top_small c.args.t c.args.h c.args.n c.requires (pos_of_ne-zero c.if-h-eq0.false) in
    (c.requires.chosen, in_size c.args.t c.args.h c.args.n c.requires, a.0)

pub returns : goal.returns
returns c =
    gives_is c.args.t c.args.h c.args.n c.requires (pos_of_ne-zero c.if-h-eq0.false) c.barred.result c.barred.ensures
