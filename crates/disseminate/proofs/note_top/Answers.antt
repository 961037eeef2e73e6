-- `disseminate::note_top` meets its contract: the top is noted, or nothing is.
-- Assumes nothing.
use mathlib.Core.Path.{refl, sym, subst}
use mathlib.Core.Bool.{Bool}
use borrow.Author.Rules.{rules}
use borrow.Author.Tests.{not-true, not-false}
use Rattle.disseminate.specs.Views.{NotedIf, top_of}
use mathlib.Core.Path.{ap}
use mathlib.Core.Bool.{not}
use Rattle.disseminate.proofs.note_top.Goals as goal

pub returns-then-not-given : goal.returns-then-not-given
returns-then-not-given c =
    let a = c.args in
    subst (λ (b : Bool). NotedIf b a.n (top_of a.h) a.n) (sym (not-true a.given (ap not c.if-not-given.true))) refl

pub note-requires : goal.note-requires
note-requires c = c.requires (not-false c.args.given (ap not c.if-not-given.false))

pub returns : goal.returns
returns c =
    let a = c.args in
    subst (λ (b : Bool). NotedIf b a.n (top_of a.h) c.note.result) (sym (not-false a.given (ap not c.if-not-given.false))) c.note.ensures
