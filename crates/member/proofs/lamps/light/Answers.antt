-- `member::lamps::light` meets its contract: the own address, or another.
-- Assumes nothing.
use mathlib.Core.Path.{ap, sym, ◌∙◌}
use mathlib.Core.Bool.{Bool}
use Rattle.model.specs.Rows.{pick}
use Rattle.model.specs.Lamps.{dark, lamp_of}
use Rattle.laws_list.specs.Counting.{light_of}
use borrow.Author.Rules.{rules}
use Rattle.member.proofs.lamps.light.Goals as goal

pub returns-then-same : goal.returns-then-same
unfolding light_of
returns-then-same c =
    c.none.ensures ∙ sym (ap (λ (u : Bool). pick u dark (lamp_of c.args.state)) (sym c.same.ensures ∙ c.if-same.true))

pub returns : goal.returns
unfolding light_of
returns c =
    c.one.ensures ∙ sym (ap (λ (u : Bool). pick u dark (lamp_of c.args.state)) (sym c.same.ensures ∙ c.if-same.false))
