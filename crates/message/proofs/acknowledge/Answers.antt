-- `message::acknowledge` meets its contract: one of two forms.
-- Assumes nothing.
use mathlib.Core.Path.{ap, sym, ◌∙◌}
use borrow.Author.Rules.{rules}
use Rattle.message.specs.Answers.{acknowledged_of}
use Rattle.message.proofs.acknowledge.Goals as goal

pub settle_ack-requires : goal.settle_ack-requires
settle_ack-requires c = c.requires.0

pub forward_ack-requires : goal.forward_ack-requires
forward_ack-requires c = c.requires.1

pub returns-in-Absent : goal.returns-in-Absent
returns-in-Absent c =
    let a = c.args in
    c.settle_ack.ensures ∙ sym (ap (acknowledged_of a.used a.heard a.from a.rows a.given) c.in-Absent.is)

pub returns-in-Given : goal.returns-in-Given
returns-in-Given c =
    let a = c.args in
    c.forward_ack.ensures ∙ sym (ap (acknowledged_of a.used a.heard a.from a.rows a.given) c.in-Given.is)
