-- `image::in_rule` meets its contract: the tests, one after the other.
-- Assumes nothing.
use Rattle.image.proofs.Judging.{rule_told}
use borrow.Author.Rules.{rules}
use Rattle.image.proofs.in_rule.Goals as goal

pub returns : goal.returns
returns c =
    let a = c.args in
    rule_told a.wide a.own a.rows a.n a.position _ _ _ _ _ _ _ _ _ _ c.in_range-own_in_range.ensures c.all_in_range-in_range.ensures c.matches-distinct.ensures
    c.well_placed-placed.ensures c.in_version-versioned.ensures c.both.ensures c.both-fields.ensures c.both-2.ensures c.both-listed.ensures c.both-3.ensures
