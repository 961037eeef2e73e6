-- `incoming::read` meets its contract: too few places, an action without records, or what the datagram says.
-- Assumes nothing.
use borrow.Author.Rules.{rules}
use Rattle.incoming.specs.Stepping.{takes_short, takes_told}
use Rattle.incoming.specs.Bare.{takes_bare}
use Rattle.incoming.proofs.read.Goals as goal

pub returns-then-places-lt64 : goal.returns-then-places-lt64
returns-then-places-lt64 c = takes_short _ _ _ c.if-places-lt64.true

pub returns-in-Told : goal.returns-in-Told
returns-in-Told c = takes_bare _ _ _ _ _ _ c.if-places-lt64.false c.read.ensures c.in-Told.is c.told.ensures

pub returns : goal.returns
returns c =
    let d = c.decode-d in
    takes_told _ _ c.if-places-lt64.false d.result d.ensures _ _ c.told-answer.ensures c.given.ensures
