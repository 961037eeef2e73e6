-- `incoming::given` meets its contract: a case at a time.
-- Assumes nothing.
use mathlib.Core.Path.{ap, sym}
use borrow.Author.Rules.{rules}
use Rattle.incoming.specs.Datagram.{given_of}
use Rattle.incoming.proofs.given.Goals as goal

pub returns-in-Whole : goal.returns-in-Whole
unfolding given_of
returns-in-Whole c = sym (ap given_of c.in-Whole.is)

pub returns-in-Malformed : goal.returns-in-Malformed
unfolding given_of
returns-in-Malformed c = sym (ap given_of c.in-Malformed.is)

pub returns-in-Refused : goal.returns-in-Refused
unfolding given_of
returns-in-Refused c = sym (ap given_of c.in-Refused.is)
