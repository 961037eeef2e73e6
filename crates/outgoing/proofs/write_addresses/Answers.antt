-- `outgoing::write_addresses` meets its contract: two pieces, one behind the other.
-- Assumes nothing.
use Rattle.outgoing.specs.Laying.{from-room, second-room, addresses-laid}
use borrow.Author.Rules.{rules}
use Rattle.outgoing.proofs.write_addresses.Goals as goal

pub write_text-second-requires : goal.write_text-second-requires
write_text-second-requires c =
    (search rules, from-room c.args.from c.args.o c.requires)

pub write_other-requires : goal.write_other-requires
write_other-requires c =
    second-room c.args.from c.args.o c.requires c.write_text-second.ensures

pub returns : goal.returns
returns c =
    addresses-laid c.args.from c.args.o c.requires c.write_text-second.ensures c.write_other.ensures
