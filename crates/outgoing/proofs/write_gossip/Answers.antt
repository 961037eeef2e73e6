-- `outgoing::write_gossip` meets its contract: the key, the count, the gossip.
-- Assumes nothing.
use mathlib.Core.Path.{refl}
use Rattle.outgoing.specs.Laying.{key_room, count_room, bytes-room, gossip-laid}
use borrow.Author.Rules.{rules}
use Rattle.outgoing.proofs.write_gossip.Goals as goal

pub write-count-requires : goal.write-count-requires
write-count-requires c =
    key_room c.args.g _ refl c.requires

pub write-start-requires : goal.write-start-requires
write-start-requires c =
    count_room c.args.g _ c.len.ensures.0 c.requires c.write-count.ensures

pub write-requires : goal.write-requires
write-requires c =
    bytes-room c.args.g _ c.len.ensures.0 c.requires c.write-count.ensures c.write-start.ensures

pub returns : goal.returns
returns c =
    gossip-laid c.args.g _ c.len.ensures.0 c.requires c.write-count.ensures c.write-start.ensures c.write.ensures
