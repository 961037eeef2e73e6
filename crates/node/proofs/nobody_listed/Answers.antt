-- `node::nobody_listed` meets its contract: each place is unused.
-- Assumes nothing.
use mathlib.Core.Path.{◌≡◌}
use borrow.Author.Rules.{rules}
use lib.ListN.{replicate}
use Rattle.model.specs.Lamps.{lamps_of}
use Rattle.member.specs.Views.{pack_with}
use Rattle.node.proofs.nobody_listed.Goals as goal

pub returns : goal.returns
unfolding pack_with lamps_of
returns c =
    λ i. record {
      table = replicate 64 (c.none-table.ensures i);
      len = 0;
      order = record { row = replicate 64 (c.blank-row.ensures i); position = 0 };
      lamps = c.none.ensures i;
    }
