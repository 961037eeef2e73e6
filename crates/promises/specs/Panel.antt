-- "let the panel read them untested": what the three numbers of a read are worth. Of a sound node they are the counts of its list, and a node with any other count is not sound;
-- of a node that is not sound they are the stored numbers, and nothing more.
-- Assumes nothing.
use Rattle.std.specs.Prelude.{◌≡◌, List}
use Rattle.model.specs.declared.State.TheVariants.{Alive, Pending, Suspected}
use Rattle.model.specs.declared.Lamps.{Lamps}
use Rattle.address.specs.Here.{Addr, here}
use Rattle.model.specs.Words as W
use Rattle.model.specs.Lamps.{count_of}
use Rattle.node.specs.declared.Node.{Node}
use Rattle.node.specs.Views.{with_members}

-- "the number of Alive, Pending and Suspected peers", own address left out
pub record Shows (own : Addr) (t : List (W.Member Addr)) (l : Lamps) : Type 0 where
  pub alive : l.alive ≡ count_of here.same Alive own t
  pub pending : l.pending ≡ count_of here.same Pending own t
  pub suspected : l.suspected ≡ count_of here.same Suspected own t

-- of any other node: the stored numbers. Whatever three are named, every node has a twin that differs in nothing that a rule reads and of which they are read
abbrev pub relit : Node → Lamps → Node
relit n l = with_members n (record { table = n.members.table; len = n.members.len; order = n.members.order; lamps = l })
