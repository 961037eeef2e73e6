-- WHAT A CALL COLLECTS. The number that each call of `swim` tells is the count of held events that met the condition, at each push, by the alive heap before it; 0 with the setting off.
-- Assumes nothing.
use Rattle.std.specs.Prelude.{ℕ}
use Rattle.address.specs.Here.{Addr, here}
use Rattle.node.specs.declared.Node.{Node}
use Rattle.node.specs.Views.{stored_view}
use Rattle.wait.specs.declared.Wait.{Wait}
use Rattle.wait.specs.Views.{to_wait}
use Rattle.history.specs.Histories.{World, Call, moments}
use Rattle.history.specs.Taken.{collected_in}

module _ (node : Node) (wait : Wait) where
  -- what a call is handed
  abbrev pub handed : World Addr
  handed = record { node = stored_view node; wait = to_wait wait }

  -- the count, over the rules that the call runs
  abbrev pub counted : Call Addr → ℕ
  counted c = collected_in here (moments here c handed)
