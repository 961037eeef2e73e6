-- THE TIE. A program that makes calls of `swim`, one after the other, from a created node: whatever it makes of their answers, the node and the wait record
-- are those of the model's history of the same calls, since each result meets its contract.
-- Assumes nothing.
use Rattle.std.specs.Prelude.{◌≡◌, List, [], ◌∷◌, map, length}
use Rattle.address.specs.Here.{Addr, here}
use Rattle.history.specs.Histories.{World, Call, outcome, world_of}
use Rattle.node.specs.declared.Node.{Node}
use Rattle.node.specs.Views.{stored_view, from_message}
use Rattle.wait.specs.declared.Wait.{Wait}
use Rattle.wait.specs.Views.{to_wait}
use Rattle.swim.specs.Promises.{row_after}
use Rattle.promises.specs.Made.{Held, Said, Made}

-- a program's node and wait record, as the model has them
abbrev pub world : Node → Wait → World Addr
world n w = record { node = stored_view n; wait = to_wait w }

abbrev pub seen : Held → World Addr
seen h = world h.node h.wait

-- one call: the world that it hands back, its reply, and the events that stand in the row it hands back are those of the model's call
pub record MadeAs (h : Held) (c : Call Addr) (s : Said) (h' : Held) : Type 0 where
  pub world : seen h' ≡ world_of here (outcome here c (seen h))
  pub reply : s.reply ≡ (outcome here c (seen h)).outcome.reply
  pub letters : s.letters ≡ map from_message (outcome here c (seen h)).outcome.messages
  pub events : h'.events ≡ row_after (outcome here c (seen h)).outcome.events h.events
  pub reported : s.reported ≡ length (outcome here c (seen h)).outcome.events

-- a program's calls, one after the other: each takes the node that the last one handed back, whatever rows the host lends, and the wait record that the last one handed back
-- or, where the host `lends` one, that
pub data Runs : Node → Wait → List (Call Addr) → Node → Wait → Type 0 where
  rests : (n : Node) (w : Wait) → Runs n w [] n w
  makes : {cs : List (Call Addr)} {n : Node} {w : Wait} (h : Held) (c : Call Addr) (s : Said) (h' : Held) → Made h c s h' → Runs h'.node h'.wait cs n w → Runs h.node h.wait (c ∷ cs) n w
