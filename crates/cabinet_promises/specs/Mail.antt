-- What a host reads off an answer: its messages, from the letters and the row for gossip, and its events, from the row for events. They are those of the rules.
-- Assumes nothing.
use Rattle.std.specs.Prelude.{List, [], ◌∷◌, map, take, drop}
use Rattle.address.specs.Here.{Addr}
use Rattle.model.specs.Words as W
use Rattle.types.specs.declared.Gossip.{Gossip}
use Rattle.types.specs.Views.{to_gossip, to_action}
use Rattle.node.specs.declared.Letter.{Letter}
use Rattle.promises.specs.Made.{Held, Said}

-- the letters in use, and the gossip of each, one after the other, from the row
abbrev pub letters : List Letter → List Gossip → List (W.Message Addr)
letters [] row = []
letters (l ∷ ls) row = record { target = l.target; action = to_action l.action; gossip = map to_gossip (take l.count row) } ∷ letters ls (drop l.count row)

-- what a call answered, with the rows that it handed back: the messages to send, and the events that it reported
abbrev pub mail : Said → Held → List (W.Message Addr)
mail s h = letters s.letters h.gossip

abbrev pub told : Said → Held → List (W.Gossip Addr)
told s h = map to_gossip (take s.reported h.events)
