-- A FIELD OF ANOTHER NUMBER IS PASSED OVER, WHATEVER ITS WIRE TYPE AND ITS LENGTH AND WHEREVER IT STANDS: a datagram that is read whole is read the same with it. PIECES OF ONE ACTION, HOWEVER MANY, append their records.
-- Assumes nothing.
use Rattle.std.specs.Prelude.{List, [], ◌++◌, ℕ, zero, suc, ◌^◌, ◌≤◌, ◌<◌, length}
use Rattle.types.specs.declared.Gossip.{Gossip}
use Rattle.types.specs.Wire.{delimited}
use Rattle.gossips.specs.declared.Settled.TheVariants as settled
use Rattle.actions.specs.Action.{Acting}
use Rattle.incoming.specs.Datagram.{Message, unsent}
use Rattle.datagram_promises.specs.AnyLength.{ActionSays, DatagramSays, with_record}

-- ---- pieces of one action, each with one record
abbrev pub copies : ℕ → List ℕ → List ℕ
copies zero bytes = []
copies (suc n) bytes = bytes ++ copies n bytes

-- a message with more records behind those that it has
abbrev pub with_records : Message → List Gossip → Message
with_records m gs = record { kind = m.kind; acting = record { from = m.acting.from; other = m.acting.other; bad = m.acting.bad; gossip = m.acting.gossip ++ gs } }

module _ (piece : List ℕ) (g : Gossip) (few_bytes : length piece < 2 ^ 64) (one_record : (a : Acting) → ActionSays piece a (with_record a (settled.Whole g))) where
  -- n of them behind an action: n records behind its own, whatever n
  module _ (x : List ℕ) (m : Message) (says : DatagramSays x unsent m) (some : 1 ≤ m.kind) (known : m.kind ≤ 3) (n : ℕ) where
    abbrev pub longer : List ℕ
    longer = x ++ copies n (delimited m.kind piece)

-- the shortest piece, with a record of no event
abbrev pub empty_record : List ℕ
empty_record = delimited 3 [] ++ []
