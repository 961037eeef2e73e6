-- What "was pinged" says, without the list of whom: one of the messages is a Ping to the peer that nobody asked for.
-- Assumes nothing.
use Rattle.std.specs.Prelude.{◌≡◌, List, [], ◌∷◌}
use Rattle.std.proofs.Math.Option.{none}
use Rattle.model.specs.Words.{Address, Lawful, Action, Ping, Message}
use Rattle.history.specs.Histories.{World, Call, outcome, world_of}

module _ {A : Type 0} where
  -- a Ping to b that nobody asked for
  pub record PingTo (b : A) (x : Action A) (target : A) : Type 0 where
    pub from : A
    pub asks : x ≡ Ping from none
    pub goes : target ≡ b

  pub data Sent (b : A) : List (Message A) → Type 0 where
    this : {m : Message A} {ms : List (Message A)} → PingTo b m.action m.target → Sent b (m ∷ ms)
    later : {m : Message A} {ms : List (Message A)} → Sent b ms → Sent b (m ∷ ms)

module _ {A : Type 0} (address : Address A) (lawful : Lawful address) (b : A) where
  -- one of the calls of a history sent it
  pub data SentAlong : List (Call A) → World A → Type 0 where
    this : {c : Call A} {h : List (Call A)} {w : World A} → Sent b (outcome address c w).outcome.messages → SentAlong (c ∷ h) w
    later : {c : Call A} {h : List (Call A)} {w : World A} → SentAlong h (world_of address (outcome address c w)) → SentAlong (c ∷ h) w
