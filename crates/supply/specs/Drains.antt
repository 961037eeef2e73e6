-- A step from a fresh wait record, on a good node: it is refused for want of draws alone, it counts a send for every record of its message, and an alive heap that holds any gives one.
-- Assumes nothing.
use Rattle.std.specs.Prelude.{◌≡◌, ℕ, ◌+◌, ◌-◌, ◌≤◌, ◌<◌, min}
use Rattle.std.proofs.Common.{arith}
use mathlib.Core.List.{List, [], ◌∷◌}
use Rattle.std.proofs.Math.Option.{some}
use Rattle.std.proofs.Math.ListN.{length}
use Rattle.model.specs.Words.{Address, Message}
use Rattle.model.specs.Limit.{limit_of}
use Rattle.model.specs.Node.{Node, spread}
use Rattle.model.specs.Detector.{Stepped}
use Rattle.supply.specs.Owed.{owed}

module _ {A : Type 0} (address : Address A) where
  -- the limit of a node's sends
  abbrev pub limit_at : Node A → ℕ
  limit_at s = limit_of (length s.members.table) s.settings.send_constant

  -- the message that a step sends, if it has a target: with so many records
  pub data Carries (n : ℕ) : List (Message A) → Type 0 where
    nobody : Carries n []
    carries : {m : Message A} → length m.gossip ≡ n → Carries n (m ∷ [])

  -- what a step from a fresh wait record does: so many records are taken from the alive heap and from the other, each a send
  pub record Drained (s : Node A) (e : Stepped A) : Type 0 where
    pub from-alive : ℕ
    pub from-deceased : ℕ
    pub alive : owed (limit_at s) e.effect.node.disseminator.alive + from-alive ≡ owed (limit_at s) s.disseminator.alive
    pub deceased : owed (limit_at s) e.effect.node.disseminator.deceased + from-deceased ≡ owed (limit_at s) s.disseminator.deceased
    pub some : 0 < length s.disseminator.alive → 1 ≤ from-alive
    pub shorter : length e.effect.node.disseminator.alive ≤ length s.disseminator.alive
    pub message : Carries (from-alive + from-deceased) e.effect.messages
    pub target : length e.effect.messages ≡ min 1 (length s.members.table - 1)
    pub listed : length e.effect.node.members.table ≡ length s.members.table
    pub spreads : e.effect.node.disseminator ≡ (spread address s).node.disseminator
