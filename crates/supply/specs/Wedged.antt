-- What the remedy is for: with a full alive heap from which nothing is collected, a step from SendingPingReq is refused 9 at every tick and with any draws, and leaves everything as it was.
-- Assumes nothing.
use Rattle.std.specs.Prelude.{[], ℕ}
use Rattle.std.proofs.Common.{arith}
use Rattle.model.specs.Words.{Address, Wait, SendingPingReq}

module _ {A : Type 0} (address : Address A) where
  -- the wait record of a ping-request
  abbrev pub asking : A → ℕ → ℕ → Wait A
  asking a n since = record { state = SendingPingReq a n; since = since }
