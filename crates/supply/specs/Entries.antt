-- How many draws a message may take: one for each record, and one for the sender of a Ping, that can come in; a full list has no room, so each second one has to be a death first.
-- Assumes nothing.
use mathlib.Core.List.{[]}
use Prim.Native.Nat.{ℕ, ◌+◌, ◌-◌, ◌/◌, min}
use Rattle.std.proofs.Common.{arith}
use Rattle.model.specs.Words.{Action, Ping, PingReq, Ack}

-- how many addresses a message may bring in: one a record, and the sender of a Ping
abbrev pub comers : {A : Type 0} → Action A → ℕ → ℕ
comers (Ping from by) k = k + 1
comers (PingReq from suspect) k = k
comers (Ack from to) k = k

-- the draws that so many may take at n listed
unfoldable pub entry_draws : ℕ → ℕ → ℕ
entry_draws k n = min k ((64 - n + k) / 2)
