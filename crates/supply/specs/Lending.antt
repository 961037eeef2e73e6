-- How many draws to lend: with so many no call is refused for want of them. For any type of address, any sound node or unsound, any input.
-- Assumes nothing.
use Rattle.std.specs.Prelude.{◌≡◌, [], ℕ}
use Rattle.std.proofs.Common.{arith}
use Rattle.model.specs.declared.Settings.{Settings}
use Rattle.model.specs.declared.Reply.{Reply}
use Rattle.model.specs.Answers.{number_of}
use Rattle.model.specs.Words.{WaitState, SendingPing, WaitingForPingAck, SendingPingReq, WaitingForPingReqAck, Declaring}
use Rattle.model.specs.Calls.{Created, created, not_created, reply_number}
use Rattle.supply.specs.Shuffles.{pick_draws}

-- the draws that a detector step may take, by its settings, its state and how many are listed
abbrev pub step_draws : {A : Type 0} → Settings → WaitState A → ℕ → ℕ
step_draws c SendingPing n = pick_draws 1 1 n
step_draws c (WaitingForPingAck a k) n = 0
step_draws c (SendingPingReq a k) n = pick_draws 2 c.ping_req_group_size n
step_draws c (WaitingForPingReqAck a k) n = 0
step_draws c (Declaring a k) n = 0

-- the number of a creation's answer
abbrev pub created_number : {A : Type 0} → Created A → ℕ
created_number (created s) = 0
created_number (not_created r) = number_of r

-- a reply is not refusal 8
abbrev pub NotShort : Reply → Type 0
NotShort reply = reply_number reply ≡ 8 → ⊥
