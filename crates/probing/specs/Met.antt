-- That the promise says something, and that 2n − 1 is sharp over calls: a stretch that meets every condition, by computation. The own address is 1, the peers are 2 and 3, and both answer;
-- after two pings 3 is left out, and the third is to it.
-- Assumes nothing.
use Rattle.std.specs.Prelude.{false, List, [], ◌∷◌, ◌++◌, ℕ, ◌+◌, eqb, ltb}
use Rattle.std.proofs.Math.Option.{none}
use Rattle.model.specs.declared.Settings.{Settings}
use Rattle.model.specs.declared.State.TheVariants.{Alive}
use Rattle.model.specs.Bounds.{message_room, step_room, timer_room}
use Rattle.model.specs.Words.{Address, Member, Ping, PingReq, Ack, WaitingForPingReqAck, Declaring}
use Rattle.history.specs.Beginnings.{Beginning, Restart}
use Rattle.history.specs.Histories.{World, Call, Add, Receive, Step, Timer, Lends, start}

abbrev pub numbers : Address ℕ
numbers = record { same = eqb; blank = 0; valid = λ a. ltb a 4; chars = λ a. 9 }

abbrev settings : Settings
settings =
    record {
      ping_interval = 10;
      ping_timeout = 10;
      ping_req_timeout = 10;
      suspect_timeout = 10;
      ping_req_group_size = 1;
      send_constant = 3;
      max_selected = 6;
      max_size = 1169;
      collect = false;
      remember = false;
    }

abbrev alive : ℕ → Member ℕ
alive a = record { addr = a; state = Alive; number = 0 }

-- a restart with 3 just passed
abbrev pub beginning : Beginning ℕ
beginning = Restart settings 1 (alive 3 ∷ alive 1 ∷ alive 2 ∷ []) 2

abbrev pub begins : World ℕ
begins = start numbers beginning 0

-- a ping to 2, which answers, and the wait that ends by it: twice
abbrev pub two_pings : List (Call ℕ)
two_pings =
    Step 10 (0 ∷ 1 ∷ []) step_room
    ∷ Receive (Ack 2 none) [] [] message_room
    ∷ Step 20 [] step_room
    ∷ Step 30 [] step_room
    ∷ Receive (Ack 2 none) [] [] message_room
    ∷ Step 40 [] step_room
    ∷ []

abbrev pub three_pings : List (Call ℕ)
three_pings = two_pings ++ (Step 50 (0 ∷ 0 ∷ []) step_room ∷ [])

-- what may stand between two pings: an add of a listed address, messages, a declaration, a timer that removes nobody, waits, lent wait records, steps that aren't due, and refused calls
abbrev pub between : List (Call ℕ)
between =
    Add 2 0 []
    ∷ Receive (Ping 2 none) [] [] message_room
    ∷ Receive (PingReq 2 3) [] [] message_room
    ∷ Lends (record { state = Declaring 2 0; since = 0 })
    ∷ Step 10 [] step_room
    ∷ Timer 20 timer_room
    ∷ Timer 21 timer_room
    ∷ Lends (record { state = WaitingForPingReqAck 2 0; since = 10 })
    ∷ Step 20 [] step_room
    ∷ Step 21 [] step_room
    ∷ Step 30 [] timer_room
    ∷ []
