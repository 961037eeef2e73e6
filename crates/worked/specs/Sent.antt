-- What goes out, to whom, and what is waited for: a small case for each rule that says it, so that no word of it can be changed unnoticed.
-- Assumes nothing.
use Rattle.std.specs.Prelude.{refl, true, false, List, [], ◌∷◌, ℕ, ◌^◌}
use Rattle.std.proofs.Math.Option.{Option, none, some}
use Rattle.model.specs.declared.Settings.{Settings}
use Rattle.model.specs.declared.State.TheVariants as state
use Rattle.model.specs.Rows.{swap}
use Rattle.model.specs.Answers.{when}
use Rattle.model.specs.Size.{varint_from, varint_length, size_of_number, size_over, size_of}
use Rattle.model.specs.Limit.{least_from, least_power, limit_of}
use Rattle.worked.specs.Numbered.{ipv4}
use Rattle.address.specs.IPv4.{digits, text_length}
use Rattle.model.specs.Words.{Gossip, Action, Joined, Suspected, Deceased, Ping, PingReq, Ack, Message, SendingPing, WaitingForPingAck, SendingPingReq, WaitingForPingReqAck, Declaring, parts_of, same_gossip}
use Rattle.model.specs.Heap.{climb_in, climb, lower, down_in, down, push, sink_top, remove_top}
use Rattle.model.specs.Choose.{terms_of, was_noted, take_top, try_heap, try_alive, try_deceased, over, rounds, choose, or_else, death}
use Rattle.model.specs.Members.{shuffle, advance, added, add, remove, update, seek, pick_from}
use Rattle.model.specs.Collect.{collects, cleared}
use Rattle.model.specs.Departed.{make_room, look_up, without, depart, departs, death_of}
use Rattle.model.specs.Node.{Node, quiet, and_more, pushed, emit, change, leave, spread, numbered, fresh}
use Rattle.model.specs.Handler.{believed, joined, recovered, suspected_other, suspected, deceased, list_after, row_after, news_of, act, item, admit, judge_sender, judge, joined_at, answer_to, forwarded, handle}
use Rattle.model.specs.Detector.{wait_of, heard, pinged, send_ping, suspect, asked, pick_group, send_ping_req, declare}
use Rattle.model.specs.Calls.{valid_state, valid_action}
use Rattle.worked.specs.Cabinet.{own, B, C, says, settings, member, members, node, with_b, of_given, rule_of}
use Rattle.worked.specs.Table.{Case, ◌is◌}
use Rattle.worked.specs.Worked.{All, end, ◌and◌}

-- own, B and C, B not Alive
abbrev three : Node ℕ
three = node (members (member own state.Alive 0 ∷ member B state.Pending 4 ∷ member C state.Alive 0 ∷ []) (own ∷ B ∷ C ∷ []) 0) [] []

-- one message, and no gossip with it
abbrev letter : ℕ → Action ℕ → List (Message ℕ)
letter target action = record { target = target; action = action; gossip = [] } ∷ []

abbrev sends : Action ℕ → List (Gossip ℕ) → Option (List (Message ℕ))
sends action gs = of_given (λ e. e.messages) (handle ipv4 action gs (with_b state.Alive 4) [])

-- waits that differ
abbrev waits : Settings
waits = record { ping_interval = 1; ping_timeout = 2; ping_req_timeout = 3; suspect_timeout = 4; ping_req_group_size = 1; send_constant = 3; max_selected = 6; max_size = 1169; collect = false; remember = false }

-- one past the last address
abbrev past : ℕ
past = 2 ^ 48

abbrev pub table : List Case
table =
    -- "an Ack to requested_by if present, else to the sender; requested_by also goes into its forward_to"
    (sends (Ping B none) [] is some (letter B (Ack own none)))
    ∷ (sends (Ping B (some C)) [] is some (letter C (Ack own (some C))))
    -- "Ping to the suspect with requested_by the asker"
    ∷ (sends (PingReq B C) [] is some (letter C (Ping own (some B))))
    -- "without forward_to" nothing goes out; "with it, an Ack goes there with the sender and gossip unchanged and no forward_to"
    ∷ (sends (Ack B none) [] is some [])
    ∷ (sends (Ack B (some C)) (says Deceased C 7 ∷ []) is some (record { target = C; action = Ack B none; gossip = says Deceased C 7 ∷ [] } ∷ []))
    -- "pick 1; if one: Ping, set Pending, wait for PingAck", each new state entered at now
    ∷ (of_given (λ s. s.effect.messages) (send_ping ipv4 20 (with_b state.Alive 4) (0 ∷ 0 ∷ [])) is some (letter B (Ping own none)))
    ∷ (of_given (λ s. s.wait) (send_ping ipv4 20 (with_b state.Alive 4) (0 ∷ 0 ∷ [])) is some (record { state = WaitingForPingAck B 4; since = 20 }))
    -- "a PingReq to each of the group, wait for PingReqAck"
    ∷ (of_given (λ s. s.effect.messages) (send_ping_req ipv4 B 4 20 three (0 ∷ 0 ∷ 0 ∷ 0 ∷ [])) is some (record { target = C; action = PingReq own B; gossip = says Suspected B 4 ∷ [] } ∷ []))
    ∷ (of_given (λ s. s.wait) (send_ping_req ipv4 B 4 20 three (0 ∷ 0 ∷ 0 ∷ 0 ∷ [])) is some (record { state = WaitingForPingReqAck B 4; since = 20 }))
    -- "start a timer": of the address, at the number, from now on
    ∷ (of_given (λ s. s.effect.node.timers) (declare ipv4 B 4 20 three []) is some (record { addr = B; number = 4; since = 20 } ∷ []))
    -- how long each state waits
    ∷ (wait_of {A = ℕ} waits SendingPing is 1)
    ∷ (wait_of waits (WaitingForPingAck B 4) is 2)
    ∷ (wait_of waits (SendingPingReq B 4) is 0)
    ∷ (wait_of waits (WaitingForPingReqAck B 4) is 3)
    ∷ (wait_of waits (Declaring B 4) is 0)
    -- "Alive or absent gives SendingPing"
    ∷ (heard ipv4 C (with_b state.Alive 4) is true)
    ∷ (heard ipv4 B (with_b state.Alive 4) is true)
    ∷ (heard ipv4 B (with_b state.Pending 4) is false)
    -- creation lists the own address at the number given
    ∷ (numbered ipv4 own (fresh settings own 5) is 5)
    -- an event that is emitted names this node as from
    ∷ (of_given (λ o. o.said) (rule_of Joined C 5 (with_b state.Alive 4) (0 ∷ [])) is some (says Joined C 5 ∷ []))
    -- refusal 5 looks at every address of a message and of a wait record
    ∷ (valid_action ipv4 (PingReq past B) is false)
    ∷ (valid_action ipv4 (PingReq B past) is false)
    ∷ (valid_state ipv4 (WaitingForPingAck past 4) is false)
    ∷ (valid_state ipv4 (SendingPingReq past 4) is false)
    ∷ (valid_state ipv4 (WaitingForPingReqAck past 4) is false)
    ∷ (valid_state ipv4 (Declaring past 4) is false)
    ∷ []

pub sent : All table
unfolding when swap least_from least_power limit_of varint_from varint_length size_of_number size_over size_of digits text_length parts_of same_gossip climb_in climb lower down_in down push sink_top remove_top terms_of was_noted take_top try_heap try_alive try_deceased over rounds choose or_else shuffle advance added add remove update seek pick_from quiet and_more collects cleared pushed emit change leave spread fresh joined recovered believed suspected_other suspected deceased make_room look_up without depart departs death_of list_after row_after news_of act item admit judge_sender joined_at answer_to forwarded handle heard pinged send_ping suspect asked pick_group send_ping_req declare valid_action valid_state death
sent =
    refl and refl and refl and refl and refl and refl and refl and refl and refl and refl and refl and refl and refl
    and refl and refl and refl and refl and refl and refl and refl and refl and refl and refl and refl and refl and refl and end
