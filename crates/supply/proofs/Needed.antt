-- The numbers of draws are no greater than they must be: for each, a sound node and an input that take so many, and that are refused 8 with one less.
-- Addresses are numbers here. The own address is 1, and of n listed the addresses are 1 to n.
-- Assumes nothing.
use Rattle.std.specs.Prelude.{◌≡◌, refl, Bool, true, false, ◌&&◌, List, [], ◌∷◌, ◌++◌, map, ℕ, ◌+◌, ◌-◌, replicate, take, drop, eqb}
use Rattle.std.proofs.Math.Option.{none}
use Rattle.model.specs.declared.Settings.{Settings}
use Rattle.model.specs.declared.Refusal.TheVariants.{DrawsShort}
use Rattle.model.specs.declared.Cause.TheVariants.{Record, Sender}
use Rattle.model.specs.declared.Reply.{Reply}
use Rattle.model.specs.declared.Reply.TheVariants.{Refused, RefusedAt}
use Rattle.model.specs.Rows.{pick, every, swap, count, those}
use Rattle.model.specs.Bounds.{message_room, step_room}
use Rattle.model.specs.Answers.{when}
use Rattle.model.specs.Words.{Joined, Deceased, Gossip, Action, Ping, Ack, WaitState, SendingPing, SendingPingReq, parts_of}
use Rattle.model.specs.Limit.{least_from, least_power, limit_of}
use Rattle.model.specs.Size.{varint_from, varint_length, size_of_number, size_over, size_of}
use Rattle.model.specs.Heap.{climb_in, climb, lower, down_in, down, push, push_all, sink_top, remove_top, all_below}
use Rattle.model.specs.Choose.{terms_of, was_noted, take_top, try_heap, try_alive, try_deceased, over, rounds, choose, or_else, death}
use Rattle.model.specs.Collect.{is_old, collects, rebuilt, cleared}
use Rattle.model.specs.Members.{shuffle, advance, added, add, remove, update, seek, pick_from}
use Rattle.model.specs.Departed.{make_room, look_up, without, depart, departs, death_of}
use Rattle.model.specs.Lamps.{lamps_of}
use Rattle.model.specs.Node.{Node, quiet, and_more, pushed, emit, change, spread, loaded, stored}
use Rattle.model.specs.Handler.{cause_at, joined_at, joined, deceased, judge_sender, list_after, row_after, news_of, act, item, stops_at, admit, acked, answer_to, forwarded, handle}
use Rattle.model.specs.Detector.{is_over, due, pinged, send_ping, suspect, asked, pick_group, send_ping_req}
use Rattle.model.specs.Sound.{in_range, positioned, valid_gossip, sound_heap, sound_rows, sound_members, sound_timers, sound_departed, sound}
use Rattle.model.specs.Calls.{reply_number, draws_used, add_peer, valid_action, valid_state, message, detect}
use Rattle.supply.specs.Numbered.{numbers, up_to, listed}
use Rattle.supply.specs.Shuffles.{pick_draws}
use Rattle.supply.specs.Entries.{comers, entry_draws}
use Rattle.supply.specs.Lending.{step_draws}
use Rattle.supply.specs.Needed.{Takes}

-- a group of 4
abbrev settings : Settings
settings =
    record {
      ping_interval = 10;
      ping_timeout = 10;
      ping_req_timeout = 10;
      suspect_timeout = 10;
      ping_req_group_size = 4;
      send_constant = 3;
      max_selected = 6;
      max_size = 1169;
      collect = false;
      remember = false;
    }

-- n are listed, in an order, at a position
abbrev ring : ℕ → List ℕ → ℕ → Node ℕ
ring n order position =
    record {
      settings = settings;
      own = 1;
      members = record { table = map listed (up_to n); order = order; position = position };
      disseminator = record { alive = []; deceased = [] };
      timers = [];
      departed = [];
    }

-- the reply of a step at tick 10 from a wait record of tick 0, lent so many draws, all 0
abbrev steps : WaitState ℕ → Node ℕ → ℕ → Reply
steps st s draws = (detect numbers (stored numbers s) (record { state = st; since = 0 }) 10 (replicate draws 0) step_room).outcome.reply

-- and of a message
abbrev hears : Action ℕ → List (Gossip ℕ) → Node ℕ → ℕ → Reply
hears action gs s draws = (message numbers (stored numbers s) action gs (replicate draws 0) message_room).reply

-- ---- a ping: with one peer two shuffles of one draw, the own address last before the first and first after it
pub ping_of_two : Takes 2 (step_draws {A = ℕ} settings SendingPing 2) (steps SendingPing (ring 2 (2 ∷ 1 ∷ []) 1)) (Refused DrawsShort)
unfolding pick_draws when swap count parts_of least_from least_power limit_of all_below terms_of over rounds choose shuffle advance update seek pick_from lamps_of change spread loaded stored is_over due pinged send_ping in_range positioned sound_heap sound_rows sound_members sound_timers sound_departed sound valid_state detect
ping_of_two = record { says = refl; enough = refl; less = refl }

-- and at the end of a round of 64 one shuffle, of 63
pub ping_of_64 : Takes 63 (step_draws {A = ℕ} settings SendingPing 64) (steps SendingPing (ring 64 (up_to 64) 63)) (Refused DrawsShort)
unfolding pick_draws when swap count parts_of least_from least_power limit_of all_below terms_of over rounds choose shuffle advance update seek pick_from lamps_of change spread loaded stored is_over due pinged send_ping in_range positioned sound_heap sound_rows sound_members sound_timers sound_departed sound valid_state detect
ping_of_64 = record { says = refl; enough = refl; less = refl }

-- and so with any number from 3 to 64
abbrev exact : ℕ → Bool
exact n =
    let d = step_draws {A = ℕ} settings SendingPing n in
    let call = steps SendingPing (ring n (up_to n) (n - 1)) in
    eqb (draws_used (call d)) d && eqb (reply_number (call (d - 1))) 8

pub ping_of_any : every exact (drop 2 (up_to 64)) ≡ true
unfolding pick_draws when swap count parts_of least_from least_power limit_of all_below terms_of over rounds choose shuffle advance update seek pick_from lamps_of change spread loaded stored is_over due pinged send_ping in_range positioned sound_heap sound_rows sound_members sound_timers sound_departed sound valid_state detect
ping_of_any = refl

-- ---- a group of four of whom there are four: two shuffles of five draws, everybody looked at
pub group_of_six : Takes 10 (step_draws {A = ℕ} settings (SendingPingReq 2 0) 6) (steps (SendingPingReq 2 0) (ring 6 (3 ∷ 4 ∷ 5 ∷ 6 ∷ 2 ∷ 1 ∷ []) 5)) (Refused DrawsShort)
unfolding pick_draws when swap count those parts_of varint_from varint_length size_of_number size_over size_of least_from least_power limit_of climb_in climb lower down_in down push push_all sink_top remove_top all_below terms_of was_noted take_top try_heap try_alive try_deceased over rounds choose is_old collects rebuilt cleared shuffle advance update seek pick_from lamps_of pushed emit change spread loaded stored is_over due suspect asked pick_group send_ping_req in_range positioned sound_heap sound_rows sound_members sound_timers sound_departed sound valid_state detect
group_of_six = record { says = refl; enough = refl; less = refl }

pub group_of_64 : Takes 63 (step_draws {A = ℕ} settings (SendingPingReq 2 0) 64) (steps (SendingPingReq 2 0) (ring 64 (up_to 64) 63)) (Refused DrawsShort)
unfolding pick_draws when swap count those parts_of varint_from varint_length size_of_number size_over size_of least_from least_power limit_of climb_in climb lower down_in down push push_all sink_top remove_top all_below terms_of was_noted take_top try_heap try_alive try_deceased over rounds choose is_old collects rebuilt cleared shuffle advance update seek pick_from lamps_of pushed emit change spread loaded stored is_over due suspect asked pick_group send_ping_req in_range positioned sound_heap sound_rows sound_members sound_timers sound_departed sound valid_state detect
group_of_64 = record { says = refl; enough = refl; less = refl }

-- and so with any number from 7 to 64
abbrev exact_group : ℕ → Bool
exact_group n =
    let d = step_draws {A = ℕ} settings (SendingPingReq 2 0) n in
    let call = steps (SendingPingReq 2 0) (ring n (up_to n) (n - 1)) in
    eqb (draws_used (call d)) d && eqb (reply_number (call (d - 1))) 8

pub group_of_any : every exact_group (drop 6 (up_to 64)) ≡ true
unfolding pick_draws when swap count those parts_of varint_from varint_length size_of_number size_over size_of least_from least_power limit_of climb_in climb lower down_in down push push_all sink_top remove_top all_below terms_of was_noted take_top try_heap try_alive try_deceased over rounds choose is_old collects rebuilt cleared shuffle advance update seek pick_from lamps_of pushed emit change spread loaded stored is_over due suspect asked pick_group send_ping_req in_range positioned sound_heap sound_rows sound_members sound_timers sound_departed sound valid_state detect
group_of_any = refl

-- ---- a message
abbrev join : ℕ → Gossip ℕ
join a = record { event = Joined 9 a 0 }

abbrev death-of : ℕ → Gossip ℕ
death-of a = record { event = Deceased 9 a 0 }

-- two records and the sender of a Ping, all three new
pub ping_of_two-records : Takes 3 (entry_draws (comers {A = ℕ} (Ping 9 none) 2) 1) (hears (Ping 9 none) (join 7 ∷ join 8 ∷ []) (ring 1 (1 ∷ []) 0)) (RefusedAt DrawsShort Sender)
unfolding entry_draws when swap count those parts_of varint_from varint_length size_of_number size_over size_of least_from least_power limit_of climb_in climb lower down_in down push push_all sink_top remove_top all_below terms_of was_noted take_top try_heap try_alive try_deceased over rounds choose or_else death is_old collects rebuilt cleared added add remove update make_room look_up without depart departs death_of lamps_of quiet and_more pushed emit change spread loaded stored cause_at joined_at joined deceased judge_sender list_after row_after news_of act item stops_at admit acked answer_to forwarded handle in_range positioned valid_gossip sound_heap sound_rows sound_members sound_timers sound_departed sound valid_action message
ping_of_two-records = record { says = refl; enough = refl; less = refl }

-- 64 records to a node that lists nobody
pub message_of_64 : Takes 64 (entry_draws (comers {A = ℕ} (Ack 1 none) 64) 0) (hears (Ack 1 none) (map join (up_to 64)) (ring 0 [] 0)) (RefusedAt DrawsShort (Record 63))
unfolding entry_draws when swap count those parts_of varint_from varint_length size_of_number size_over size_of least_from least_power limit_of climb_in climb lower down_in down push push_all sink_top remove_top all_below terms_of was_noted take_top try_heap try_alive try_deceased over rounds choose or_else death is_old collects rebuilt cleared added add remove update make_room look_up without depart departs death_of lamps_of quiet and_more pushed emit change spread loaded stored cause_at joined_at joined deceased judge_sender list_after row_after news_of act item stops_at admit acked answer_to forwarded handle in_range positioned valid_gossip sound_heap sound_rows sound_members sound_timers sound_departed sound valid_action message
message_of_64 = record { says = refl; enough = refl; less = refl }

-- a full list: one has to die before another comes in
pub message_to_full : Takes 1 (entry_draws (comers {A = ℕ} (Ack 1 none) 2) 64) (hears (Ack 1 none) (death-of 64 ∷ join 65 ∷ []) (ring 64 (up_to 64) 0)) (RefusedAt DrawsShort (Record 1))
unfolding entry_draws when swap count those parts_of varint_from varint_length size_of_number size_over size_of least_from least_power limit_of climb_in climb lower down_in down push push_all sink_top remove_top all_below terms_of was_noted take_top try_heap try_alive try_deceased over rounds choose or_else death is_old collects rebuilt cleared added add remove update make_room look_up without depart departs death_of lamps_of quiet and_more pushed emit change spread loaded stored cause_at joined_at joined deceased judge_sender list_after row_after news_of act item stops_at admit acked answer_to forwarded handle in_range positioned valid_gossip sound_heap sound_rows sound_members sound_timers sound_departed sound valid_action message
message_to_full = record { says = refl; enough = refl; less = refl }

-- and so of 3 records at any number listed: as many die first as must, then all others come in
abbrev exact_message : ℕ → ℕ → Bool
exact_message k n =
    let d = entry_draws (comers {A = ℕ} (Ack 1 none) k) n in
    let call = hears (Ack 1 none) (map death-of (take (k - d) (up_to n)) ++ map (λ i. join (100 + i)) (up_to d)) (ring n (up_to n) 0) in
    pick (eqb d 0) true (eqb (draws_used (call d)) d && eqb (reply_number (call (d - 1))) 8)

pub message_of_any : every (exact_message 3) (up_to 64) ≡ true
unfolding entry_draws when swap count those parts_of varint_from varint_length size_of_number size_over size_of least_from least_power limit_of climb_in climb lower down_in down push push_all sink_top remove_top all_below terms_of was_noted take_top try_heap try_alive try_deceased over rounds choose or_else death is_old collects rebuilt cleared added add remove update make_room look_up without depart departs death_of lamps_of quiet and_more pushed emit change spread loaded stored cause_at joined_at joined deceased judge_sender list_after row_after news_of act item stops_at admit acked answer_to forwarded handle in_range positioned valid_gossip sound_heap sound_rows sound_members sound_timers sound_departed sound valid_action message
message_of_any = refl

-- ---- a peer is added
pub add_of-one : Takes 1 1 (λ draws. (add_peer numbers (stored numbers (ring 1 (1 ∷ []) 0)) 7 0 (replicate draws 0)).reply) (Refused DrawsShort)
unfolding when added add parts_of all_below lamps_of loaded stored in_range positioned sound_heap sound_rows sound_members sound_timers sound_departed sound add_peer
add_of-one = record { says = refl; enough = refl; less = refl }
