-- A node that takes all the 2817 steps that any node can take: 64 listed, send constant 8, 128 recoveries that were never sent, one record a message.
-- And a stretch of a history that meets what is asked of one. By computation, but for the steps.
-- Assumes nothing.
use Rattle.std.specs.Prelude.{◌≡◌, refl, true, false, List, [], ◌∷◌, map, ℕ, zero, suc, ◌≤◌, ◌<◌, length, replicate, leb}
use Rattle.std.proofs.Math.Option.{none}
use Rattle.std.proofs.Common.{arith, le_refl, eqb-true, eq-eqb}
use Rattle.std.proofs.lemmas.List.{length-replicate}
use Rattle.model.specs.declared.Settings.{Settings}
use Rattle.laws_node.specs.Good.{FullRows}
use Rattle.model.specs.Rows.{every, swap, count}
use Rattle.model.specs.Answers.{when}
use Rattle.model.specs.Limit.{least_from, least_power, limit_of}
use Rattle.model.specs.Size.{varint_from, varint_length, size_of_number, size_over, size_of}
use Rattle.model.specs.Heap.{climb_in, climb, lower, down_in, down, push, push_all, sink_top, remove_top, all_below}
use Rattle.model.specs.Lamps.{lamps_of}
use Rattle.model.specs.Sound.{in_range, positioned, valid_gossip, sound_entry, sound_heap, sound_rows, sound_members, sound_timers, sound_departed, sound}
use Rattle.model.specs.Words.{Lawful, Recovered, Suspected, Entry, Ack, Wait, SendingPingReq, parts_of, same_gossip}
use Rattle.model.specs.Bounds.{step_room, message_room}
use Rattle.model.specs.Choose.{terms_of, was_noted, take_top, try_heap, try_alive, try_deceased, over, rounds, choose, or_else, death}
use Rattle.model.specs.Collect.{is_old, collects, rebuilt, cleared}
use Rattle.model.specs.Members.{shuffle, advance, added, add, remove, update, seek, pick_from}
use Rattle.model.specs.Departed.{make_room, look_up, without, depart, departs, death_of}
use Rattle.model.specs.Node.{Node, Stored, quiet, and_more, pushed, emit, change, spread, loaded, stored}
use Rattle.model.specs.Handler.{cause_at, suspected, list_after, row_after, news_of, act, item, stops_at, acked, forwarded, handle}
use Rattle.model.specs.Detector.{is_over, due, pinged, send_ping, suspect, asked, pick_group, send_ping_req}
use Rattle.model.specs.Calls.{valid_action, valid_state, message, detect}
use Rattle.history.specs.Histories.{World, Call, Receive, Step, Lends}
use Rattle.probing.specs.Stretch.{pings_of}
use Rattle.supply.specs.Meanwhile.{FullAlong}
use Rattle.supply.specs.Numbered.{numbers, up_to, listed}
use Rattle.supply.specs.Remedy.{fresh_wait, Turn, Ready, ReadyAll, after}
use Rattle.supply.proofs.Remedy.{room_most}
use Rattle.supply.proofs.Exactly.{full_until}
use Rattle.supply.specs.Shuffles.{pick_draws}

-- one record a message, and a send constant of 8
abbrev settings : Settings
settings =
    record {
      ping_interval = 10;
      ping_timeout = 10;
      ping_req_timeout = 10;
      suspect_timeout = 10;
      ping_req_group_size = 1;
      send_constant = 8;
      max_selected = 1;
      max_size = 111;
      collect = false;
      remember = false;
    }

abbrev held : ℕ → Entry ℕ
held n = record { gossip = record { event = Recovered 1 1 n }; sends = 0; size = size_of numbers (record { event = Recovered 1 1 n }) }

abbrev full : Node ℕ
full =
    record {
      settings = settings;
      own = 1;
      members = record { table = map listed (up_to 64); order = up_to 64; position = 0 };
      disseminator = record { alive = map held (up_to 128); deceased = [] };
      timers = [];
      departed = [];
    }

abbrev rows : Stored ℕ
rows = stored numbers full

abbrev turn : Turn
turn = record { since = 0; now = 10; draws = replicate 63 0 }

lawful : Lawful numbers
lawful = record { test = record { same_refl = λ a. eq-eqb a a refl; same_eq = λ a b e. eqb-true a b e } }

texts : (a : ℕ) → numbers.valid a ≡ true → numbers.chars a ≤ 47
texts a v = omega arith

pub rows-sound : sound numbers rows ≡ true
unfolding parts_of varint_from varint_length size_of_number size_over size_of all_below lamps_of stored in_range positioned valid_gossip sound_entry sound_heap sound_rows sound_members sound_timers sound_departed sound
rows-sound = refl

rows-full : FullRows rows
unfolding stored size_of
rows-full = record { table = refl; order = refl; alive = refl; deceased = refl; timers = refl; departed = refl }

rows-held : length (loaded rows).disseminator.alive ≡ 128
unfolding loaded stored
rows-held = refl

rows-unsent : every (λ (e : Entry ℕ). leb e.sends 0) (loaded rows).disseminator.alive ≡ true
unfolding loaded stored
rows-unsent = refl

-- the limit is 23
pub limit_23 : limit_of 64 8 ≡ 23
unfolding least_from least_power limit_of
limit_23 = refl

-- each step is due and has its draws
pub turn_ready : Ready settings 64 turn
unfolding is_over pick_draws
turn_ready = record { over = refl; supplied = omega arith }

all_ready : (n : ℕ) → ReadyAll settings 64 (replicate n turn)
all_ready zero = tt
all_ready (suc n) = (turn_ready, all_ready n)

-- after 2816 steps it is full still, and after 2817 it has room
pub full_for_2816 : (n : ℕ) → n ≤ 2816 → (after numbers (replicate n turn) rows).alive.used ≡ 128
unfolding stored
full_for_2816 n h =
    full_until numbers lawful texts rows (replicate n turn) rows-full rows-sound (all_ready n) refl refl rows-held rows-unsent (omega (arith, length-replicate n turn, limit_23))

pub room-after_2817 : (n : ℕ) → 2817 ≤ n → (after numbers (replicate n turn) rows).alive.used < 128
unfolding stored
room-after_2817 n h = room_most numbers lawful texts rows (replicate n turn) rows-full rows-sound (all_ready n) (omega (arith, length-replicate n turn))

-- ---- and what the theorem over histories asks is met: two pings while the heap is full, between them a message and a ping request that are refused 9
abbrev fresh : Wait ℕ
fresh = fresh_wait 0

abbrev stretch : List (Call ℕ)
stretch =
    Step 10 (replicate 63 0) step_room
    ∷ Receive (Ack 9 none) (record { event = Suspected 9 1 7 } ∷ []) [] message_room
    ∷ Lends (record { state = SendingPingReq 2 0; since = 0 })
    ∷ Step 20 (replicate 63 0) step_room
    ∷ Lends fresh
    ∷ Step 20 (replicate 63 0) step_room
    ∷ []

abbrev world : World ℕ
world = record { node = rows; wait = fresh }

pub two-pings : pings_of numbers stretch world ≡ 2
unfolding swap count when parts_of same_gossip varint_from varint_length size_of_number size_over size_of least_from least_power limit_of climb_in climb lower down_in down push push_all sink_top remove_top all_below terms_of was_noted take_top try_heap try_alive try_deceased over rounds choose shuffle advance update seek pick_from lamps_of change spread loaded stored is_over due pinged send_ping in_range positioned valid_gossip sound_entry sound_heap sound_rows sound_members sound_timers sound_departed sound valid_state detect added add remove make_room look_up without depart departs death_of or_else death is_old collects rebuilt cleared quiet and_more pushed emit cause_at suspected list_after row_after news_of act item stops_at forwarded acked handle suspect asked pick_group send_ping_req valid_action message
two-pings = refl

pub full_along : FullAlong numbers stretch world
unfolding swap count when parts_of same_gossip varint_from varint_length size_of_number size_over size_of least_from least_power limit_of climb_in climb lower down_in down push push_all sink_top remove_top all_below terms_of was_noted take_top try_heap try_alive try_deceased over rounds choose shuffle advance update seek pick_from lamps_of change spread loaded stored is_over due pinged send_ping in_range positioned valid_gossip sound_entry sound_heap sound_rows sound_members sound_timers sound_departed sound valid_state detect added add remove make_room look_up without depart departs death_of or_else death is_old collects rebuilt cleared quiet and_more pushed emit cause_at suspected list_after row_after news_of act item stops_at forwarded acked handle suspect asked pick_group send_ping_req valid_action message
full_along = (le_refl 128, (le_refl 128, (le_refl 128, (le_refl 128, (le_refl 128, (le_refl 128, le_refl 128))))))
