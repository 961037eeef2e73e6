-- One worked history: a peer comes in, is raised while a ping to it is out, is suspected at the number it had and keeps its own, dies, comes back within one message, is
-- suspected by a wait record that the host made up, and is taken out by the time-out that still ran. After each call: what the ledger counts for the peer, and what the node lists.
-- Assumes nothing.
use Rattle.std.specs.Prelude.{◌≡◌, refl, Bool, true, false, List, [], ◌∷◌, ℕ}
use Rattle.std.proofs.Math.Option.{none}
use Rattle.model.specs.Bounds.{message_room, step_room, timer_room}
use Rattle.worked.specs.Numbered.{ipv4}
use Rattle.model.specs.Words.{Event, Joined, Deceased, Gossip, Ping, Ack, SendingPingReq, Declaring}
use Rattle.model.specs.Node.{loaded, lists, numbered}
use Rattle.model.specs.Answers as answers
use Rattle.model.specs.Rows as rows
use Rattle.model.specs.Limit as limit
use Rattle.model.specs.Size as size
use Rattle.address.specs.IPv4 as ipv4
use Rattle.model.specs.Words as words
use Rattle.model.specs.Heap as heap
use Rattle.model.specs.Choose as choosing
use Rattle.model.specs.Collect as collecting
use Rattle.model.specs.Lamps as lamps
use Rattle.model.specs.Members as list
use Rattle.model.specs.Departed as gone
use Rattle.model.specs.Node as M
use Rattle.model.specs.Handler as handler
use Rattle.model.specs.Detector as D
use Rattle.model.specs.Sound as sounds
use Rattle.model.specs.Calls as calls
use Rattle.history.specs.Beginnings.{Creation}
use Rattle.history.specs.Ledger.{Tally, tally, begun}
use Rattle.history.specs.Histories.{World, Call, Add, Receive, Step, Timer, Lends, outcome, world_of, moments, start}
use Rattle.worked.specs.Cabinet.{own, B, C, settings}

-- C tells of B
abbrev tells : (ℕ → ℕ → ℕ → Event ℕ) → ℕ → Gossip ℕ
tells kind n = record { event = kind C B n }

abbrev pub day : List (Call ℕ)
day =
    Add B 4 (0 ∷ [])
    -- listed already: an add, but no entry
    ∷ Add B 9 (0 ∷ [])
    -- a ping to B takes its number, 4
    ∷ Step 10 [] step_room
    -- meanwhile gossip raises it to 6
    ∷ Receive (Ack C none) (tells Joined 6 ∷ []) [] message_room
    -- no answer: the ping-request step suspects it, reports 4 and leaves 6
    ∷ Step 20 [] step_room
    ∷ Step 20 [] step_room
    -- no answer either: a declaration starts
    ∷ Step 30 [] step_room
    ∷ Step 30 [] step_room
    -- a death notice older than the number it was raised to removes nobody
    ∷ Receive (Ack C none) (tells Deceased 5 ∷ []) [] message_room
    -- B dies and comes back within one message of C, which comes in too
    ∷ Receive (Ping C none) (tells Deceased 6 ∷ tells Joined 2 ∷ []) (0 ∷ 0 ∷ []) message_room
    -- the host lends a wait record of its own making: B is suspected at 1 and keeps its number
    ∷ Lends (record { state = SendingPingReq B 1; since = 0 })
    ∷ Step 30 (0 ∷ 0 ∷ 0 ∷ 0 ∷ []) step_room
    -- the time-out that still ran is refuted: it is of B at 4, and B is at 7
    ∷ Timer 40 timer_room
    -- and nothing else is over
    ∷ Timer 41 timer_room
    -- a time-out of B at 7 starts, and takes it out
    ∷ Lends (record { state = Declaring B 7; since = 41 })
    ∷ Step 41 [] step_room
    ∷ Timer 51 timer_room
    -- another starts that finds B gone
    ∷ Lends (record { state = Declaring B 7; since = 51 })
    ∷ Step 51 [] step_room
    ∷ Timer 61 timer_room
    ∷ []

-- the ledger's entries, departures and greatest reported number; whether B is listed, and its number
pub record Line : Type 0 where
  pub entries : ℕ
  pub departures : ℕ
  pub reported : ℕ
  pub listed : Bool
  pub number : ℕ

abbrev line : World ℕ → Tally → Line
line w t =
    record {
      entries = t.entries;
      departures = t.departures;
      reported = t.top;
      listed = lists ipv4 B (loaded w.node);
      number = numbered ipv4 B (loaded w.node);
    }

abbrev pub follow : List (Call ℕ) → World ℕ → Tally → List Line
follow [] w t = []
follow (c ∷ h) w t =
    let w' = world_of ipv4 (outcome ipv4 c w) in
    let t' = tally ipv4 B (moments ipv4 c w) t in
    line w' t' ∷ follow h w' t'

abbrev counted : ℕ → ℕ → ℕ → Bool → ℕ → Line
counted e d r l n = record { entries = e; departures = d; reported = r; listed = l; number = n }

pub worked_day : follow day (start ipv4 (Creation settings own 0) 0) (begun ipv4 B (Creation settings own 0)) ≡
    (counted 1 0 0 true 4)
    ∷ (counted 1 0 0 true 4)
    ∷ (counted 1 0 0 true 4)
    ∷ (counted 1 0 6 true 6)
    ∷ (counted 1 0 6 true 6)
    ∷ (counted 1 0 6 true 6)
    ∷ (counted 1 0 6 true 6)
    ∷ (counted 1 0 6 true 6)
    ∷ (counted 1 0 6 true 6)
    ∷ (counted 2 1 7 true 7)
    ∷ (counted 2 1 7 true 7)
    ∷ (counted 2 1 7 true 7)
    ∷ (counted 2 1 7 true 7)
    ∷ (counted 2 1 7 true 7)
    ∷ (counted 2 1 7 true 7)
    ∷ (counted 2 1 7 true 7)
    ∷ (counted 2 2 7 false 0)
    ∷ (counted 2 2 7 false 0)
    ∷ (counted 2 2 7 false 0)
    ∷ (counted 2 2 7 false 0)
    ∷ []
unfolding answers.when rows.swap limit.least_from limit.least_power limit.limit_of size.varint_from size.varint_length size.size_of_number size.size_over size.size_of ipv4.digits ipv4.text_length words.parts_of words.same_gossip heap.climb_in heap.climb heap.lower heap.down_in heap.down heap.push heap.sink_top heap.remove_top heap.all_below choosing.terms_of choosing.was_noted choosing.take_top choosing.try_heap choosing.try_alive choosing.try_deceased choosing.over choosing.rounds choosing.choose choosing.or_else choosing.death list.shuffle list.advance list.added list.add list.remove list.update list.seek list.pick_from M.quiet M.and_more collecting.collects collecting.cleared M.pushed M.emit M.change M.leave M.spread M.loaded M.stored M.fresh handler.joined_at handler.joined handler.recovered handler.believed handler.suspected_other handler.suspected handler.deceased handler.judge_sender gone.make_room gone.look_up gone.without gone.depart gone.departs gone.death_of handler.list_after handler.row_after handler.news_of handler.act handler.item handler.admit handler.acked handler.answer_to handler.forwarded handler.handle D.is_over D.due D.pinged D.send_ping D.heard D.waited D.suspect D.asked D.pick_group D.send_ping_req D.declare D.first_over D.fate_of D.by_fate D.end_at sounds.in_range sounds.positioned sounds.valid_gossip sounds.sound_entry sounds.sound_heap sounds.sound_rows sounds.sound_members sounds.sound_timers sounds.sound_departed sounds.sound lamps.lamps_of calls.create calls.add_peer calls.valid_action calls.valid_state calls.message calls.detect calls.end_timer
worked_day = refl
