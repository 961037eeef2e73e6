-- The theorems speak of something, and of no more: three controllers, 1, 2 and 3. The first was created, the second restarted with 2 and 3 on its list; the third takes no part but for a step of its own. The first
-- lists both, is lent a fresh wait record, pings 3 in vain, asks the second, and declares 3, whose timer ends; then it pings the second. The network forges a message of which the death alone was ever sent: the
-- sender is no controller's, and a fourth controller and a suspicion are made up. The second strikes 3 off its list.
-- Assumes nothing.
use Rattle.std.specs.Prelude.{◌≡◌, refl, Bool, true, false, List, [], ◌∷◌, ℕ, zero, suc, eqb, ltb}
use Rattle.std.proofs.Common.{ap, sym, lit≤, eqb-true, eq-eqb}
use Rattle.std.proofs.Math.Option.{none}
use Rattle.model.specs.declared.Settings.{Settings}
use Rattle.model.specs.declared.State.TheVariants.{Alive}
use Rattle.model.specs.Bounds.{Room}
use Rattle.model.specs.Words.{Address, Lawful, Member, Joined, Suspected, Deceased, Gossip, Ack, SendingPing, SendingPingReq, Wait}
use Rattle.model.specs.Words as words
use Rattle.model.specs.Answers as answers
use Rattle.model.specs.Rows as rows
use Rattle.model.specs.Limit as limit
use Rattle.model.specs.Size as sizes
use Rattle.model.specs.Heap as heap
use Rattle.model.specs.Choose as choosing
use Rattle.model.specs.Collect as collecting
use Rattle.model.specs.Lamps as lamps
use Rattle.model.specs.Members as list
use Rattle.model.specs.Departed as gone
use Rattle.model.specs.Node as M
use Rattle.model.specs.Node.{lists, loaded}
use Rattle.model.specs.Handler as handler
use Rattle.model.specs.Detector as D
use Rattle.model.specs.Detector.{enters}
use Rattle.model.specs.Sound as sounds
use Rattle.model.specs.Calls as calls
use Rattle.history.specs.Beginnings.{Beginning, Creation, Restart, creates, restarts}
use Rattle.history.specs.Histories.{World, Call, Add, Receive, Step, Timer, Lends, start}
use Rattle.cabinet.specs.Each.{Each, nil, cons, here}
use Rattle.cabinet.specs.Cabinets.{deaths, suspicions, Turn, Once, this, earlier, Latest, last, since, Pinging, Said, Fresh, nodes, given, sent, Honest, TimedOut, AskedFor}
use Rattle.cabinet.specs.Cabinets as cabinets
use Rattle.history.proofs.Rules.{never}
use Rattle.cabinet.proofs.NoForgedDeath.{strikes}
use Rattle.cabinet.proofs.NoForgedSuspicion.{reports}

abbrev numbers : Address ℕ
numbers = record { same = eqb; blank = 0; valid = λ a. ltb a 10; chars = λ a. 9 }

numbers_lawful : Lawful numbers
numbers_lawful = record { test = record { same_refl = λ a. eq-eqb a a refl; same_eq = eqb-true } }

abbrev settings : Settings
settings =
    record {
      ping_interval = 10;
      ping_timeout = 10;
      ping_req_timeout = 10;
      suspect_timeout = 10;
      ping_req_group_size = 1;
      send_constant = 3;
      max_selected = 6;
      max_size = 1169;
      collect = true;
      remember = true;
    }

abbrev alive : ℕ → Member ℕ
alive a = record { addr = a; state = Alive; number = 0 }

abbrev beginning : ℕ → Beginning ℕ
beginning zero = Creation settings 1 0
beginning (suc zero) = Restart settings 2 (alive 2 ∷ alive 3 ∷ []) 0
beginning (suc (suc j)) = Creation settings 3 0

abbrev begins : ℕ → World ℕ
begins j = start numbers (beginning j) 0

abbrev draws : List ℕ
draws = 0 ∷ 0 ∷ 0 ∷ 0 ∷ 0 ∷ 0 ∷ []

abbrev room : Room
room = record { gossip = 256; events = 65 }

abbrev turn : ℕ → Call ℕ → Turn ℕ
turn j c = record { who = j; call = c }

-- the last call stands first. Up to the declaration
abbrev h₁ : List (Turn ℕ)
h₁ =
    turn 0 (Step 30 draws room)
    ∷ turn 0 (Step 30 draws room)
    ∷ turn 0 (Step 20 draws room)
    ∷ turn 0 (Step 20 draws room)
    ∷ turn 0 (Step 10 draws room)
    ∷ turn 0 (Lends (enters SendingPing 0))
    ∷ turn 0 (Add 3 0 draws)
    ∷ turn 0 (Add 2 0 draws)
    ∷ []

-- and on: the third makes a step of its own before the first's ping comes to anyone
abbrev h : List (Turn ℕ)
h = turn 2 (Step 10 draws room) ∷ turn 0 (Step 40 draws room) ∷ turn 0 (Timer 40 room) ∷ h₁

-- what comes to the second
abbrev t : Turn ℕ
t = turn 1 (Receive (Ack 9 none) (record { event = Joined 7 4 5 } ∷ record { event = Suspected 8 3 0 } ∷ record { event = Deceased 5 3 0 } ∷ []) draws room)

all_fresh : (j : ℕ) → Fresh numbers (begins j)
unfolding answers.when rows.swap limit.least_from limit.least_power limit.limit_of heap.climb_in heap.climb heap.lower heap.down_in heap.down heap.push heap.sink_top heap.remove_top heap.all_below choosing.terms_of choosing.was_noted choosing.take_top choosing.try_heap choosing.try_alive choosing.try_deceased choosing.over choosing.rounds choosing.choose choosing.or_else choosing.death list.shuffle list.advance list.update list.seek list.pick_from M.quiet M.and_more M.change M.spread M.loaded M.stored handler.acked handler.handle D.is_over D.due D.pinged D.send_ping D.heard D.waited sounds.in_range sounds.positioned sounds.sound_entry sounds.sound_heap sounds.sound_rows sounds.sound_members sounds.sound_timers sounds.sound_departed sounds.sound lamps.lamps_of calls.valid_action calls.valid_state calls.message calls.detect words.parts_of handler.forwarded words.same_gossip collecting.is_old collecting.collects collecting.cleared collecting.rebuilt heap.push_all rows.those rows.count gone.make_room gone.look_up gone.without gone.depart gone.departs gone.death_of list.remove sizes.varint_from sizes.varint_length sizes.size_of_number sizes.size_over sizes.size_of D.first_over D.fate_of D.by_fate D.end_at calls.end_timer calls.create calls.add_peer M.leave M.fresh sounds.valid_gossip handler.believed handler.cause_at handler.joined_at handler.joined handler.recovered handler.suspected_other handler.suspected handler.deceased handler.judge_sender handler.list_after handler.row_after handler.news_of handler.act handler.item handler.stops_at handler.admit handler.answer_to M.pushed M.emit list.added list.add D.suspect D.asked D.pick_group D.send_ping_req D.declare
all_fresh zero = cabinets.fresh (beginning 0) _ 0 (creates refl)
all_fresh (suc zero) = cabinets.fresh (beginning 1) _ 0 (restarts refl (record { few = lit≤ tt; own_valid = refl; valid = refl; once = refl; placed = refl }))
all_fresh (suc (suc j)) = cabinets.fresh (beginning 2) _ 0 (creates refl)

-- the death of 3 stood in the first controller's ping
said : Said deaths (sent numbers begins h) 3 0
unfolding answers.when rows.swap limit.least_from limit.least_power limit.limit_of heap.climb_in heap.climb heap.lower heap.down_in heap.down heap.push heap.sink_top heap.remove_top heap.all_below choosing.terms_of choosing.was_noted choosing.take_top choosing.try_heap choosing.try_alive choosing.try_deceased choosing.over choosing.rounds choosing.choose choosing.or_else choosing.death list.shuffle list.advance list.update list.seek list.pick_from M.quiet M.and_more M.change M.spread M.loaded M.stored handler.acked handler.handle D.is_over D.due D.pinged D.send_ping D.heard D.waited sounds.in_range sounds.positioned sounds.sound_entry sounds.sound_heap sounds.sound_rows sounds.sound_members sounds.sound_timers sounds.sound_departed sounds.sound lamps.lamps_of calls.valid_action calls.valid_state calls.message calls.detect words.parts_of handler.forwarded words.same_gossip collecting.is_old collecting.collects collecting.cleared collecting.rebuilt heap.push_all rows.those rows.count gone.make_room gone.look_up gone.without gone.depart gone.departs gone.death_of list.remove sizes.varint_from sizes.varint_length sizes.size_of_number sizes.size_over sizes.size_of D.first_over D.fate_of D.by_fate D.end_at calls.end_timer calls.create calls.add_peer M.leave M.fresh sounds.valid_gossip handler.believed handler.cause_at handler.joined_at handler.joined handler.recovered handler.suspected_other handler.suspected handler.deceased handler.judge_sender handler.list_after handler.row_after handler.news_of handler.act handler.item handler.stops_at handler.admit handler.answer_to M.pushed M.emit list.added list.add D.suspect D.asked D.pick_group D.send_ping_req D.declare
said = here (here (1, refl))

-- nobody forged a death
honest : Honest numbers begins deaths (t ∷ h)
unfolding answers.when rows.swap limit.least_from limit.least_power limit.limit_of heap.climb_in heap.climb heap.lower heap.down_in heap.down heap.push heap.sink_top heap.remove_top heap.all_below choosing.terms_of choosing.was_noted choosing.take_top choosing.try_heap choosing.try_alive choosing.try_deceased choosing.over choosing.rounds choosing.choose choosing.or_else choosing.death list.shuffle list.advance list.update list.seek list.pick_from M.quiet M.and_more M.change M.spread M.loaded M.stored handler.acked handler.handle D.is_over D.due D.pinged D.send_ping D.heard D.waited sounds.in_range sounds.positioned sounds.sound_entry sounds.sound_heap sounds.sound_rows sounds.sound_members sounds.sound_timers sounds.sound_departed sounds.sound lamps.lamps_of calls.valid_action calls.valid_state calls.message calls.detect words.parts_of handler.forwarded words.same_gossip collecting.is_old collecting.collects collecting.cleared collecting.rebuilt heap.push_all rows.those rows.count gone.make_room gone.look_up gone.without gone.depart gone.departs gone.death_of list.remove sizes.varint_from sizes.varint_length sizes.size_of_number sizes.size_over sizes.size_of D.first_over D.fate_of D.by_fate D.end_at calls.end_timer calls.create calls.add_peer M.leave M.fresh sounds.valid_gossip handler.believed handler.cause_at handler.joined_at handler.joined handler.recovered handler.suspected_other handler.suspected handler.deceased handler.judge_sender handler.list_after handler.row_after handler.news_of handler.act handler.item handler.stops_at handler.admit handler.answer_to M.pushed M.emit list.added list.add D.suspect D.asked D.pick_group D.send_ping_req D.declare
honest = (cons tt (cons tt (cons said nil)), (tt, (tt, (tt, (tt, (tt, (tt, (tt, (tt, (refl, (tt, (tt, tt))))))))))))

struck : (lists numbers 3 (nodes numbers begins h 1) ≡ true) × (lists numbers 3 (loaded (given numbers begins t h).node) ≡ false)
unfolding answers.when rows.swap limit.least_from limit.least_power limit.limit_of heap.climb_in heap.climb heap.lower heap.down_in heap.down heap.push heap.sink_top heap.remove_top heap.all_below choosing.terms_of choosing.was_noted choosing.take_top choosing.try_heap choosing.try_alive choosing.try_deceased choosing.over choosing.rounds choosing.choose choosing.or_else choosing.death list.shuffle list.advance list.update list.seek list.pick_from M.quiet M.and_more M.change M.spread M.loaded M.stored handler.acked handler.handle D.is_over D.due D.pinged D.send_ping D.heard D.waited sounds.in_range sounds.positioned sounds.sound_entry sounds.sound_heap sounds.sound_rows sounds.sound_members sounds.sound_timers sounds.sound_departed sounds.sound lamps.lamps_of calls.valid_action calls.valid_state calls.message calls.detect words.parts_of handler.forwarded words.same_gossip collecting.is_old collecting.collects collecting.cleared collecting.rebuilt heap.push_all rows.those rows.count gone.make_room gone.look_up gone.without gone.depart gone.departs gone.death_of list.remove sizes.varint_from sizes.varint_length sizes.size_of_number sizes.size_over sizes.size_of D.first_over D.fate_of D.by_fate D.end_at calls.end_timer calls.create calls.add_peer M.leave M.fresh sounds.valid_gossip handler.believed handler.cause_at handler.joined_at handler.joined handler.recovered handler.suspected_other handler.suspected handler.deceased handler.judge_sender handler.list_after handler.row_after handler.news_of handler.act handler.item handler.stops_at handler.admit handler.answer_to M.pushed M.emit list.added list.add D.suspect D.asked D.pick_group D.send_ping_req D.declare
struck = (refl, refl)

-- so 3 timed out
pub timed-out : (n : ℕ) × TimedOut numbers begins (t ∷ h) 3 n
timed-out = strikes numbers numbers_lawful begins all_fresh h honest.1 t honest.0 3 struck.0 struck.1

-- It says no more than that: at no turn of a history
abbrev Nowhere : (Turn ℕ → List (Turn ℕ) → Type 0) → List (Turn ℕ) → Type 0
Nowhere P [] = Unit {0}
Nowhere P (u ∷ g) = (P u g → ⊥) × Nowhere P g

nowhere : {P : Turn ℕ → List (Turn ℕ) → Type 0} (g : List (Turn ℕ)) → Nowhere P g → Once P g → ⊥
nowhere {P = P} [] n x'' = elim x'' [ ]
nowhere (u ∷ g) n (this p) = n.0 p
nowhere (u ∷ g) n (earlier o) = nowhere g n.1 o

-- nobody has timed out before the timer ended
pub not_before : (x n : ℕ) → TimedOut numbers begins h₁ x n → ⊥
not_before x n =
    nowhere h₁
    ((λ r. r.ends.call), ((λ r. r.ends.call), ((λ r. r.ends.call), ((λ r. r.ends.call), ((λ r. r.ends.call), ((λ r. r.ends.call), ((λ r. r.ends.call), ((λ r. r.ends.call), tt))))))))

apart : {m n : ℕ} → m ≡ n → (eqb m n ≡ true → ⊥) → ⊥
apart {m} {n} e f = f (eq-eqb m n e)

differ : ◌≡◌ {A = Bool} false true → ⊥
differ e = never e

-- whom and at which number the first of these records names
number_of : List (Gossip ℕ) → ℕ
number_of [] = 0
number_of (g ∷ gs) = (words.parts_of numbers g.event).number

subject_of : List (Gossip ℕ) → ℕ
subject_of [] = 0
subject_of (g ∷ gs) = (words.parts_of numbers g.event).subject

-- and then nobody but 3, and at no number but 0
pub nobody-else : (x n : ℕ) → TimedOut numbers begins (t ∷ h) x n → (x ≡ 3) × (n ≡ 0)
unfolding answers.when rows.swap limit.least_from limit.least_power limit.limit_of heap.climb_in heap.climb heap.lower heap.down_in heap.down heap.push heap.sink_top heap.remove_top heap.all_below choosing.terms_of choosing.was_noted choosing.take_top choosing.try_heap choosing.try_alive choosing.try_deceased choosing.over choosing.rounds choosing.choose choosing.or_else choosing.death list.shuffle list.advance list.update list.seek list.pick_from M.quiet M.and_more M.change M.spread M.loaded M.stored handler.acked handler.handle D.is_over D.due D.pinged D.send_ping D.heard D.waited sounds.in_range sounds.positioned sounds.sound_entry sounds.sound_heap sounds.sound_rows sounds.sound_members sounds.sound_timers sounds.sound_departed sounds.sound lamps.lamps_of calls.valid_action calls.valid_state calls.message calls.detect words.parts_of handler.forwarded words.same_gossip collecting.is_old collecting.collects collecting.cleared collecting.rebuilt heap.push_all rows.those rows.count gone.make_room gone.look_up gone.without gone.depart gone.departs gone.death_of list.remove sizes.varint_from sizes.varint_length sizes.size_of_number sizes.size_over sizes.size_of D.first_over D.fate_of D.by_fate D.end_at calls.end_timer calls.create calls.add_peer M.leave M.fresh sounds.valid_gossip handler.believed handler.cause_at handler.joined_at handler.joined handler.recovered handler.suspected_other handler.suspected handler.deceased handler.judge_sender handler.list_after handler.row_after handler.news_of handler.act handler.item handler.stops_at handler.admit handler.answer_to M.pushed M.emit list.added list.add D.suspect D.asked D.pick_group D.send_ping_req D.declare number_of subject_of
nobody-else x n (this r) = absurd r.ends.call
nobody-else x n (earlier (this r)) = absurd r.ends.call
nobody-else x n (earlier (earlier (this r))) = absurd r.ends.call
nobody-else x n (earlier (earlier (earlier (this r)))) = (sym (ap subject_of r.ends.event), sym (ap number_of r.ends.event))
nobody-else x n (earlier (earlier (earlier (earlier o)))) = absurd (not_before x n o)

-- the ping to 3 is no longer the last touch of the first's wait record once the round is over
pub not_the_latest : Latest numbers begins 0 (Pinging numbers begins 0 3 0 10) h → ⊥
unfolding answers.when rows.swap limit.least_from limit.least_power limit.limit_of heap.climb_in heap.climb heap.lower heap.down_in heap.down heap.push heap.sink_top heap.remove_top heap.all_below choosing.terms_of choosing.was_noted choosing.take_top choosing.try_heap choosing.try_alive choosing.try_deceased choosing.over choosing.rounds choosing.choose choosing.or_else choosing.death list.shuffle list.advance list.update list.seek list.pick_from M.quiet M.and_more M.change M.spread M.loaded M.stored handler.acked handler.handle D.is_over D.due D.pinged D.send_ping D.heard D.waited sounds.in_range sounds.positioned sounds.sound_entry sounds.sound_heap sounds.sound_rows sounds.sound_members sounds.sound_timers sounds.sound_departed sounds.sound lamps.lamps_of calls.valid_action calls.valid_state calls.message calls.detect words.parts_of handler.forwarded words.same_gossip collecting.is_old collecting.collects collecting.cleared collecting.rebuilt heap.push_all rows.those rows.count gone.make_room gone.look_up gone.without gone.depart gone.departs gone.death_of list.remove sizes.varint_from sizes.varint_length sizes.size_of_number sizes.size_over sizes.size_of D.first_over D.fate_of D.by_fate D.end_at calls.end_timer calls.create calls.add_peer M.leave M.fresh sounds.valid_gossip handler.believed handler.cause_at handler.joined_at handler.joined handler.recovered handler.suspected_other handler.suspected handler.deceased handler.judge_sender handler.list_after handler.row_after handler.news_of handler.act handler.item handler.stops_at handler.admit handler.answer_to M.pushed M.emit list.added list.add D.suspect D.asked D.pick_group D.send_ping_req D.declare
not_the_latest (since e (last p)) = apart (ap (λ (w : Wait ℕ). w.since) p.step.left) differ
not_the_latest (since e (since q l)) = apart (ap (λ (w : Wait ℕ). w.since) q) differ
not_the_latest (last p) = apart p.step.who differ

-- And of suspicions: up to the ping requests, and then a message of which the suspicion alone was ever sent; the death in it is made up. The second passes the suspicion on
abbrev h₂ : List (Turn ℕ)
h₂ =
    turn 0 (Step 20 draws room)
    ∷ turn 0 (Step 20 draws room)
    ∷ turn 0 (Step 10 draws room)
    ∷ turn 0 (Add 3 0 draws)
    ∷ turn 0 (Add 2 0 draws)
    ∷ []

abbrev t₂ : Turn ℕ
t₂ = turn 1 (Receive (Ack 9 none) (record { event = Deceased 7 4 8 } ∷ record { event = Suspected 8 3 0 } ∷ []) draws room)

said₂ : Said suspicions (sent numbers begins h₂) 3 0
unfolding answers.when rows.swap limit.least_from limit.least_power limit.limit_of heap.climb_in heap.climb heap.lower heap.down_in heap.down heap.push heap.sink_top heap.remove_top heap.all_below choosing.terms_of choosing.was_noted choosing.take_top choosing.try_heap choosing.try_alive choosing.try_deceased choosing.over choosing.rounds choosing.choose choosing.or_else choosing.death list.shuffle list.advance list.update list.seek list.pick_from M.quiet M.and_more M.change M.spread M.loaded M.stored handler.acked handler.handle D.is_over D.due D.pinged D.send_ping D.heard D.waited sounds.in_range sounds.positioned sounds.sound_entry sounds.sound_heap sounds.sound_rows sounds.sound_members sounds.sound_timers sounds.sound_departed sounds.sound lamps.lamps_of calls.valid_action calls.valid_state calls.message calls.detect words.parts_of handler.forwarded words.same_gossip collecting.is_old collecting.collects collecting.cleared collecting.rebuilt heap.push_all rows.those rows.count gone.make_room gone.look_up gone.without gone.depart gone.departs gone.death_of list.remove sizes.varint_from sizes.varint_length sizes.size_of_number sizes.size_over sizes.size_of D.first_over D.fate_of D.by_fate D.end_at calls.end_timer calls.create calls.add_peer M.leave M.fresh sounds.valid_gossip handler.believed handler.cause_at handler.joined_at handler.joined handler.recovered handler.suspected_other handler.suspected handler.deceased handler.judge_sender handler.list_after handler.row_after handler.news_of handler.act handler.item handler.stops_at handler.admit handler.answer_to M.pushed M.emit list.added list.add D.suspect D.asked D.pick_group D.send_ping_req D.declare
said₂ = here (here (1, refl))

honest₂ : Honest numbers begins suspicions (t₂ ∷ h₂)
unfolding answers.when rows.swap limit.least_from limit.least_power limit.limit_of heap.climb_in heap.climb heap.lower heap.down_in heap.down heap.push heap.sink_top heap.remove_top heap.all_below choosing.terms_of choosing.was_noted choosing.take_top choosing.try_heap choosing.try_alive choosing.try_deceased choosing.over choosing.rounds choosing.choose choosing.or_else choosing.death list.shuffle list.advance list.update list.seek list.pick_from M.quiet M.and_more M.change M.spread M.loaded M.stored handler.acked handler.handle D.is_over D.due D.pinged D.send_ping D.heard D.waited sounds.in_range sounds.positioned sounds.sound_entry sounds.sound_heap sounds.sound_rows sounds.sound_members sounds.sound_timers sounds.sound_departed sounds.sound lamps.lamps_of calls.valid_action calls.valid_state calls.message calls.detect words.parts_of handler.forwarded words.same_gossip collecting.is_old collecting.collects collecting.cleared collecting.rebuilt heap.push_all rows.those rows.count gone.make_room gone.look_up gone.without gone.depart gone.departs gone.death_of list.remove sizes.varint_from sizes.varint_length sizes.size_of_number sizes.size_over sizes.size_of D.first_over D.fate_of D.by_fate D.end_at calls.end_timer calls.create calls.add_peer M.leave M.fresh sounds.valid_gossip handler.believed handler.cause_at handler.joined_at handler.joined handler.recovered handler.suspected_other handler.suspected handler.deceased handler.judge_sender handler.list_after handler.row_after handler.news_of handler.act handler.item handler.stops_at handler.admit handler.answer_to M.pushed M.emit list.added list.add D.suspect D.asked D.pick_group D.send_ping_req D.declare
honest₂ = (cons tt (cons said₂ nil), (tt, (tt, (tt, (tt, (tt, tt))))))

first-of : {P : Gossip ℕ → Type 0} {g : Gossip ℕ} {gs : List (Gossip ℕ)} → Each P (g ∷ gs) → P g
first-of (cons p ps) = p

-- so 3 was asked for
pub asked_for : AskedFor numbers begins (t₂ ∷ h₂) 3 0
unfolding answers.when rows.swap limit.least_from limit.least_power limit.limit_of heap.climb_in heap.climb heap.lower heap.down_in heap.down heap.push heap.sink_top heap.remove_top heap.all_below choosing.terms_of choosing.was_noted choosing.take_top choosing.try_heap choosing.try_alive choosing.try_deceased choosing.over choosing.rounds choosing.choose choosing.or_else choosing.death list.shuffle list.advance list.update list.seek list.pick_from M.quiet M.and_more M.change M.spread M.loaded M.stored handler.acked handler.handle D.is_over D.due D.pinged D.send_ping D.heard D.waited sounds.in_range sounds.positioned sounds.sound_entry sounds.sound_heap sounds.sound_rows sounds.sound_members sounds.sound_timers sounds.sound_departed sounds.sound lamps.lamps_of calls.valid_action calls.valid_state calls.message calls.detect words.parts_of handler.forwarded words.same_gossip collecting.is_old collecting.collects collecting.cleared collecting.rebuilt heap.push_all rows.those rows.count gone.make_room gone.look_up gone.without gone.depart gone.departs gone.death_of list.remove sizes.varint_from sizes.varint_length sizes.size_of_number sizes.size_over sizes.size_of D.first_over D.fate_of D.by_fate D.end_at calls.end_timer calls.create calls.add_peer M.leave M.fresh sounds.valid_gossip handler.believed handler.cause_at handler.joined_at handler.joined handler.recovered handler.suspected_other handler.suspected handler.deceased handler.judge_sender handler.list_after handler.row_after handler.news_of handler.act handler.item handler.stops_at handler.admit handler.answer_to M.pushed M.emit list.added list.add D.suspect D.asked D.pick_group D.send_ping_req D.declare
asked_for = first-of {g = record { event = Suspected 2 3 0 }} {gs = []} (reports numbers numbers_lawful begins all_fresh h₂ honest₂.1 t₂ honest₂.0)

-- What is asked of a silent peer is its state, and that is all that can be: here 3's own Ack came in time, and after it a suspicion that was made up. The probe goes on to the ping requests
abbrev h₃ : List (Turn ℕ)
h₃ =
    turn 0 (Receive (Ack 9 none) (record { event = Suspected 8 3 0 } ∷ []) draws room)
    ∷ turn 0 (Receive (Ack 3 none) [] draws room)
    ∷ turn 0 (Step 10 draws room)
    ∷ turn 0 (Add 3 0 draws)
    ∷ turn 0 (Add 2 0 draws)
    ∷ []

pub answered_and_suspected : (cabinets.worlds numbers begins (turn 0 (Step 20 draws room) ∷ h₃) 0).wait ≡ enters (SendingPingReq 3 0) 20
unfolding answers.when rows.swap limit.least_from limit.least_power limit.limit_of heap.climb_in heap.climb heap.lower heap.down_in heap.down heap.push heap.sink_top heap.remove_top heap.all_below choosing.terms_of choosing.was_noted choosing.take_top choosing.try_heap choosing.try_alive choosing.try_deceased choosing.over choosing.rounds choosing.choose choosing.or_else choosing.death list.shuffle list.advance list.update list.seek list.pick_from M.quiet M.and_more M.change M.spread M.loaded M.stored handler.acked handler.handle D.is_over D.due D.pinged D.send_ping D.heard D.waited sounds.in_range sounds.positioned sounds.sound_entry sounds.sound_heap sounds.sound_rows sounds.sound_members sounds.sound_timers sounds.sound_departed sounds.sound lamps.lamps_of calls.valid_action calls.valid_state calls.message calls.detect words.parts_of handler.forwarded words.same_gossip collecting.is_old collecting.collects collecting.cleared collecting.rebuilt heap.push_all rows.those rows.count gone.make_room gone.look_up gone.without gone.depart gone.departs gone.death_of list.remove sizes.varint_from sizes.varint_length sizes.size_of_number sizes.size_over sizes.size_of D.first_over D.fate_of D.by_fate D.end_at calls.end_timer calls.create calls.add_peer M.leave M.fresh sounds.valid_gossip handler.believed handler.cause_at handler.joined_at handler.joined handler.recovered handler.suspected_other handler.suspected handler.deceased handler.judge_sender handler.list_after handler.row_after handler.news_of handler.act handler.item handler.stops_at handler.admit handler.answer_to M.pushed M.emit list.added list.add D.suspect D.asked D.pick_group D.send_ping_req D.declare
answered_and_suspected = refl

-- without that suspicion it rests
pub answered : (cabinets.worlds numbers begins (turn 0 (Step 20 draws room) ∷ turn 0 (Receive (Ack 3 none) [] draws room) ∷ turn 0 (Step 10 draws room) ∷ turn 0 (Add 3 0 draws) ∷ turn 0 (Add 2 0 draws) ∷ []) 0).wait ≡ enters SendingPing 20
unfolding answers.when rows.swap limit.least_from limit.least_power limit.limit_of heap.climb_in heap.climb heap.lower heap.down_in heap.down heap.push heap.sink_top heap.remove_top heap.all_below choosing.terms_of choosing.was_noted choosing.take_top choosing.try_heap choosing.try_alive choosing.try_deceased choosing.over choosing.rounds choosing.choose choosing.or_else choosing.death list.shuffle list.advance list.update list.seek list.pick_from M.quiet M.and_more M.change M.spread M.loaded M.stored handler.acked handler.handle D.is_over D.due D.pinged D.send_ping D.heard D.waited sounds.in_range sounds.positioned sounds.sound_entry sounds.sound_heap sounds.sound_rows sounds.sound_members sounds.sound_timers sounds.sound_departed sounds.sound lamps.lamps_of calls.valid_action calls.valid_state calls.message calls.detect words.parts_of handler.forwarded words.same_gossip collecting.is_old collecting.collects collecting.cleared collecting.rebuilt heap.push_all rows.those rows.count gone.make_room gone.look_up gone.without gone.depart gone.departs gone.death_of list.remove sizes.varint_from sizes.varint_length sizes.size_of_number sizes.size_over sizes.size_of D.first_over D.fate_of D.by_fate D.end_at calls.end_timer calls.create calls.add_peer M.leave M.fresh sounds.valid_gossip handler.believed handler.cause_at handler.joined_at handler.joined handler.recovered handler.suspected_other handler.suspected handler.deceased handler.judge_sender handler.list_after handler.row_after handler.news_of handler.act handler.item handler.stops_at handler.admit handler.answer_to M.pushed M.emit list.added list.add D.suspect D.asked D.pick_group D.send_ping_req D.declare
answered = refl
