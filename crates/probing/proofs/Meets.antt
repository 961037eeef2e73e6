-- That the promise says something, and that 2n − 1 is sharp over calls: a stretch that meets every condition, by computation. The own address is 1, the peers are 2 and 3, and both answer;
-- after two pings 3 is left out, and the third is to it.
-- Assumes nothing.
use Rattle.std.specs.Prelude.{◌≡◌, refl, true, List, [], ◌∷◌, map, ℕ, ◌+◌, eqb, length, replicate}
use Rattle.std.proofs.Common.{ap, sym, ◌∙◌, lit≤}
use Rattle.model.specs.Words as words
use Rattle.model.specs.Answers as answers
use Rattle.model.specs.Rows as rows
use Rattle.model.specs.Rows.{has}
use Rattle.model.specs.Limit as limit
use Rattle.model.specs.Heap as heap
use Rattle.model.specs.Choose as choosing
use Rattle.model.specs.Lamps as lamps
use Rattle.model.specs.Members as list
use Rattle.model.specs.Departed as gone
use Rattle.model.specs.Members.{addrs, listed}
use Rattle.model.specs.Node as M
use Rattle.model.specs.Node.{loaded}
use Rattle.model.specs.Handler as handler
use Rattle.model.specs.Detector as D
use Rattle.model.specs.Sound as sounds
use Rattle.model.specs.Calls as calls
use Rattle.history.specs.Beginnings.{Gave, restarts}
use Rattle.history.specs.Moments.{Moment}
use Rattle.history.specs.Histories.{trace}
use Rattle.probing.specs.Still.{NobodyMoves}
use Rattle.probing.specs.Stretch.{pings_of, requests_of, pinged_along}
use Rattle.probing.specs.Met.{numbers, beginning, begins, two_pings, three_pings, between}

-- a restart gives it; own, n = 2 peers
pub listed-now : (length (loaded begins.node).members.table ≡ 2 + 1) × (listed eqb 1 (loaded begins.node).members.table ≡ true) × (listed eqb 3 (loaded begins.node).members.table ≡ true)
unfolding M.loaded M.stored lamps.lamps_of
listed-now = (refl, refl, refl)

pub given : Gave numbers beginning begins.node
unfolding sounds.in_range sounds.positioned
given = restarts refl (record { few = lit≤ tt; own_valid = refl; valid = refl; once = refl; placed = refl })

pub counted : pings_of numbers three_pings begins ≡ 3
unfolding answers.when rows.swap limit.least_from limit.least_power limit.limit_of heap.climb_in heap.climb heap.lower heap.down_in heap.down heap.push heap.sink_top heap.remove_top heap.all_below choosing.terms_of choosing.was_noted choosing.take_top choosing.try_heap choosing.try_alive choosing.try_deceased choosing.over choosing.rounds choosing.choose choosing.or_else choosing.death list.shuffle list.advance list.update list.seek list.pick_from M.quiet M.and_more M.change M.spread M.loaded M.stored handler.acked handler.handle D.is_over D.due D.pinged D.send_ping D.heard D.waited sounds.in_range sounds.positioned sounds.sound_entry sounds.sound_heap sounds.sound_rows sounds.sound_members sounds.sound_timers sounds.sound_departed sounds.sound lamps.lamps_of calls.valid_action calls.valid_state calls.message calls.detect words.parts_of handler.forwarded
counted = refl

pub none-asked : requests_of numbers three_pings begins ≡ 0
unfolding answers.when rows.swap limit.least_from limit.least_power limit.limit_of heap.climb_in heap.climb heap.lower heap.down_in heap.down heap.push heap.sink_top heap.remove_top heap.all_below choosing.terms_of choosing.was_noted choosing.take_top choosing.try_heap choosing.try_alive choosing.try_deceased choosing.over choosing.rounds choosing.choose choosing.or_else choosing.death list.shuffle list.advance list.update list.seek list.pick_from M.quiet M.and_more M.change M.spread M.loaded M.stored handler.acked handler.handle D.is_over D.due D.pinged D.send_ping D.heard D.waited sounds.in_range sounds.positioned sounds.sound_entry sounds.sound_heap sounds.sound_rows sounds.sound_members sounds.sound_timers sounds.sound_departed sounds.sound lamps.lamps_of calls.valid_action calls.valid_state calls.message calls.detect words.parts_of handler.forwarded
none-asked = refl

-- who is listed at each moment, before it and after it
abbrev befores : List (Moment ℕ) → List (List ℕ)
befores ms = map (λ m. addrs m.before.members.table) ms

abbrev afters : List (Moment ℕ) → List (List ℕ)
afters ms = map (λ m. addrs m.after.members.table) ms

abbrev first : List (List ℕ) → List ℕ
first [] = []
first (l ∷ ls) = l

abbrev others : List (List ℕ) → List (List ℕ)
others [] = []
others (l ∷ ls) = ls

nobody : (ms : List (Moment ℕ)) → befores ms ≡ afters ms → NobodyMoves numbers ms
nobody [] e = tt
nobody (m ∷ ms) e = (λ a. ap (has eqb a) (ap first e), nobody ms (ap others e))

-- seven moments
abbrev same_seven : List (List ℕ)
same_seven = replicate 7 (3 ∷ 1 ∷ 2 ∷ [])

before-each : befores (trace numbers three_pings begins) ≡ same_seven
unfolding answers.when rows.swap limit.least_from limit.least_power limit.limit_of heap.climb_in heap.climb heap.lower heap.down_in heap.down heap.push heap.sink_top heap.remove_top heap.all_below choosing.terms_of choosing.was_noted choosing.take_top choosing.try_heap choosing.try_alive choosing.try_deceased choosing.over choosing.rounds choosing.choose choosing.or_else choosing.death list.shuffle list.advance list.update list.seek list.pick_from M.quiet M.and_more M.change M.spread M.loaded M.stored handler.acked handler.handle D.is_over D.due D.pinged D.send_ping D.heard D.waited sounds.in_range sounds.positioned sounds.sound_entry sounds.sound_heap sounds.sound_rows sounds.sound_members sounds.sound_timers sounds.sound_departed sounds.sound lamps.lamps_of calls.valid_action calls.valid_state calls.message calls.detect words.parts_of handler.forwarded
before-each = refl

after-each : afters (trace numbers three_pings begins) ≡ same_seven
unfolding answers.when rows.swap limit.least_from limit.least_power limit.limit_of heap.climb_in heap.climb heap.lower heap.down_in heap.down heap.push heap.sink_top heap.remove_top heap.all_below choosing.terms_of choosing.was_noted choosing.take_top choosing.try_heap choosing.try_alive choosing.try_deceased choosing.over choosing.rounds choosing.choose choosing.or_else choosing.death list.shuffle list.advance list.update list.seek list.pick_from M.quiet M.and_more M.change M.spread M.loaded M.stored handler.acked handler.handle D.is_over D.due D.pinged D.send_ping D.heard D.waited sounds.in_range sounds.positioned sounds.sound_entry sounds.sound_heap sounds.sound_rows sounds.sound_members sounds.sound_timers sounds.sound_departed sounds.sound lamps.lamps_of calls.valid_action calls.valid_state calls.message calls.detect words.parts_of handler.forwarded
after-each = refl

pub nobody-moves : NobodyMoves numbers (trace numbers three_pings begins)
nobody-moves = nobody (trace numbers three_pings begins) (before-each ∙ sym after-each)

pub each-pinged : pinged_along numbers three_pings begins ≡ 2 ∷ 2 ∷ 3 ∷ []
unfolding answers.when rows.swap limit.least_from limit.least_power limit.limit_of heap.climb_in heap.climb heap.lower heap.down_in heap.down heap.push heap.sink_top heap.remove_top heap.all_below choosing.terms_of choosing.was_noted choosing.take_top choosing.try_heap choosing.try_alive choosing.try_deceased choosing.over choosing.rounds choosing.choose choosing.or_else choosing.death list.shuffle list.advance list.update list.seek list.pick_from M.quiet M.and_more M.change M.spread M.loaded M.stored handler.acked handler.handle D.is_over D.due D.pinged D.send_ping D.heard D.waited sounds.in_range sounds.positioned sounds.sound_entry sounds.sound_heap sounds.sound_rows sounds.sound_members sounds.sound_timers sounds.sound_departed sounds.sound lamps.lamps_of calls.valid_action calls.valid_state calls.message calls.detect words.parts_of handler.forwarded
each-pinged = refl

-- 2n − 2 pings, and 3 isn't among the pinged
pub sharp : (pings_of numbers two_pings begins ≡ 2) × (pinged_along numbers two_pings begins ≡ 2 ∷ 2 ∷ [])
unfolding answers.when rows.swap limit.least_from limit.least_power limit.limit_of heap.climb_in heap.climb heap.lower heap.down_in heap.down heap.push heap.sink_top heap.remove_top heap.all_below choosing.terms_of choosing.was_noted choosing.take_top choosing.try_heap choosing.try_alive choosing.try_deceased choosing.over choosing.rounds choosing.choose choosing.or_else choosing.death list.shuffle list.advance list.update list.seek list.pick_from M.quiet M.and_more M.change M.spread M.loaded M.stored handler.acked handler.handle D.is_over D.due D.pinged D.send_ping D.heard D.waited sounds.in_range sounds.positioned sounds.sound_entry sounds.sound_heap sounds.sound_rows sounds.sound_members sounds.sound_timers sounds.sound_departed sounds.sound lamps.lamps_of calls.valid_action calls.valid_state calls.message calls.detect words.parts_of handler.forwarded
sharp = (refl, refl)

pub between-asks-nobody : requests_of numbers between begins ≡ 0
unfolding answers.when rows.swap limit.least_from limit.least_power limit.limit_of heap.climb_in heap.climb heap.lower heap.down_in heap.down heap.push heap.sink_top heap.remove_top heap.all_below choosing.terms_of choosing.was_noted choosing.take_top choosing.try_heap choosing.try_alive choosing.try_deceased choosing.over choosing.rounds choosing.choose choosing.or_else choosing.death list.shuffle list.advance list.update list.seek list.pick_from M.quiet M.and_more M.change M.spread M.loaded M.stored handler.acked handler.handle D.is_over D.due D.pinged D.send_ping D.heard D.waited sounds.in_range sounds.positioned sounds.sound_entry sounds.sound_heap sounds.sound_rows sounds.sound_members sounds.sound_timers sounds.sound_departed sounds.sound lamps.lamps_of calls.valid_action calls.valid_state calls.message calls.detect words.parts_of handler.forwarded list.added list.add M.emit M.pushed handler.judge_sender gone.look_up gone.death_of handler.list_after handler.row_after handler.news_of handler.act handler.admit handler.answer_to D.declare D.first_over D.fate_of D.by_fate D.end_at calls.add_peer calls.end_timer
between-asks-nobody = refl

-- a ping for another and an answer are sent, and none of its own
pub between-pings-nobody : (pings_of numbers between begins ≡ 0) × (pinged_along numbers between begins ≡ [])
unfolding answers.when rows.swap limit.least_from limit.least_power limit.limit_of heap.climb_in heap.climb heap.lower heap.down_in heap.down heap.push heap.sink_top heap.remove_top heap.all_below choosing.terms_of choosing.was_noted choosing.take_top choosing.try_heap choosing.try_alive choosing.try_deceased choosing.over choosing.rounds choosing.choose choosing.or_else choosing.death list.shuffle list.advance list.update list.seek list.pick_from M.quiet M.and_more M.change M.spread M.loaded M.stored handler.acked handler.handle D.is_over D.due D.pinged D.send_ping D.heard D.waited sounds.in_range sounds.positioned sounds.sound_entry sounds.sound_heap sounds.sound_rows sounds.sound_members sounds.sound_timers sounds.sound_departed sounds.sound lamps.lamps_of calls.valid_action calls.valid_state calls.message calls.detect words.parts_of handler.forwarded list.added list.add M.emit M.pushed handler.judge_sender gone.look_up gone.death_of handler.list_after handler.row_after handler.news_of handler.act handler.admit handler.answer_to D.declare D.first_over D.fate_of D.by_fate D.end_at calls.add_peer calls.end_timer
between-pings-nobody = (refl, refl)

between-before : befores (trace numbers between begins) ≡ same_seven
unfolding answers.when rows.swap limit.least_from limit.least_power limit.limit_of heap.climb_in heap.climb heap.lower heap.down_in heap.down heap.push heap.sink_top heap.remove_top heap.all_below choosing.terms_of choosing.was_noted choosing.take_top choosing.try_heap choosing.try_alive choosing.try_deceased choosing.over choosing.rounds choosing.choose choosing.or_else choosing.death list.shuffle list.advance list.update list.seek list.pick_from M.quiet M.and_more M.change M.spread M.loaded M.stored handler.acked handler.handle D.is_over D.due D.pinged D.send_ping D.heard D.waited sounds.in_range sounds.positioned sounds.sound_entry sounds.sound_heap sounds.sound_rows sounds.sound_members sounds.sound_timers sounds.sound_departed sounds.sound lamps.lamps_of calls.valid_action calls.valid_state calls.message calls.detect words.parts_of handler.forwarded list.added list.add M.emit M.pushed handler.judge_sender gone.look_up gone.death_of handler.list_after handler.row_after handler.news_of handler.act handler.admit handler.answer_to D.declare D.first_over D.fate_of D.by_fate D.end_at calls.add_peer calls.end_timer
between-before = refl

between-after : afters (trace numbers between begins) ≡ same_seven
unfolding answers.when rows.swap limit.least_from limit.least_power limit.limit_of heap.climb_in heap.climb heap.lower heap.down_in heap.down heap.push heap.sink_top heap.remove_top heap.all_below choosing.terms_of choosing.was_noted choosing.take_top choosing.try_heap choosing.try_alive choosing.try_deceased choosing.over choosing.rounds choosing.choose choosing.or_else choosing.death list.shuffle list.advance list.update list.seek list.pick_from M.quiet M.and_more M.change M.spread M.loaded M.stored handler.acked handler.handle D.is_over D.due D.pinged D.send_ping D.heard D.waited sounds.in_range sounds.positioned sounds.sound_entry sounds.sound_heap sounds.sound_rows sounds.sound_members sounds.sound_timers sounds.sound_departed sounds.sound lamps.lamps_of calls.valid_action calls.valid_state calls.message calls.detect words.parts_of handler.forwarded list.added list.add M.emit M.pushed handler.judge_sender gone.look_up gone.death_of handler.list_after handler.row_after handler.news_of handler.act handler.admit handler.answer_to D.declare D.first_over D.fate_of D.by_fate D.end_at calls.add_peer calls.end_timer
between-after = refl

pub between-moves-nobody : NobodyMoves numbers (trace numbers between begins)
between-moves-nobody = nobody (trace numbers between begins) (between-before ∙ sym between-after)
