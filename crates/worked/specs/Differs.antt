-- No wrong program of the table is its rule: on a small input the two give different answers, and beside it they agree.
-- Why that is enough: the contract of a function of the code is an equation between its result and the rule, for every input that it
-- admits. A program that gives another answer on one of them doesn't meet it, whatever else it does.
-- Assumes nothing.
use Rattle.std.specs.Prelude.{◌≡◌, refl, Bool, true, not, ◌&&◌, List, [], ◌∷◌, map, ℕ, zero, suc, length, replicate, eqb}
use Rattle.std.proofs.Math.Option.{none}
use Rattle.model.specs.declared.Kind.TheVariants as kind
use Rattle.model.specs.declared.State.{State}
use Rattle.model.specs.declared.State.TheVariants as state
use Rattle.model.specs.declared.Lamps.{Lamps}
use Rattle.model.specs.Rows.{every, swap}
use Rattle.laws.specs.Bools.{and_split}
use Rattle.model.specs.Bounds.{last_number, message_room, step_room}
use Rattle.model.specs.Answers.{Answer, when}
use Rattle.model.specs.Limit.{least_from, least_power, limit_of}
use Rattle.model.specs.Size.{varint_from, varint_length, size_of_number, size_over, size_of}
use Rattle.worked.specs.Numbered.{ipv4, address_end}
use Rattle.address.specs.IPv4.{digits, text_length}
use Rattle.model.specs.Words.{Nothing, Joined, Deceased, Gossip, Entry, nothing, unused, sends_of, Member, SendingPing, SendingPingReq, Ping, PingReq, Ack, Message, parts_of, same_gossip, Recovered, Suspected}
use Rattle.model.specs.Heap.{climb_in, climb, lower, down_in, down, push, sink_top, remove_top, all_below}
use Rattle.model.specs.Choose.{terms_of, was_noted, take_top, try_heap, try_alive, try_deceased, over, rounds, choose, or_else, death}
use Rattle.model.specs.Members.{Members, shuffle, advance, added, add, remove, update, seek, pick_from}
use Rattle.model.specs.Lamps.{lamps_of}
use Rattle.model.specs.Collect.{collects, cleared}
use Rattle.model.specs.Departed.{make_room, look_up, without, depart, departs, death_of}
use Rattle.model.specs.Node.{Node, Out, stored, loaded, with_disseminator, with_timers, quiet, and_more, pushed, emit, change, leave, spread}
use Rattle.model.specs.Handler.{Enter, judge_sender, list_after, row_after, news_of, act, joined_at, joined, recovered, believed, suspected_other, suspected, deceased, item, gossip, cause_at, stops_at, admit, answer_to, handle}
use Rattle.model.specs.Detector.{Stepped, is_over, due, enters, pinged, send_ping, heard, waited, suspect, asked, pick_group, send_ping_req, declare, fate_of, by_fate, end_at}
use Rattle.model.specs.Sound.{in_range, positioned, valid_gossip, sound_entry, sound_heap, sound_rows, sound_members, sound_timers, sound_departed, sound}
use Rattle.model.specs.Calls.{packed, valid_action, valid_state, add_peer, message, detect, end_timer}
use Rattle.worked.specs.Cabinet.{own, B, C, host, says, member, members, node, with_b, rule_of}
use Rattle.worked.specs.Seen.{same_numbers, told_apart, told_equal}
use Rattle.worked.specs.Seen as look
use Rattle.worked.specs.Wrong as wrong

-- a wrong program and its rule, what is seen of either on an input, an input at which they differ, and one beside it at which they agree
pub data Wrong : Type 1 where
  ◌is_not◌seen◌at◌yet_at◌ : {P I : Type 0} → P → P → (P → I → List ℕ) → I → I → Wrong

infix 10 ◌is_not◌seen◌at◌yet_at◌
abbrev pub Differs : Wrong → Type 0
Differs (program is_not rule seen run at far yet_at near) = run program far ≡ run rule far → ⊥

abbrev pub Agrees : Wrong → Type 0
Agrees (program is_not rule seen run at far yet_at near) = run program near ≡ run rule near

pub data All : List Wrong → Type 1 where
  end : All []
  ◌and◌ : {w : Wrong} {ws : List Wrong} → Differs w × Agrees w → All ws → All (w ∷ ws)

infixr 10 ◌and◌
-- both, to be tested
abbrev told : Wrong → Bool
told (program is_not rule seen run at far yet_at near) =
    not (same_numbers (run program far) (run rule far)) && same_numbers (run program near) (run rule near)

abbrev told_all : List Wrong → Bool
told_all [] = true
told_all (w ∷ ws) = told w && told_all ws

-- Inputs: gossips, and entries that were sent n times
abbrev x : Gossip ℕ
x = says Joined B 0

abbrev y : Gossip ℕ
y = says Joined C 0

abbrev z : Gossip ℕ
z = says Joined (host 4) 0

abbrev dead : ℕ → Gossip ℕ
dead n = says Deceased B n

abbrev sent : ℕ → Gossip ℕ → Entry ℕ
sent n g = record { gossip = g; sends = n; size = size_of ipv4 g }

abbrev letter : Gossip ℕ → Message ℕ
letter g = record { target = B; action = Ping own none; gossip = g ∷ [] }

-- all are listed Alive at 0, in their order
abbrev among : List ℕ → ℕ → Members ℕ
among l p = members (map (λ a. member a state.Alive 0) l) l p

-- hosts below n, the greatest first
abbrev hosts : ℕ → List ℕ
hosts zero = []
hosts (suc n) = host n ∷ hosts n

abbrev alone : Node ℕ
alone = node (among (own ∷ []) 0) [] []

abbrev emptied : Node ℕ
emptied = node (among [] 0) [] []

-- own alone is listed, and these are to be spread
abbrev spreading : List (Entry ℕ) → List (Entry ℕ) → Node ℕ
spreading alive deceased = with_disseminator alone (record { alive = alive; deceased = deceased })

-- an address that is not listed comes in
abbrev entered : ℕ → ℕ → Node ℕ → List ℕ → Answer (Out ℕ)
entered a n s ds = act ipv4 (Enter a n) s ds

-- B has died at 7, or at 3 and at 7
abbrev buried : Node ℕ
buried = spreading [] (sent 0 (dead 7) ∷ [])

abbrev buried_twice : Node ℕ
buried_twice = spreading [] (sent 0 (dead 3) ∷ sent 0 (dead 7) ∷ [])

abbrev three_told : Node ℕ
three_told = spreading (sent 0 x ∷ sent 0 y ∷ sent 0 z ∷ []) []

abbrev many_told : Node ℕ
many_told = spreading (replicate 10 (sent 0 x)) (replicate 70 (sent 0 (dead 0)))

abbrev heap_full : Node ℕ
heap_full = spreading (replicate 128 (sent 0 x)) []

abbrev deaths_full : Node ℕ
deaths_full = spreading [] (replicate 128 (sent 0 (dead 0)))

abbrev list_full : Node ℕ
list_full = node (among (hosts 64) 0) [] []

-- and one that isn't listed has died at n
abbrev full_after_a_death : ℕ → Node ℕ
full_after_a_death n = with_disseminator list_full (record { alive = []; deceased = (sent 0 (says Deceased (host 64) n) ∷ []) })

abbrev timers_full : Node ℕ
timers_full = with_timers alone (replicate 16 (record { addr = C; number = 1; since = 2 }))

-- a timer of B at 4 runs
abbrev timed : Node ℕ → Node ℕ
timed s = with_timers s (record { addr = B; number = 4; since = 2 } ∷ [])

-- the deceased heap is full
abbrev with_b_full : State → Node ℕ
with_b_full st = with_disseminator (with_b st 4) deaths_full.disseminator

-- C is looked at next, or own
abbrev before_c : Node ℕ
before_c = node (among (B ∷ C ∷ own ∷ []) 1) [] []

abbrev before_own : Node ℕ
before_own = node (among (B ∷ C ∷ own ∷ []) 2) [] []

abbrev pub inputs : List (Node ℕ)
inputs =
    alone ∷ emptied ∷ buried ∷ buried_twice ∷ three_told ∷ many_told ∷ heap_full ∷ deaths_full ∷ list_full ∷ full_after_a_death last_number
    ∷ timers_full ∷ before_c ∷ before_own ∷ timed alone ∷ timed (with_b state.Pending 4) ∷ timed (with_b_full state.Alive)
    ∷ with_b state.Alive 0 ∷ with_b state.Alive 4 ∷ with_b state.Pending 4 ∷ with_b state.Pending 5 ∷ with_b state.Suspected 4 ∷ []

-- two that are not sound: the position is the length, and the order has one address twice
abbrev past_the_end : Node ℕ
past_the_end = node (among (own ∷ []) 1) [] []

abbrev orders_own_twice : Node ℕ
orders_own_twice = node (members (with_b state.Alive 0).members.table (own ∷ own ∷ []) 0) [] []

-- what a test says of the list of a node
abbrev of_list : (ℕ → List (Member ℕ) → List ℕ → ℕ → ℕ → Lamps → Bool) → Node ℕ → List ℕ
of_list test s = let r = stored ipv4 s in look.of_test (test r.own r.table r.order r.listed r.position r.lamps)

-- and of the same list with other lamps
abbrev of_lit : (ℕ → List (Member ℕ) → List ℕ → ℕ → ℕ → Lamps → Bool) → Node ℕ → Lamps → List ℕ
of_lit test s lamps = let r = stored ipv4 s in look.of_test (test r.own r.table r.order r.listed r.position lamps)

abbrev lit : ℕ → ℕ → ℕ → Lamps
lit alive pending suspected = record { alive = alive; pending = pending; suspected = suspected }

abbrev of_rule : (Node ℕ → List ℕ → Answer (Out ℕ)) → Node ℕ → List ℕ → List ℕ
of_rule rule s ds = look.of_answer look.of_out (rule s ds)

abbrev of_detector : (Node ℕ → List ℕ → Answer (Stepped ℕ)) → Node ℕ → List ℕ
of_detector rule s = look.of_answer look.of_stepped (rule s [])

abbrev pub wrongs : List Wrong
wrongs =
    -- the calls
    (wrong.addresses_before_the_count is_not message ipv4
    seen (λ p gs. look.of_outcome (p (stored ipv4 alone) (Ack B none) (says Joined address_end 0 ∷ gs) [] message_room))
    at replicate 64 nothing yet_at [])
    ∷ (wrong.soundness_forgotten is_not add_peer ipv4 seen (λ p s. look.of_outcome (p (stored ipv4 s) B 0 (0 ∷ []))) at past_the_end yet_at alone)
    ∷ (wrong.room_before_soundness is_not end_timer ipv4
    seen (λ p s. look.of_outcome (p (stored ipv4 s) 20 (record { gossip = 0; events = 0 }))) at past_the_end yet_at alone)
    ∷ (wrong.tick_renewed is_not detect ipv4
    seen (λ p now. look.of_step (p (stored ipv4 alone) (enters SendingPing 15) now [] step_room)) at 20 yet_at 25)
    ∷ (wrong.due_tested_first is_not detect ipv4
    seen (λ p s. look.of_step (p (stored ipv4 s) (enters SendingPing 15) 20 [] step_room)) at past_the_end yet_at alone)
    ∷ (wrong.written_from_the_beginning is_not packed
    seen (λ p ms. look.each look.of_gossip (p ms)) at (letter x ∷ letter y ∷ []) yet_at (letter x ∷ []))
    -- the refusals of the rules
    ∷ (wrong.number_comes_round is_not rule_of Suspected seen (λ p n. of_rule (p own n) alone []) at last_number yet_at 6)
    ∷ (wrong.nine_for_any_heap is_not emit ipv4 kind.Deceased seen (λ p s. of_rule (p (dead 1)) s []) at deaths_full yet_at alone)
    ∷ (wrong.records_from_one is_not stops_at ipv4 seen (λ p gs. look.of_cause (p gs alone [])) at (x ∷ []) yet_at [])
    ∷ (wrong.events_counted is_not stops_at ipv4 seen (λ p gs. look.of_cause (p gs alone [])) at (nothing ∷ x ∷ []) yet_at (x ∷ []))
    ∷ (wrong.last_record_told is_not stops_at ipv4 seen (λ p gs. look.of_cause (p gs alone [])) at (x ∷ nothing ∷ []) yet_at (x ∷ []))
    ∷ (wrong.sender_for_its_record B is_not stops_at ipv4 seen (λ p gs. look.of_cause (p gs alone [])) at (says Joined B 0 ∷ []) yet_at (says Joined C 0 ∷ []))
    ∷ (wrong.oldest_ends is_not declare ipv4 seen (λ p s. of_detector (p B 4 20) s) at timers_full yet_at alone)
    ∷ (wrong.room_before_number is_not rule_of Joined
    seen (λ p n. of_rule (p (host 64) 0) (full_after_a_death n) []) at last_number yet_at 7)
    ∷ (wrong.pushed_before_added is_not entered seen (λ p ds. of_rule (p B 0) heap_full ds) at [] yet_at (0 ∷ []))
    ∷ (wrong.drawn_before_room is_not add eqb
    seen (λ p ds. look.of_answer look.of_members (p (host 64) 0 list_full.members ds)) at [] yet_at (0 ∷ []))
    -- soundness
    ∷ (wrong.order_only_counted is_not sound_members ipv4 seen of_list at orders_own_twice yet_at with_b state.Alive 0)
    ∷ (wrong.emptied_list_refused is_not sound_members ipv4 seen of_list at emptied yet_at alone)
    ∷ (wrong.only_the_sum is_not sound_members ipv4 seen (λ p l. of_lit p (with_b state.Pending 4) l) at lit 1 0 0 yet_at lit 0 1 0)
    ∷ (wrong.only_the_sum is_not sound_members ipv4 seen (λ p l. of_lit p (with_b state.Pending 4) l) at lit 0 0 1 yet_at lit 0 1 1)
    -- the lamps
    ∷ (wrong.own_counted is_not lamps_of eqb seen (λ p a. look.of_lamps (p a (with_b state.Suspected 4).members.table)) at own yet_at C)
    ∷ (wrong.pending_lit_alive is_not lamps_of eqb seen (λ p st. look.of_lamps (p own (with_b st 4).members.table)) at state.Pending yet_at state.Suspected)
    ∷ (wrong.any_size_in_bounds is_not sound_entry ipv4
    seen (λ p size. look.of_test (p kind.Alive (record { gossip = x; sends = 0; size = size }))) at 33 yet_at 32)
    ∷ (wrong.sent22_refused is_not sound_entry ipv4 seen (λ p n. look.of_test (p kind.Alive (sent n x))) at 22 yet_at 21)
    ∷ (wrong.sender_not_tested is_not valid_gossip ipv4
    seen (λ p from. look.of_test (p (record { event = Joined from B 0 }))) at address_end yet_at C)
    -- the heap and choosing
    ∷ (wrong.stops_a_place_early is_not push unused sends_of
    seen (λ p es. look.each look.of_entry (p es (sent 1 y))) at (sent 2 x ∷ []) yet_at (sent 0 x ∷ sent 2 x ∷ sent 2 z ∷ []))
    ∷ (wrong.last_stops_at_an_equal is_not remove_top unused sends_of
    seen (λ p es. look.each look.of_entry (p es)) at three_told.disseminator.alive yet_at (sent 0 x ∷ sent 1 y ∷ sent 2 z ∷ []))
    ∷ (wrong.shares_of_the_whole is_not terms_of seen (λ p n. look.of_terms (p n 1169 3)) at 6 yet_at 0)
    ∷ (wrong.size_not_tested is_not choose ipv4
    seen (λ p (s : Node ℕ). look.itself (length (p (terms_of 64 1169 1) s.disseminator.alive s.disseminator.deceased).chosen)) at many_told yet_at three_told)
    ∷ (wrong.last_ones_dropped is_not choose ipv4 seen (λ p n. look.of_choice (p (terms_of n 1169 3) three_told.disseminator.alive [])) at 2 yet_at 6)
    ∷ (wrong.greatest_death is_not death ipv4 seen (λ p (s : Node ℕ). look.of_option (p B s.disseminator.deceased)) at buried_twice yet_at buried)
    -- list and order
    ∷ (wrong.update_adds is_not update eqb seen (λ p a. look.of_members (p (member a state.Alive 1) (with_b state.Alive 0).members)) at C yet_at B)
    ∷ (wrong.keeps_the_smaller is_not update eqb seen (λ p n. look.of_members (p (member B state.Suspected n) (with_b state.Pending 5).members)) at 4 yet_at 5)
    ∷ (wrong.keeps_the_state_too is_not update eqb seen (λ p n. look.of_members (p (member B state.Suspected n) (with_b state.Pending 5).members)) at 4 yet_at 6)
    ∷ (wrong.raises_an_equal is_not update eqb seen (λ p n. look.of_members (p (member B state.Suspected n) (with_b state.Pending 5).members)) at 5 yet_at 6)
    ∷ (wrong.each_picked_once is_not pick_from eqb 0
    seen (λ p wanted. look.of_answer look.of_picked (p own none wanted before_c.members (2 ∷ 0 ∷ []))) at 2 yet_at 1)
    ∷ (wrong.never_advances is_not pick_from eqb 0
    seen (λ p wanted. look.of_answer look.of_picked (p own none wanted before_own.members (0 ∷ 1 ∷ []))) at 1 yet_at 0)
    ∷ (wrong.gives_up_after_two_looks is_not pick_from eqb 0
    seen (λ p (s : Node ℕ). look.of_answer look.of_picked (p own none 1 s.members (0 ∷ 1 ∷ []))) at before_own yet_at before_c)
    -- handler
    ∷ (wrong.death_forgotten is_not rule_of Joined seen (λ p s. of_rule (p B 2) s (0 ∷ [])) at buried yet_at alone)
    ∷ (wrong.raised_to_alive is_not rule_of Joined seen (λ p st. of_rule (p B 5) (with_b st 4) []) at state.Suspected yet_at state.Alive)
    ∷ (wrong.recovered_at_an_equal is_not rule_of Recovered seen (λ p n. of_rule (p B n) (with_b state.Suspected 4) []) at 4 yet_at 5)
    ∷ (wrong.older_recovery_taken is_not rule_of Recovered seen (λ p n. of_rule (p B n) (with_b state.Suspected 4) []) at 3 yet_at 5)
    ∷ (wrong.recovered_keeps_the_state is_not rule_of Recovered seen (λ p st. of_rule (p B 5) (with_b st 4) []) at state.Suspected yet_at state.Alive)
    ∷ (wrong.own_record_moved is_not rule_of Suspected seen (λ p a. of_rule (p a 0) (with_b state.Alive 0) []) at own yet_at B)
    ∷ (wrong.own_is_spared is_not rule_of Deceased seen (λ p a. of_rule (p a 0) (with_b state.Alive 0) []) at own yet_at B)
    ∷ (wrong.stops_at_no_event is_not gossip ipv4
    seen (λ p gs. of_rule (p gs) alone (0 ∷ [])) at (nothing ∷ x ∷ []) yet_at (x ∷ nothing ∷ []))
    ∷ (wrong.no_event_taken_for_joined is_not item ipv4 seen (λ p e. of_rule (p e) alone (0 ∷ [])) at Nothing yet_at Joined own B 0)
    ∷ (wrong.admitted_before_the_gossip is_not handle ipv4
    seen (λ p gs. look.of_answer look.of_effect (p (Ping B none) gs alone (0 ∷ []))) at (says Joined B 5 ∷ []) yet_at [])
    ∷ (wrong.asker_added is_not handle ipv4
    seen (λ p from. look.of_answer look.of_effect (p (PingReq from (host 4)) [] (with_b state.Alive 0) (0 ∷ []))) at C yet_at B)
    -- detector
    ∷ (wrong.spent_gossip_written is_not pinged ipv4 seen (λ p picks. look.of_stepped (p 20 (x ∷ []) (with_b state.Alive 0) picks)) at [] yet_at (B ∷ []))
    ∷ (wrong.pending_has_answered is_not waited ipv4
    seen (λ p st. of_detector (p B (SendingPingReq B 4) 20) (with_b st 4)) at state.Pending yet_at state.Suspected)
    ∷ (wrong.suspected_at_the_held_number is_not send_ping_req ipv4 seen (λ p n. of_detector (p B n 20) (with_b state.Pending 5)) at 4 yet_at 5)
    ∷ (wrong.stays_in_declaring is_not declare ipv4 seen (λ p s. of_detector (p B 4 20) s) at alone yet_at timers_full)
    -- an ended timer
    ∷ (wrong.pending_spared is_not end_at ipv4 seen (λ p st. of_rule (p 0) (timed (with_b st 4)) []) at state.Pending yet_at state.Suspected)
    ∷ (wrong.gone_is_told is_not end_at ipv4 seen (λ p s. of_rule (p 0) (timed s) []) at alone yet_at with_b state.Suspected 4)
    ∷ (wrong.full_anyway is_not end_at ipv4 seen (λ p st. of_rule (p 0) (timed (with_b_full st)) []) at state.Alive yet_at state.Suspected)
    -- what demand 3 shuts out
    ∷ (wrong.entered_twice is_not added eqb seen (λ p d. look.of_members (p C 0 d (with_b state.Alive 0).members)) at 0 yet_at 1)
    ∷ (wrong.writes_back is_not suspect ipv4 seen (λ p n. of_rule (p B n) (with_b state.Pending 5) []) at 4 yet_at 5)
    ∷ (wrong.pinged_elsewhere is_not pinged ipv4 seen (λ p picks. look.of_stepped (p 20 [] (with_b state.Alive 0) picks)) at (B ∷ []) yet_at [])
    ∷ (wrong.suspicion_removes is_not rule_of Suspected seen (λ p n. of_rule (p B n) (with_b state.Alive 4) []) at 4 yet_at 3)
    ∷ (wrong.older_death_taken is_not rule_of Deceased seen (λ p n. of_rule (p B n) (with_b state.Alive 4) []) at 3 yet_at 2)
    ∷ (wrong.any_death_taken is_not rule_of Deceased seen (λ p n. of_rule (p B n) (with_b state.Alive 4) []) at 2 yet_at 4)
    ∷ []

-- what the test says of a row holds of it
all_told : (ws : List Wrong) → told_all ws ≡ true → All ws
all_told [] e = end
all_told (w ∷ ws) e = let p = and_split (told w) (told_all ws) e in both w p.0 and all_told ws p.1
  where
    both : (w : Wrong) → told w ≡ true → Differs w × Agrees w
    both (program is_not rule seen run at far yet_at near) e =
        let differs : Bool = not (same_numbers (run program far) (run rule far)) in
        let p = and_split differs (same_numbers (run program near) (run rule near)) e in
        (told_apart (run program far) (run rule far) p.0, told_equal (run program near) (run rule near) p.1)

pub differ : All wrongs
unfolding when swap least_from least_power limit_of varint_from varint_length size_of_number size_over size_of digits text_length parts_of same_gossip climb_in climb lower down_in down push sink_top remove_top all_below terms_of was_noted take_top try_heap try_alive try_deceased over rounds choose or_else death shuffle advance added add remove update seek pick_from stored loaded quiet and_more collects cleared pushed emit change leave spread joined_at joined recovered believed suspected_other suspected deceased judge_sender make_room look_up without depart departs death_of list_after row_after news_of act item cause_at stops_at admit answer_to handle is_over due pinged send_ping heard waited suspect asked pick_group send_ping_req declare fate_of by_fate end_at in_range positioned valid_gossip sound_entry sound_heap sound_rows sound_members sound_timers sound_departed sound lamps_of valid_action valid_state add_peer message detect end_timer
differ = all_told wrongs refl

-- and each contract admits these inputs, since each node is sound
pub inputs-sound : every (λ s. sound ipv4 (stored ipv4 s)) inputs ≡ true
unfolding varint_from varint_length size_of_number size_over size_of digits text_length parts_of all_below stored in_range positioned valid_gossip sound_entry sound_heap sound_rows sound_members sound_timers sound_departed sound lamps_of
inputs-sound = refl
